-- What is handed on of a file that is accepted.
use Rattle.std.specs.Prelude.{◌≡◌, ℕ, List}
use Rattle.meaning.specs.Refusals.{accepted}
use Rattle.meaning.specs.Files.{file_answer}
use Rattle.meaning.specs.Calls.{states_of}
use Rattle.declarations.specs.declared.Known.{Known}
use Rattle.declarations.specs.Known.{Knows, fields_read}

-- an accepted file, with what is known of it and its states
pub record IsAccepted (file : List ℕ) (known : Known) (states : List ℕ) : Type 0 where
  pub answer : file_answer file ≡ accepted
  pub knows : Knows known (fields_read file)
  pub states_are : states ≡ states_of file
