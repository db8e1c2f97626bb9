-- What an analysis hands back, as `meaning` has it, and what its parts are handed.
use Rattle.std.specs.Prelude.{ℕ, ◌≡◌, List, length, Result, Ok, Err}
use Rattle.meaning.specs.Refusals.{accepted}
use Rattle.meaning.specs.Files.{file_answer}
use Rattle.meaning.specs.Calls.{states_of, model_of, verdicts_of, written, Buffers, Analysed}
use Rattle.answers.specs.declared.Refusal.{Refusal}
use Rattle.answers.specs.Refused.{answered}
use Rattle.analysis.specs.declared.Counts.{Counts}

-- the counts: every one is 0 with a refusal
abbrev pub counts_given : Result Counts Refusal → Counts
counts_given (Ok counts) = counts
counts_given (Err r) = record { states = 0; atoms = 0; rounds = 0 }

-- number, place and counts, with the buffers afterwards
abbrev pub given : Result Counts Refusal → Buffers → Analysed
given r after =
    record {
      answer = answered r;
      states = (counts_given r).states;
      atoms = (counts_given r).atoms;
      rounds = (counts_given r).rounds;
      after = after;
    }

-- buffers that an analysis of an accepted file has filled, with m states
pub record Filled (file : List ℕ) (m : ℕ) (states marks verdicts : List ℕ) : Type 0 where
  pub answer : file_answer file ≡ accepted
  pub count : m ≡ length (states_of file)
  pub states_are : states ≡ written (states_of file) states
  pub marks_are : marks ≡ written (model_of file) marks
  pub verdicts_are : verdicts ≡ written (verdicts_of file) verdicts
