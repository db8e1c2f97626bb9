-- What is kept of a file that is not refused: it is accepted, and the sets are its states. Assumes nothing.
use Rattle.meaning.proofs.Prelude.{ℕ, List, ◌≤◌, ◌≡◌, refl, sym, ap, ◌∙◌, subst, length, take, arith}
use Rattle.meaning.proofs.Definitions.{most_states, accepted, file_answer, states_of}
use Rattle.std.specs.Prelude.{Result, Ok, Err, IfOk}
use Rattle.answers.specs.declared.Refusal.{Refusal}
use Rattle.answers.specs.Refused.{answered, refusal_answer}
use Rattle.declarations.specs.Known.{Knows, fields_read}
use Rattle.states.specs.declared.States.{States}
use Rattle.states.specs.Packed.{held}
use Rattle.states.proofs.Packed.{take-padded}
use Rattle.parser.proofs.Limits.{accepted-few}
use Rattle.acceptance.specs.declared.Acceptance.{Acceptance}
use Rattle.acceptance.specs.Accepted.{IsAccepted}

module _ (file : List ℕ) (a : Acceptance) (e : (answered a.states ≡ file_answer file) × Knows a.known (fields_read file) × IfOk a.states (λ s. s ≡ held (states_of file))) where
  module _ {states : States} (was : a.states ≡ Ok states) where
    is_accepted : file_answer file ≡ accepted
    is_accepted = sym e.0 ∙ ap answered was

    is : states ≡ held (states_of file)
    is = subst (λ (r : Result States Refusal). IfOk r (λ s. s ≡ held (states_of file))) was e.2

    pub states-few : states.count ≤ most_states
    states-few = omega (arith, ap (λ (s : States). s.count) is, accepted-few file is_accepted)

    -- what the calls hand on
    pub kept : {sets : List ℕ} → sets ≡ take states.count states.sets → IsAccepted file a.known sets
    kept cut =
        record {
          answer = is_accepted;
          knows = e.1;
          states_are = cut ∙ (ap (λ (s : States). take s.count s.sets) is ∙ take-padded (states_of file) (length (states_of file)) refl);
        }

  pub refused-with : {refusal : Refusal} → a.states ≡ Err refusal → refusal_answer refusal ≡ file_answer file
  refused-with was = sym (ap answered was) ∙ e.0
