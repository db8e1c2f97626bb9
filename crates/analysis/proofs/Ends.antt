-- How an analysis ends: refused with 1 to 8, with 9, or done. Assumes nothing.
use Rattle.meaning.proofs.Prelude.{ℕ, ◌≤◌, ◌≡◌, sym, ap, ◌∙◌, ◌≢◌, Bool, true, false, not, ◌&&◌, List, T, leb, leb→le, length, get_or}
use Rattle.meaning.proofs.Definitions.{cells, file_answer, states_of, tables_of, model_of, verdicts_of, Buffers, long_enough, analysis_answer, analysed}
use Rattle.meaning.proofs.Definitions.{analysis_done}
use Rattle.meaning.specs.Refusals as meant
use Rattle.meaning.proofs.Lists.{both}
use Rattle.meaning.proofs.Answers.{then_first, then_next}
use Rattle.meaning.proofs.Calls.{analysis-refused, analysis-filled}
use Rattle.std.specs.Prelude.{Err}
use Rattle.answers.specs.declared.Refusal.{Refusal}
use Rattle.answers.specs.declared.Refusal.TheVariants.{BufferTooShort}
use Rattle.answers.specs.Refused.{refusal_answer}
use Rattle.declarations.specs.declared.Known.{Known}
use Rattle.declarations.specs.Tests.{known_symbols, known_predicates}
use Rattle.acceptance.specs.Accepted.{IsAccepted}
use Rattle.acceptance.proofs.Answering.{refusal_number}
use Rattle.acceptance.proofs.Asked.{queries-counted, table-cells, mark-cells}
use Rattle.analysis.specs.Given.{given}

module _ (file : List ℕ) (before : Buffers) where
  -- a refusal, with all buffers untouched
  refused-is : (r : Refusal) → refusal_answer r ≡ analysis_answer file before → given (Err r) before ≡ analysed file before
  unfolding analysed
  refused-is r e =
      let w = analysis-refused file before (λ z. refusal_number r (ap (λ (x : meant.Answer). x.number) e ∙ z)) in
      λ i. record { answer = e i; states = sym w.1 i; atoms = sym w.2 i; rounds = sym w.3 i; after = sym w.0 i }

  -- 1 to 8
  pub file_refused : (r : Refusal) → refusal_answer r ≡ file_answer file → given (Err r) before ≡ analysed file before
  unfolding analysis_answer
  file_refused r e =
      let pos : (file_answer file).number ≢ 0 = λ z. refusal_number r (ap (λ (x : meant.Answer). x.number) e ∙ z) in
      refused-is r (e ∙ sym (then_first (file_answer file) (meant.refuse_if (not (long_enough file before)) 9 0) pos))

  module _ (e : file_answer file ≡ meant.accepted) where
    next : analysis_answer file before ≡ meant.refuse_if (not (long_enough file before)) 9 0
    unfolding analysis_answer
    next = then_next (file_answer file) (meant.refuse_if (not (long_enough file before)) 9 0) (ap (λ (x : meant.Answer). x.number) e)

    -- 9
    pub too_short : long_enough file before ≡ false → given (Err BufferTooShort) before ≡ analysed file before
    too_short short = refused-is BufferTooShort (sym (next ∙ ap (λ (b : Bool). meant.refuse_if (not b) 9 0) short))

    -- 0
    pub done : long_enough file before ≡ true → analysis_done file before ≡ analysed file before
    unfolding analysed
    done long =
        let zero_is : analysis_answer file before ≡ meant.accepted = next ∙ ap (λ (b : Bool). meant.refuse_if (not b) 9 0) long in
        let w = analysis-filled file before (ap (λ (x : meant.Answer). x.number) zero_is) in
        λ i. record { answer = sym zero_is i; states = sym w.1 i; atoms = sym w.2 i; rounds = sym w.3 i; after = sym w.0 i }

  -- the lengths that are looked at are those that are needed
  pub enough-is : {known : Known} {states symbols preds : List ℕ} {queries : ℕ}
      → IsAccepted file known states
      → symbols ≡ known_symbols known
      → preds ≡ known_predicates known
      → queries ≡ get_or known.counts 6 0
      → (leb (length states) (length before.states) && leb (cells (length states) symbols) (length before.tables) && leb (cells (length states) preds) (length before.marks) && leb queries (length before.verdicts)) ≡ long_enough file before
  enough-is h symbols preds queries =
      let a = ap length h.states_are in
      let b = table-cells h symbols in
      let c = mark-cells h preds in
      let d = queries ∙ queries-counted h in
      λ i. leb (a i) (length before.states) && leb (b i) (length before.tables) && leb (c i) (length before.marks) && leb (d i) (length before.verdicts)

  pub room : T (long_enough file before)
      → (length (states_of file) ≤ length before.states)
      × (length (tables_of file) ≤ length before.tables)
      × (length (model_of file) ≤ length before.marks)
      × (length (verdicts_of file) ≤ length before.verdicts)
  room t =
      let a : Bool = leb (length (states_of file)) (length before.states) in
      let b : Bool = leb (length (tables_of file)) (length before.tables) in
      let c : Bool = leb (length (model_of file)) (length before.marks) in
      let d : Bool = leb (length (verdicts_of file)) (length before.verdicts) in
      let u = both (a && b && c) d t in
      let v = both (a && b) c u.0 in
      let w = both a b v.0 in
      (leb→le _ _ w.0, leb→le _ _ w.1, leb→le _ _ v.1, leb→le _ _ u.1)
