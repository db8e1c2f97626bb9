-- How a sheet check ends: refused with 9, or answered by the sheet. Assumes nothing.
use Rattle.meaning.proofs.Prelude.{ℕ, ◌≤◌, ◌≡◌, sym, ap, ◌∙◌, subst, ap₂, ◌≢◌, Bool, true, false, not, ◌&&◌, List, ◌++◌, T, leb, leb→le, eqb, eqb→eq}
use Rattle.meaning.proofs.Prelude.{length, drop, replicate, length-replicate}
use Rattle.meaning.proofs.Definitions.{cells, answer_of_sheet, rules_of, file_answer, predicate_arities, states_of, interpretation_of, tables_of, model_of}
use Rattle.meaning.proofs.Definitions.{written, Lent, lent_enough, lent_answer, check_answer, checked}
use Rattle.meaning.specs.Refusals as meant
use Rattle.meaning.proofs.Lists.{both, cond_yes, cond_no, not_intro}
use Rattle.meaning.proofs.Answers.{then_first, then_next}
use Rattle.std.specs.Prelude.{Result, Err}
use Rattle.answers.specs.declared.Refusal.{Refusal}
use Rattle.answers.specs.declared.Refusal.TheVariants.{BufferTooShort}
use Rattle.answers.specs.Refused.{answered, refusal_answer}
use Rattle.declarations.specs.declared.Known.{Known}
use Rattle.declarations.specs.Tests.{known_symbols, known_predicates}
use Rattle.acceptance.specs.Accepted.{IsAccepted}
use Rattle.acceptance.proofs.Answering.{refusal_number}
use Rattle.acceptance.proofs.Asked.{table-cells, mark-cells}
use Rattle.sheet_check.specs.Given.{gave}

-- a part of zeros, with the marks past it
pub zeros_written : (marks : List ℕ) {part : List ℕ} {size n k : ℕ} → part ≡ replicate n 0 → size ≡ n → size ≡ k → part ++ drop size marks ≡ written (replicate k 0) marks
zeros_written marks {part} {size} {n} {k} zeros e is =
    ap₂ (λ (l : List ℕ) (j : ℕ). l ++ drop j marks) (zeros ∙ ap (λ (j : ℕ). replicate j 0) (sym e ∙ is)) (is ∙ sym (length-replicate k 0))

module _ (file sheet : List ℕ) (before : Lent) where
  -- a refusal with 1 to 9, with both buffers untouched
  refused-is : (r : Refusal) → refusal_answer r ≡ lent_answer file before → gave {A = Unit} (Err r) before ≡ checked file sheet before
  unfolding checked check_answer
  refused-is r e =
      let h : (lent_answer file before).number ≢ 0 = λ z. refusal_number r (ap (λ (x : meant.Answer). x.number) e ∙ z) in
      let own = answer_of_sheet (states_of file) (interpretation_of file) (predicate_arities file) (rules_of file).clauses sheet in
      let answer = e ∙ sym (then_first (lent_answer file before) own h) in
      let after = cond_no (meant.ok (lent_answer file before)) (record { tables = written (tables_of file) before.tables; marks = written (replicate (length (model_of file)) 0) before.marks }) before (not_intro (meant.ok (lent_answer file before)) (λ t. h (eqb→eq (lent_answer file before).number 0 t))) in
      λ i. record { answer = answer i; after = sym after i }

  -- 1 to 8
  pub file_refused : (r : Refusal) → refusal_answer r ≡ file_answer file → gave {A = Unit} (Err r) before ≡ checked file sheet before
  unfolding lent_answer
  file_refused r e =
      let pos : (file_answer file).number ≢ 0 = λ z. refusal_number r (ap (λ (x : meant.Answer). x.number) e ∙ z) in
      refused-is r (e ∙ sym (then_first (file_answer file) (meant.refuse_if (not (lent_enough file before)) 9 0) pos))

  module _ (e : file_answer file ≡ meant.accepted) where
    next : lent_answer file before ≡ meant.refuse_if (not (lent_enough file before)) 9 0
    unfolding lent_answer
    next = then_next (file_answer file) (meant.refuse_if (not (lent_enough file before)) 9 0) (ap (λ (x : meant.Answer). x.number) e)

    -- 9
    pub too_short : lent_enough file before ≡ false → gave {A = Unit} (Err BufferTooShort) before ≡ checked file sheet before
    too_short short = refused-is BufferTooShort (sym (next ∙ ap (λ (b : Bool). meant.refuse_if (not b) 9 0) short))

    -- 0 and 10 to 13
    pub done : lent_enough file before ≡ true
        → (a : Result Unit Refusal) {tables marks : List ℕ}
        → answered a ≡ answer_of_sheet (states_of file) (interpretation_of file) (predicate_arities file) (rules_of file).clauses sheet
        → tables ≡ written (tables_of file) before.tables
        → marks ≡ written (replicate (length (model_of file)) 0) before.marks
        → gave a (record { tables = tables; marks = marks }) ≡ checked file sheet before
    unfolding checked check_answer
    done long a answer tables marks =
        let zero_is : lent_answer file before ≡ meant.accepted = next ∙ ap (λ (b : Bool). meant.refuse_if (not b) 9 0) long in
        let number = ap (λ (x : meant.Answer). x.number) zero_is in
        let own = answer_of_sheet (states_of file) (interpretation_of file) (predicate_arities file) (rules_of file).clauses sheet in
        let after = cond_yes (meant.ok (lent_answer file before)) (record { tables = written (tables_of file) before.tables; marks = written (replicate (length (model_of file)) 0) before.marks }) before (subst (λ (n : ℕ). T (eqb n 0)) (sym number) tt) in
        (λ i. record { answer = answer i; after = record { tables = tables i; marks = marks i } })
        ∙ (λ i. record { answer = sym (then_next (lent_answer file before) own number) i; after = sym after i })

  -- the lengths that are looked at are those that are needed
  pub enough-is : {known : Known} {states symbols preds : List ℕ}
      → IsAccepted file known states
      → symbols ≡ known_symbols known
      → preds ≡ known_predicates known
      → (leb (cells (length states) symbols) (length before.tables) && leb (cells (length states) preds) (length before.marks)) ≡ lent_enough file before
  enough-is h symbols preds =
      let b = table-cells h symbols in
      let c = mark-cells h preds in
      λ i. leb (b i) (length before.tables) && leb (c i) (length before.marks)

  pub room : T (lent_enough file before) → (length (tables_of file) ≤ length before.tables) × (length (model_of file) ≤ length before.marks)
  room t =
      let w = both (leb (length (tables_of file)) (length before.tables)) (leb (length (model_of file)) (length before.marks)) t in
      (leb→le _ _ w.0, leb→le _ _ w.1)
