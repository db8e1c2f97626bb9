-- The answer to a file by the answer to reading it and the number of its states. Assumes nothing.
use Rattle.meaning.proofs.Prelude.{ℕ, ◌≡◌, sym, ap, ◌∙◌, ◌≢◌, List, ltb, length, arith}
use Rattle.meaning.proofs.Definitions.{most_states, fields, Answer, refuse_if, accepted, read_answer, file_answer, states_of, symbol_arities}
use Rattle.meaning.proofs.Answers.{then_next, then_first}
use Rattle.answers.specs.declared.Refusal.{Refusal}
use Rattle.answers.specs.declared.Refusal.TheVariants.{TooLong, Cut, WrongTag, Malformed, NameTaken, TooMany, NoConstant, TooManyStates, BufferTooShort}
use Rattle.answers.specs.declared.Refusal.TheVariants.{SheetMisplaced, SheetStatesDiffer, SheetWrongAtom, SheetNotClosed, SheetBufferTooShort}
use Rattle.answers.specs.Refused.{refusal_answer}

-- a refusal has a number
pub refusal_number : (r : Refusal) → (refusal_answer r).number ≢ 0
refusal_number TooLong z = absurd (omega arith)
refusal_number (Cut k) z = absurd (omega arith)
refusal_number (WrongTag k) z = absurd (omega arith)
refusal_number (Malformed k) z = absurd (omega arith)
refusal_number (NameTaken k) z = absurd (omega arith)
refusal_number (TooMany k) z = absurd (omega arith)
refusal_number (NoConstant k) z = absurd (omega arith)
refusal_number (TooManyStates k) z = absurd (omega arith)
refusal_number BufferTooShort z = absurd (omega arith)
refusal_number (SheetMisplaced k) z = absurd (omega arith)
refusal_number (SheetStatesDiffer k) z = absurd (omega arith)
refusal_number (SheetWrongAtom k) z = absurd (omega arith)
refusal_number (SheetNotClosed k) z = absurd (omega arith)
refusal_number SheetBufferTooShort z = absurd (omega arith)

module _ (file : List ℕ) where
  -- refused with 1 to 7
  pub refused-answer : (r : Refusal) → refusal_answer r ≡ read_answer file → refusal_answer r ≡ file_answer file
  unfolding file_answer
  refused-answer r e = e ∙ sym (then_first (read_answer file) _ (λ z. refusal_number r (ap (λ (a : Answer). a.number) e ∙ z)))

  -- read
  pub read_answer_lem : read_answer file ≡ accepted → file_answer file ≡ refuse_if (ltb most_states (length (states_of file))) 8 (length (fields file))
  unfolding file_answer states_of symbol_arities
  read_answer_lem e = then_next (read_answer file) _ (ap (λ (a : Answer). a.number) e)
