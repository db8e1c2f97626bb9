-- What refusals answer. Assumes nothing.
use Rattle.std.specs.Prelude.{◌≡◌, not, T, Result, Ok, Err, IsErrAnd}
use Rattle.std.proofs.Common.{ap}
use Rattle.meaning.specs.Refusals.{ok}
use Rattle.answers.specs.Refused.{refusal_answer, answered}
use Rattle.answers.specs.declared.Refusal.{Refusal}
use Rattle.answers.specs.declared.Refusal.TheVariants.{TooLong, Cut, WrongTag, Malformed, NameTaken, TooMany, NoConstant, TooManyStates, BufferTooShort}
use Rattle.answers.specs.declared.Refusal.TheVariants.{SheetMisplaced, SheetStatesDiffer, SheetWrongAtom, SheetNotClosed, SheetBufferTooShort}

-- each has a number: none answers as what is accepted does
pub numbered : (r : Refusal) → T (not (ok (refusal_answer r)))
numbered TooLong = tt
numbered (Cut k) = tt
numbered (WrongTag k) = tt
numbered (Malformed k) = tt
numbered (NameTaken k) = tt
numbered (TooMany k) = tt
numbered (NoConstant k) = tt
numbered (TooManyStates k) = tt
numbered BufferTooShort = tt
numbered (SheetMisplaced k) = tt
numbered (SheetStatesDiffer i) = tt
numbered (SheetWrongAtom k) = tt
numbered (SheetNotClosed c) = tt
numbered SheetBufferTooShort = tt

-- an error that `?` hands on
pub handed_on : {A : Type 0} (r : Result A Refusal) (e : Refusal) → IsErrAnd r (λ x. x ≡ e) → answered r ≡ refusal_answer e
handed_on (Ok x) e h = absurd h
handed_on (Err x) e h = ap refusal_answer h
