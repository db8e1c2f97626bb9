-- The number and place of 01 for each refusal, and what a call's result answers.
use Rattle.std.specs.Prelude.{Result, Ok, Err}
use Rattle.meaning.specs.Refusals.{Answer, refused, accepted}
use Rattle.answers.specs.declared.Refusal.{Refusal}
use Rattle.answers.specs.declared.Refusal.TheVariants.{TooLong, Cut, WrongTag, Malformed, NameTaken, TooMany, NoConstant, TooManyStates, BufferTooShort}
use Rattle.answers.specs.declared.Refusal.TheVariants.{SheetMisplaced, SheetStatesDiffer, SheetWrongAtom, SheetNotClosed, SheetBufferTooShort}

abbrev pub refusal_answer : Refusal → Answer
refusal_answer TooLong = refused 1 0
refusal_answer (Cut k) = refused 2 k
refusal_answer (WrongTag k) = refused 3 k
refusal_answer (Malformed k) = refused 4 k
refusal_answer (NameTaken k) = refused 5 k
refusal_answer (TooMany k) = refused 6 k
refusal_answer (NoConstant k) = refused 7 k
refusal_answer (TooManyStates k) = refused 8 k
refusal_answer BufferTooShort = refused 9 0
refusal_answer (SheetMisplaced k) = refused 10 k
refusal_answer (SheetStatesDiffer i) = refused 11 i
refusal_answer (SheetWrongAtom k) = refused 12 k
refusal_answer (SheetNotClosed c) = refused 13 c
refusal_answer SheetBufferTooShort = refused 14 0

abbrev pub answered : {A : Type 0} → Result A Refusal → Answer
answered (Ok x) = accepted
answered (Err r) = refusal_answer r
