-- What the exported calls hand back as numbers, as `meaning` has it: number, place and counts, with the buffers afterwards.
use Rattle.std.specs.Prelude.{ℕ, List, Option, Some, None}
use Rattle.meaning.specs.Refusals.{Answer, refused, accepted}
use Rattle.meaning.specs.Calls.{Buffers, Analysed, Written, Lent, Checked}
use Rattle.answers.specs.declared.Refusal.{Refusal}
use Rattle.answers.specs.Refused.{refusal_answer}

abbrev pub analysis : ℕ → ℕ → ℕ → ℕ → ℕ → Buffers → Analysed
analysis number place states atoms rounds after =
    record { answer = refused number place; states = states; atoms = atoms; rounds = rounds; after = after }

abbrev pub writing : ℕ → ℕ → ℕ → ℕ → ℕ → ℕ → Buffers → List ℕ → Written
writing number place states atoms rounds bytes after sheet =
    record { answer = refused number place; states = states; atoms = atoms; rounds = rounds; bytes = bytes; after = after; sheet = sheet }

abbrev pub check : ℕ → ℕ → Lent → Checked
check number place after = record { answer = refused number place; after = after }

-- the answer, if something is refused or nothing
abbrev pub answer_of : Option Refusal → Answer
answer_of None = accepted
answer_of (Some refusal) = refusal_answer refusal
