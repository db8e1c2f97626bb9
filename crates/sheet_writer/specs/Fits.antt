-- A sheet put into a buffer, if there is room for it.
use Rattle.std.specs.Prelude.{ℕ, cond, List, length, Option, Some, None}
use Rattle.meaning.specs.Certificates.{encode_sheet, marked_atoms}
use Rattle.meaning.specs.Calls.{written, holds}

-- the bytes of a sheet with some states and the atoms that some marks mark
abbrev pub sheet_of : List ℕ → List ℕ → List ℕ → List ℕ
sheet_of states preds marks = encode_sheet states (marked_atoms (length states) preds marks)

-- a buffer with needed bytes written if there is room for them, else untouched
abbrev pub if_room : List ℕ → List ℕ → List ℕ
if_room needed before = cond (holds before needed) (written needed before) before

-- how many bytes are put, if there is room for them
abbrev pub fit_of : List ℕ → List ℕ → Option ℕ
fit_of needed before = cond (holds before needed) (Some (length needed)) None
