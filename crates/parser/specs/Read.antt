-- What the functions of this crate say of themselves.
use Rattle.std.specs.Prelude.{ℕ, ◌+◌, ◌≡◌, cond, List, [], ◌∷◌, eqb, length, set}
use Rattle.meaning.specs.Fields.{Field, whole, cut, fields}
use Rattle.meaning.specs.Refusals.{Answer, first_refused}
use Rattle.meaning.specs.Files.{answer_at}
use Rattle.declarations.specs.declared.Known.{Known}
use Rattle.declarations.specs.Known.{Knows, before}

-- the starts of the kinds, with one more at a position where the kind has none yet
abbrev pub started_at : List ℕ → ℕ → ℕ → ℕ → List ℕ
started_at starts t count at = cond (eqb count 0) (set starts t at) starts

-- how many of a tag find room: the symbols and the predicates in their arrays, all in a byte
abbrev pub room_for : ℕ → ℕ
room_for tag = cond (eqb tag 1) 24 (cond (eqb tag 4) 16 255)

-- how many bytes some fields have
abbrev pub bytes_in : List Field → ℕ
bytes_in [] = 0
bytes_in (cut ∷ fs) = bytes_in fs
bytes_in (whole t content ∷ fs) = 3 + length content + bytes_in fs

-- the answer after the fields, with what was read before the first of them that is refused
abbrev pub Outcome : List ℕ → Answer → Known → Type 0
Outcome file answer known =
    (answer ≡ answer_at (fields file) (first_refused (fields file))) × Knows known (before (fields file) (first_refused (fields file)))
