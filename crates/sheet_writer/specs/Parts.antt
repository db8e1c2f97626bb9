-- The bytes of a sheet in two parts, as `encode_sheet` has them, and the marked atoms of one predicate's part of the marks.
use Rattle.std.specs.Prelude.{ℕ, suc, cond, not, List, [], ◌∷◌, ◌++◌, map, eqb}
use Rattle.meaning.specs.Lists.{joined}
use Rattle.meaning.specs.Limits.{state_tag, atom_tag}
use Rattle.meaning.specs.Fields.{encode_field}
use Rattle.meaning.specs.Cells.{row_of}
use Rattle.meaning.specs.Certificates.{state_bytes}

-- the fields of some states, and of some atoms
abbrev pub state_fields : List ℕ → List ℕ
state_fields states = joined (map (λ s. encode_field state_tag (state_bytes s)) states)

abbrev pub atom_fields : List (List ℕ) → List ℕ
atom_fields atoms = joined (map (encode_field atom_tag) atoms)

-- the marked atoms of predicate p, of arity n, if these are the marks of its cells from c on
abbrev pub part_atoms : ℕ → ℕ → ℕ → ℕ → List ℕ → List (List ℕ)
part_atoms m n p c [] = []
part_atoms m n p c (mark ∷ part) = cond (not (eqb mark 0)) ((p ∷ row_of m n c) ∷ []) [] ++ part_atoms m n p (suc c) part
