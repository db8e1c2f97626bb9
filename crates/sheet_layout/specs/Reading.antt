-- What reading a sheet looks at, and is handed.
use Rattle.std.specs.Prelude.{ℕ, ◌≡◌, Bool, true, cond, not, ◌||◌, List, eqb, length}
use Rattle.std.proofs.Math.Option.{none}
use Rattle.meaning.specs.Limits.{state_tag, atom_tag}
use Rattle.meaning.specs.Fields.{fields, first_field}
use Rattle.meaning.specs.Certificates.{is_atom_content, misplaced}

-- 10 of a whole field, by whether an atom's field stands before it
abbrev pub misplaced_after : List ℕ → Bool → ℕ → List ℕ → Bool
misplaced_after preds atoms tag content =
    cond
    (eqb tag state_tag)
    (atoms || not (eqb (length content) 2))
    (cond (eqb tag atom_tag) (not (is_atom_content preds content)) true)

-- bytes to which 10 does not fit, for some predicates
pub record NoneMisplaced (sheet : List ℕ) : Type 0 where
  pub preds : List ℕ
  pub fits : first_field (misplaced preds) (fields sheet) ≡ none
