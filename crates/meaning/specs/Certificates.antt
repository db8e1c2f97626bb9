-- Certificates (01: the sheet): what it is for bytes to be laid out, to carry the states, to be closed and to hold an atom; the check's
-- answers as tests; what a writer may write. A domain atom stands here as in its field: the predicate, then the row of states.
use Rattle.std.specs.Prelude.{ℕ, zero, suc, ◌^◌, ◌/◌, ◌%◌, ◌<◌, max, ◌≡◌, ◌⊎◌, Bool, true, false, cond, not, ◌&&◌, ◌||◌, eqb, ltb, length, get_or, take}
use mathlib.Core.List.{List, [], ◌∷◌, ◌++◌, map, Memᴰ, Permᴰ}
use Rattle.std.proofs.Math.Option.{Option, none, some}
use Rattle.std.proofs.Math.ListN.{get_elem?}
use Rattle.meaning.specs.Lists.{any_of, all_of, any_below, All, LowestBelow, NoneBelow, same, lowest, joined, table}
use Rattle.meaning.specs.Syntax.{Clause}
use Rattle.meaning.specs.Limits.{state_tag, atom_tag}
use Rattle.meaning.specs.Fields.{Field, whole, cut, word, fields, contents_of, encode_field, first_field}
use Rattle.meaning.specs.Contents.{declared}
use Rattle.meaning.specs.Refusals.{Answer, refused, accepted}
use Rattle.meaning.specs.Legal.{NoneTwice}
use Rattle.meaning.specs.Cells.{row_of}
use Rattle.meaning.specs.Clauses.{AtomSet, IsAtom, IsValuation, InstanceIn, Closed, instance_in, marked}

-- a state's two bytes, high first
abbrev pub state_bytes : ℕ → List ℕ
state_bytes s = s / 256 ∷ s % 256 ∷ []

-- the bytes of a sheet with some states and some atoms
unfoldable pub encode_sheet : List ℕ → List (List ℕ) → List ℕ
encode_sheet states atoms =
    joined (map (λ s. encode_field state_tag (state_bytes s)) states) ++ joined (map (encode_field atom_tag) atoms)

-- a declared predicate and as many states as its arity, all below m
abbrev pub IsSheetAtom : ℕ → List ℕ → List ℕ → Type 0
IsSheetAtom m preds [] = ⊥
IsSheetAtom m preds (p ∷ row) = IsAtom m preds p row

-- laid out: whole fields fill it to its end, tags 16 and then 17, each 16 of two bytes, each 17 an atom, with no atom twice
abbrev pub LaidOut : ℕ → List ℕ → List ℕ → Type 0
LaidOut m preds sheet =
    (states : List ℕ)
    × (atoms : List (List ℕ))
    × (sheet ≡ encode_sheet states atoms)
    × All (IsSheetAtom m preds) atoms
    × NoneTwice atoms

-- it carries the states: its fields of tag 16 hold exactly these, in this order
abbrev pub Carries : List ℕ → List ℕ → Type 0
Carries states sheet = (atoms : List (List ℕ)) × (sheet ≡ encode_sheet states atoms)

-- an atom is in a sheet if it is one of its atoms
abbrev pub InSheet : List ℕ → AtomSet
InSheet sheet p row =
    (states : List ℕ) × (atoms : List (List ℕ)) × (sheet ≡ encode_sheet states atoms) × Memᴰ (p ∷ row) atoms

-- a valid certificate (01: a sheet that passes)
pub record Valid (states : List ℕ) (interpret : ℕ → List ℕ → ℕ) (preds : List ℕ) (clauses : List Clause) (sheet : List ℕ) : Type 0 where
  pub laid_out : LaidOut (length states) preds sheet
  pub carries : Carries states sheet
  pub closed : Closed (length states) interpret clauses (InSheet sheet)

-- 10: cut, tag not 16 or 17, 16 after 17, wrong length, undeclared predicate
abbrev pub is_atom_content : List ℕ → List ℕ → Bool
is_atom_content preds [] = false
is_atom_content preds (p ∷ row) = declared preds p (length row)

abbrev pub misplaced : List ℕ → List Field → Field → Bool
misplaced preds before cut = true
misplaced preds before (whole tag content) =
    cond
    (eqb tag state_tag)
    (ltb 0 (length (contents_of atom_tag before)) || not (eqb (length content) 2))
    (cond (eqb tag atom_tag) (not (is_atom_content preds content)) true)

-- 11: the states of the sheet and of the file differ at a place, a missing or extra one included
abbrev pub states_in : List Field → List ℕ
states_in fs = map (λ (content : List ℕ). word (get_or content 0 0) (get_or content 1 0)) (contents_of state_tag fs)

abbrev pub differ : List ℕ → List ℕ → ℕ → Bool
differ xs ys i = not (ltb i (length xs) && ltb i (length ys) && eqb (get_or xs i 0) (get_or ys i 0))

-- 12: state number not below m, or an atom for the second time
abbrev pub wrong_atom : ℕ → List Field → Field → Bool
wrong_atom m before cut = false
wrong_atom m before (whole tag []) = false
wrong_atom m before (whole tag (p ∷ row)) =
    eqb tag atom_tag && (not (all_of (λ d. ltb d m) row) || any_of (same (p ∷ row)) (contents_of atom_tag before))

-- 13: an instance of the clause has its body among the atoms and its head not
abbrev pub among : List (List ℕ) → ℕ → List ℕ → Bool
among atoms p row = any_of (same (p ∷ row)) atoms

unfoldable pub violated : ℕ → (ℕ → List ℕ → ℕ) → List (List ℕ) → Clause → Bool
violated m interpret atoms c =
    any_below
    (m ^ c.variables)
    (λ n.
    let ν = row_of m c.variables n in
    all_of (instance_in interpret ν (among atoms)) c.body && not (instance_in interpret ν (among atoms) c.head))

abbrev pub violated_at : ℕ → (ℕ → List ℕ → ℕ) → List (List ℕ) → List Clause → ℕ → Bool
violated_at m interpret atoms [] i = false
violated_at m interpret atoms (c ∷ clauses) zero = violated m interpret atoms c
violated_at m interpret atoms (c ∷ clauses) (suc i) = violated_at m interpret atoms clauses i

-- the same as facts: an instance of a clause with its body in a set and its head not; the lowest clause that has one
module _ (m : ℕ) (interpret : ℕ → List ℕ → ℕ) where
  pub record Violation (S : AtomSet) (c : Clause) : Type 0 where
    pub valuation : List ℕ
    pub valued : IsValuation m c.variables valuation
    pub body_in : All (InstanceIn interpret valuation S) c.body
    pub head_out : ¬ InstanceIn interpret valuation S c.head

  pub record LowestViolation (clauses : List Clause) (S : AtomSet) (i : ℕ) : Type 0 where
    pub clause : Clause
    pub numbered : get_elem? clauses i ≡ some clause
    pub violation : Violation S clause
    pub lower : (j : ℕ) → j < i → (c : Clause) → get_elem? clauses j ≡ some c → ¬ Violation S c

-- a refusal at the lowest place that a test fits, if there is one, else what comes after
abbrev pub refused_at : ℕ → Option ℕ → Answer → Answer
refused_at number (some place) after = refused number place
refused_at number none after = after

-- the check's answer over the fields: 10 over the whole sheet, then 11, 12, 13, each at the lowest place that it fits
module _ (states : List ℕ) (interpret : ℕ → List ℕ → ℕ) (preds : List ℕ) (clauses : List Clause) where
  unfoldable pub check_fields : List Field → Answer
  check_fields fs =
      refused_at 10 (first_field (misplaced preds) fs)
      (refused_at 11 (lowest (max (length (states_in fs)) (length states)) (differ (states_in fs) states))
      (refused_at 12 (first_field (wrong_atom (length states)) fs)
      (refused_at 13 (lowest (length clauses) (violated_at (length states) interpret (contents_of atom_tag fs) clauses))
      accepted)))

  unfoldable pub answer_of_sheet : List ℕ → Answer
  answer_of_sheet sheet = check_fields (fields sheet)

-- the same as facts about the sheet's fields (01, the column "given when"): a number with its place
module _ (states : List ℕ) (interpret : ℕ → List ℕ → ℕ) (preds : List ℕ) (clauses : List Clause) (sheet : List ℕ) where
  abbrev misplaced_at : ℕ → Bool
  misplaced_at k = misplaced preds (take k (fields sheet)) (get_or (fields sheet) k cut)

  abbrev differ_at : ℕ → Bool
  differ_at i = differ (states_in (fields sheet)) states i

  abbrev wrong_at : ℕ → Bool
  wrong_at k = wrong_atom (length states) (take k (fields sheet)) (get_or (fields sheet) k cut)

  -- how many fields the sheet has; among how many positions its states and the file's may differ
  abbrev field_count : ℕ
  field_count = length (fields sheet)

  abbrev positions : ℕ
  positions = max (length (states_in (fields sheet))) (length states)

  abbrev pub GivenSheet : ℕ → ℕ → Type 0
  GivenSheet n k =
      ((n ≡ 10) × LowestBelow field_count misplaced_at k)
      ⊎ (((n ≡ 11) × NoneBelow field_count misplaced_at × LowestBelow positions differ_at k)
      ⊎ (((n ≡ 12) × NoneBelow field_count misplaced_at × NoneBelow positions differ_at × LowestBelow field_count wrong_at k)
      ⊎ ((n ≡ 13)
      × NoneBelow field_count misplaced_at
      × NoneBelow positions differ_at
      × NoneBelow field_count wrong_at
      × LowestViolation (length states) interpret clauses (InSheet sheet) k)))

-- the marked atoms, by rising predicate, then rising cell; `p` is the number of the first predicate of the list
module _ (m : ℕ) (preds marks : List ℕ) where
  abbrev pub atoms_from : ℕ → List ℕ → List (List ℕ)
  atoms_from p [] = []
  atoms_from p (n ∷ later) =
      joined (table (m ^ n) (λ c. cond (marked m preds marks p (row_of m n c)) ((p ∷ row_of m n c) ∷ []) [])) ++ atoms_from (suc p) later

  unfoldable pub marked_atoms : List (List ℕ)
  marked_atoms = atoms_from 0 preds

  -- what a writer may write after the states: every marked atom once and no other, in any order
  abbrev pub IsOrder : List (List ℕ) → Type 0
  IsOrder atoms = Permᴰ atoms marked_atoms
