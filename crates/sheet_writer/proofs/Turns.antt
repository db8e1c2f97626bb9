-- A predicate in its turn: its part of the marks, the fields of the part's atoms, and how many bytes they are. Assumes nothing.
use Rattle.meaning.proofs.Prelude.{ℕ, ◌+◌, ◌≤◌, ◌-◌, ◌<◌, suc, ◌^◌, ◌*◌, ◌≡◌, sym, ap, ◌∙◌, ap₂, List, [], ◌∷◌, ◌++◌, length, length-append, get_or}
use Rattle.meaning.proofs.Prelude.{drop, length-drop, drop_of_length-le, get_or-take, drop-cons, get_or-drop, zero-add, mul-le-mul_right, add-one, arith}
use borrow.Rule.Slice.PartMut.{mid_of, mid_len}
use Rattle.meaning.proofs.Definitions.{All, joined, table, nonzero, cell, row_of, start, cells, atoms_from}
use Rattle.meaning.proofs.Lists.{All-map, All-get_or, table_ext}
use Rattle.meaning.proofs.Cells.{cell_of_row}
use Rattle.cells.proofs.Segments.{start-most, segment-end}
use Rattle.marks.proofs.Counts.{counted-le}
use Rattle.sheet_writer.specs.Parts.{atom_fields, part_atoms}
use Rattle.sheet_writer.proofs.Fields.{fields-append, if_marked, part-table, part_length}

-- the marks of predicate p start at a and are so many
pub record InTurn (m : ℕ) (preds marks : List ℕ) (p a size : ℕ) : Type 0 where
  pub declared : p < length preds
  pub begins : a ≡ start m preds p
  pub many : size ≡ m ^ get_or preds p 0
  pub whole : length marks ≡ cells m preds

pub turn : (m : ℕ) (preds marks : List ℕ) (p a size : ℕ) → p < length preds → a ≡ start m preds p → size ≡ m ^ get_or preds p 0 → length marks ≡ cells m preds → InTurn m preds marks p a size
turn m preds marks p a size declared begins many whole = record { declared = declared; begins = begins; many = many; whole = whole }

-- the fields of the marked atoms from predicate p on
abbrev pub rest : ℕ → List ℕ → List ℕ → ℕ → List ℕ
rest m preds marks p = atom_fields (atoms_from m preds marks p (drop p preds))

pub rest_end : (m : ℕ) (preds marks : List ℕ) (p : ℕ) → length preds ≤ p → rest m preds marks p ≡ []
rest_end m preds marks p h = ap (λ (later : List ℕ). atom_fields (atoms_from m preds marks p later)) (drop_of_length-le preds h)

module _ {m : ℕ} {preds marks : List ℕ} {p a size : ℕ} (t : InTurn m preds marks p a size) where
  abbrev n : ℕ
  n = get_or preds p 0

  abbrev part : List ℕ
  part = mid_of a (a + size - a) marks

  -- the part lies inside the marks, and the next one starts at its end
  pub part-inside : a + size ≤ length marks
  part-inside = omega (arith, t.whole, (segment-end m preds p a size t.declared t.begins t.many).1)

  pub next_begins : a + size ≡ start m preds (p + 1)
  next_begins = (segment-end m preds p a size t.declared t.begins t.many).0

  pub part-size : length part ≡ m ^ n
  part-size = omega (arith, t.many, mid_len a (a + size) marks part-inside)

  mark-at : (i : ℕ) → i < m ^ n → get_or marks (start m preds p + cell m (row_of m n i)) 0 ≡ get_or part i 0
  mark-at i h =
      ap₂ (λ (s k : ℕ). get_or marks (s + k) 0) (sym t.begins) (cell_of_row m n i h)
      ∙ sym (get_or-drop a marks i 0)
      ∙ sym (get_or-take (a + size - a) (drop a marks) i 0 (omega (arith, t.many)))

  part-atoms : joined (table (m ^ n) (λ c. if_marked (get_or marks (start m preds p + cell m (row_of m n c)) 0) (p ∷ row_of m n c))) ≡ part_atoms m n p 0 part
  part-atoms =
      ap joined
      (table_ext (m ^ n) (λ c. if_marked (get_or marks (start m preds p + cell m (row_of m n c)) 0) (p ∷ row_of m n c)) (λ c. if_marked (get_or part c 0) (p ∷ row_of m n (0 + c)))
      (λ i h. ap₂ (λ (mark c : ℕ). if_marked mark (p ∷ row_of m n c)) (mark-at i h) (sym (zero-add i)))
      ∙ ap (λ (k : ℕ). table k (λ c. if_marked (get_or part c 0) (p ∷ row_of m n (0 + c)))) (sym part-size))
      ∙ part-table m n p 0 part

  -- the fields of its atoms come first
  pub rest-next : rest m preds marks p ≡ atom_fields (part_atoms m n p 0 part) ++ rest m preds marks (p + 1)
  rest-next =
      rw (add-one p)
      (ap (λ (later : List ℕ). atom_fields (atoms_from m preds marks p later)) (drop-cons preds p 0 t.declared)
      ∙ ap (λ (atoms : List (List ℕ)). atom_fields (atoms ++ atoms_from m preds marks (suc p) (drop (suc p) preds))) part-atoms
      ∙ fields-append (part_atoms m n p 0 part) (atoms_from m preds marks (suc p) (drop (suc p) preds)))

  -- how many bytes they are, each of at most 7
  module _ {w k : ℕ} (wide : w ≡ n) (count : k ≡ nonzero part) where
    pub rest-length : length (rest m preds marks p) ≡ (w + 4) * k + length (rest m preds marks (p + 1))
    rest-length =
        ap length rest-next
        ∙ length-append (atom_fields (part_atoms m n p 0 part)) (rest m preds marks (p + 1))
        ∙ ap (λ (j : ℕ). j + length (rest m preds marks (p + 1))) (part_length m n p 0 part ∙ ap₂ (λ (i j : ℕ). (i + 4) * j) (sym wide) (sym count))

    pub part-most : All (λ n. n ≤ 3) preds → (w + 4) * k ≤ size * 7
    part-most small =
        let few : k ≤ size = omega (arith, counted-le (drop a marks) (a + size - a) (omega (arith, length-drop a marks, part-inside)) count) in
        let narrow : n ≤ 3 = All-get_or (λ d. d ≤ 3) preds 0 small p t.declared in
        omega (arith, few, mul-le-mul_right {m = w + 4} {n = 7} k (omega (arith, narrow, wide)))

  -- the part ends at place 1048576 at most
  pub part_near : m ≤ 16 → length preds ≤ 16 → All (λ n. n ≤ 3) preds → a + size ≤ 1048576
  part_near states few small =
      omega (arith, next_begins, t.declared, start-most m preds (p + 1) states (All-map preds (λ d h. omega arith) small))
