-- The fields of the states and of the marked atoms, one after the other as they are put, and their lengths. Assumes nothing.
use Rattle.meaning.proofs.Prelude.{ℕ, ◌+◌, ◌≤◌, ◌<◌, zero, suc, ◌*◌, ◌≡◌, refl, sym, ap, ◌∙◌, ap₂, ◌≢◌, cond, Bool, not, List, [], ◌∷◌, map, ◌++◌}
use Rattle.meaning.proofs.Prelude.{map-append, eqb, eqb-suc-zero, length, length-append, get_or, drop, drop_of_length-le, drop-cons, add-zero, suc-add}
use Rattle.meaning.proofs.Prelude.{add-suc, mul-zero, mul-suc, add-one, arith, ne_eqb, eq-eqb}
use Rattle.meaning.proofs.Definitions.{joined, table, nonzero, state_tag, atom_tag, encode_field, row_of, state_bytes}
use Rattle.meaning.proofs.Lists.{table_ext, joined-append}
use Rattle.meaning.proofs.Cells.{length-row_of}
use Rattle.sheet_writer.specs.Parts.{state_fields, atom_fields, part_atoms}

-- the states' fields: the next one, the end, and 5 bytes each
module _ (states : List ℕ) (i : ℕ) where
  pub states-next : i < length states → state_fields (drop i states) ≡ encode_field state_tag (state_bytes (get_or states i 0)) ++ state_fields (drop (i + 1) states)
  states-next lt = rw (add-one i) (ap state_fields (drop-cons states i 0 lt))

  pub states-end : length states ≤ i → state_fields (drop i states) ≡ []
  states-end h = ap state_fields (drop_of_length-le states h)

pub states-length : (states : List ℕ) → length (state_fields states) ≡ length states * 5
states-length [] = refl
states-length (s ∷ states) = omega (arith, states-length states)

-- the fields of atoms one after the other
pub fields-append : (xs ys : List (List ℕ)) → atom_fields (xs ++ ys) ≡ atom_fields xs ++ atom_fields ys
fields-append xs ys = ap joined (map-append (encode_field atom_tag) xs ys) ∙ joined-append (map (encode_field atom_tag) xs) (map (encode_field atom_tag) ys)

-- an atom's field has 4 bytes and the row
field_length : (m n p c : ℕ) → length (encode_field atom_tag (p ∷ row_of m n c)) ≡ n + 4
field_length m n p c = omega (arith, length-row_of m n c)

-- it is put as its first four bytes and the row
pub field_parts : (m n p c : ℕ) {row : List ℕ} → n ≤ 3 → row ≡ row_of m n c → (atom_tag ∷ 0 ∷ (n + 1) ∷ p ∷ []) ++ row ≡ encode_field atom_tag (p ∷ row_of m n c)
field_parts m n p c h e =
    let long : length (p ∷ row_of m n c) ≡ n + 1 = omega (arith, length-row_of m n c) in
    ap (λ (l : List ℕ). atom_tag ∷ 0 ∷ (n + 1) ∷ p ∷ l) e
    ∙ ap₂ (λ (high low : ℕ). atom_tag ∷ high ∷ low ∷ p ∷ row_of m n c) (omega (arith, long)) (omega (arith, long))

-- an atom, if its mark is not 0
abbrev pub if_marked : ℕ → List ℕ → List (List ℕ)
if_marked mark atom = cond (not (eqb mark 0)) (atom ∷ []) []

is-marked : (mark : ℕ) (atom : List ℕ) → mark ≢ 0 → if_marked mark atom ≡ atom ∷ []
is-marked mark atom h = ap (λ (b : Bool). cond (not b) (atom ∷ []) []) (ne_eqb mark 0 h)

is_unmarked : (mark : ℕ) (atom : List ℕ) → mark ≡ 0 → if_marked mark atom ≡ []
is_unmarked mark atom h = ap (λ (b : Bool). cond (not b) (atom ∷ []) []) (eq-eqb mark 0 h)

-- the atoms of a part: the next cell, the end
module _ (m n p : ℕ) (part : List ℕ) (c : ℕ) where
  part-next : c < length part → part_atoms m n p c (drop c part) ≡ if_marked (get_or part c 0) (p ∷ row_of m n c) ++ part_atoms m n p (c + 1) (drop (c + 1) part)
  part-next lt = rw (add-one c) (ap (part_atoms m n p c) (drop-cons part c 0 lt))

  pub part-marked : c < length part
      → get_or part c 0 ≢ 0
      → atom_fields (part_atoms m n p c (drop c part)) ≡ encode_field atom_tag (p ∷ row_of m n c) ++ atom_fields (part_atoms m n p (c + 1) (drop (c + 1) part))
  part-marked lt h =
      let later = part_atoms m n p (c + 1) (drop (c + 1) part) in
      ap atom_fields (part-next lt ∙ ap (λ (atoms : List (List ℕ)). atoms ++ later) (is-marked (get_or part c 0) (p ∷ row_of m n c) h))

  pub part_unmarked : c < length part
      → get_or part c 0 ≡ 0
      → atom_fields (part_atoms m n p c (drop c part)) ≡ atom_fields (part_atoms m n p (c + 1) (drop (c + 1) part))
  part_unmarked lt h =
      let later = part_atoms m n p (c + 1) (drop (c + 1) part) in
      ap atom_fields (part-next lt ∙ ap (λ (atoms : List (List ℕ)). atoms ++ later) (is_unmarked (get_or part c 0) (p ∷ row_of m n c) h))

  pub part_end : length part ≤ c → atom_fields (part_atoms m n p c (drop c part)) ≡ []
  part_end h = ap (λ (marks : List ℕ). atom_fields (part_atoms m n p c marks)) (drop_of_length-le part h)

-- n + 4 bytes for each mark that is not 0
pub part_length : (m n p c : ℕ) (part : List ℕ) → length (atom_fields (part_atoms m n p c part)) ≡ (n + 4) * nonzero part
part_length m n p c [] = sym (mul-zero (n + 4))
part_length m n p c (zero ∷ part) = part_length m n p (suc c) part
part_length m n p c (suc mark ∷ part) =
    let row = row_of m n c in
    let later = part_atoms m n p (suc c) part in
    ap (λ (b : Bool). length (atom_fields (cond (not b) ((p ∷ row) ∷ []) [] ++ later))) (eqb-suc-zero mark)
    ∙ omega (arith, length-append (encode_field atom_tag (p ∷ row)) (atom_fields later), field_length m n p c, part_length m n p (suc c) part, mul-suc (n + 4) (nonzero part))

-- the atoms of the cells from c on as a table
pub part-table : (m n p c : ℕ) (part : List ℕ) → joined (table (length part) (λ i. if_marked (get_or part i 0) (p ∷ row_of m n (c + i)))) ≡ part_atoms m n p c part
part-table m n p c [] = refl
part-table m n p c (mark ∷ part) =
    let f : ℕ → ℕ → List (List ℕ) = λ d i. if_marked (get_or part i 0) (p ∷ row_of m n (d + i)) in
    ap₂ ◌++◌ (ap (λ (d : ℕ). if_marked mark (p ∷ row_of m n d)) (add-zero c))
    (ap joined (table_ext (length part) (λ i. if_marked (get_or part i 0) (p ∷ row_of m n (c + suc i))) (f (suc c)) (λ i lt. ap (λ (d : ℕ). if_marked (get_or part i 0) (p ∷ row_of m n d)) (add-suc c i ∙ sym (suc-add c i))))
    ∙ part-table m n p (suc c) part)
