-- One atom of a sheet: its parts, its place in the marks, whether it is free there, and what the marks hold with it. Assumes nothing.
use Rattle.meaning.proofs.Prelude.{ℕ, ◌+◌, ◌≤◌, ◌-◌, ◌<◌, ◌^◌, ◌≡◌, refl, sym, ap, ◌∙◌, subst, ap₂, ◌⊎◌, inl, inr, cond, Bool, true, false, not, ◌&&◌}
use Rattle.meaning.proofs.Prelude.{◌||◌, or-true, or-false, List, [], ◌∷◌, ◌++◌, ltb, T, eqb, ltb→lt, length, get_or, take, drop, replicate}
use Rattle.meaning.proofs.Prelude.{length-replicate, get_or-replicate, set, length-set, get_or-eq_default, get_or-set_same, get_or-set_other}
use Rattle.meaning.proofs.Prelude.{zero-lt-suc, dec_lt, ℕ_discrete, arith}
use borrow.Rule.Slice.PartMut.{mid_of, put_mid}
use Rattle.meaning.proofs.Definitions.{all_of, All, same, Declared, atom_tag, Field, whole, contents_of, cell, start, cells, IsAtom, place}
use Rattle.meaning.proofs.Definitions.{is_atom_content, wrong_atom, among}
use Rattle.meaning.proofs.Lists.{T_of, T_true, T_false, not_intro, both, all_facts, All-map, All-get_or, any_append, same-eq, same_refl}
use Rattle.meaning.proofs.Loops.{part-rest}
use Rattle.meaning.proofs.Fields.{contents_of-append}
use Rattle.meaning.proofs.Contents.{declared-exact}
use Rattle.meaning.proofs.Cells.{cell-lt, place-lt, place_inj}
use Rattle.cells.proofs.Parts.{cell_in_part, part_replaced, segment-inside}
use Rattle.sheet_atoms.specs.Holding.{is_free, Segmented, Holding}

-- the bytes after the first, as a part of the content
abbrev pub row_in : List ℕ → List ℕ
row_in content = take (length content - 1) (drop 1 content)

-- a content that is an atom's: a declared predicate, then as many bytes as its arity
pub content-some : (preds content : List ℕ) → T (is_atom_content preds content) → 0 < length content
content-some preds [] t = absurd t
content-some preds (p ∷ row) t = zero-lt-suc _

content-declared : (preds content : List ℕ) → T (is_atom_content preds content) → Declared preds (get_or content 0 0) (length (drop 1 content))
content-declared preds [] t = absurd t
content-declared preds (p ∷ row) t = (declared-exact preds p (length row)).0 t

all_below : (m : ℕ) (row : List ℕ) → all_of (λ d. ltb d m) row ≡ true → All (λ d. d < m) row
all_below m row e = All-map row (λ d. ltb→lt d m) (all_facts (λ d. ltb d m) row (T_of (all_of (λ d. ltb d m) row) e))

-- a content that `mark` is asked with: its predicate and row, and its place in the marks
module _ (m : ℕ) (preds segments content marks : List ℕ)
    (asked : T (is_atom_content preds content) × Segmented m preds segments × (length marks ≡ cells m preds)) where
  segs : Segmented m preds segments
  segs = asked.1

  declared-here : Declared preds (get_or content 0 0) (length (drop 1 content))
  declared-here = content-declared preds content asked.0

  pub predicate-lt : {p : ℕ} → p ≡ get_or content 0 0 → p < length preds
  predicate-lt e = subst (λ (n : ℕ). n < length preds) (sym e) declared-here.0

  pub row-short : length (row_in content) ≤ 4
  row-short =
      let narrow = All-get_or (λ n. n ≤ 3) preds 0 segs.narrow (get_or content 0 0) declared-here.0 in
      omega (arith, narrow, declared-here.1, ap length (part-rest 1 content))

  pub states_below : {b : Bool} → b ≡ all_of (λ d. ltb d m) (row_in content) → b ≡ true → All (λ d. d < m) (row_in content)
  states_below e t = all_below m (row_in content) (sym e ∙ t)

  -- its predicate's part of the marks, and its cell there
  module _ {p first size : ℕ} (is : p ≡ get_or content 0 0) (starts : first ≡ get_or segments p 0) (power : size ≡ m ^ get_or preds p 0) where
    first-is : first ≡ start m preds p
    first-is = starts ∙ segs.each p (predicate-lt is)

    pub part-inside : first + size ≤ length marks
    part-inside = segment-inside m preds marks p (predicate-lt is) asked.2 first-is power

    module _ {c : ℕ} (cell-is : c ≡ cell m (row_in content)) {b : Bool} (e : b ≡ all_of (λ d. ltb d m) (row_in content)) (t : b ≡ true) where
      place_is : first + c ≡ place m preds (get_or content 0 0) (drop 1 content)
      place_is = ap₂ ◌+◌ (first-is ∙ ap (start m preds) is) (cell-is ∙ ap (cell m) (part-rest 1 content))

      below : all_of (λ d. ltb d m) (drop 1 content) ≡ true
      below = ap (all_of (λ d. ltb d m)) (sym (part-rest 1 content)) ∙ (sym e ∙ t)

      cell_low : first + c < first + size
      cell_low =
          let low = cell-lt m (drop 1 content) (all_below m (drop 1 content) below) in
          let same : size ≡ m ^ length (drop 1 content) = power ∙ ap (λ (n : ℕ). m ^ n) (ap (λ (q : ℕ). get_or preds q 0) is ∙ declared-here.1) in
          omega (arith, low, same, cell-is, ap (cell m) (part-rest 1 content))

      abbrev part : List ℕ
      part = mid_of first (first + size - first) marks

      pub cell-inside : c < length part
      cell-inside = cell_in_part marks first (first + size) c part-inside cell_low

      -- the cell marked in the part is the atom marked in the whole
      pub part-marked : {r : Bool} {l : List ℕ}
          → r ≡ eqb (get_or part c 0) 0
          → l ≡ cond r (set part c 2) part
          → (r ≡ is_free m preds marks content)
          × (put_mid first (first + size - first) marks l ≡ cond r (set marks (place m preds (get_or content 0 0) (drop 1 content)) 2) marks)
      part-marked {r} free put =
          let w = part_replaced marks first (first + size) c part-inside cell_low 0 2 free put in (
            w.0 ∙ sym (ap₂ (λ (a : Bool) (n : ℕ). a && eqb (get_or marks n 0) 0) below (sym place_is)),
            w.1 ∙ ap (λ (n : ℕ). cond r (set marks n 2) marks) place_is,
          )

-- marks that hold no atom
pub hold_none : (m : ℕ) (preds : List ℕ) → Holding m preds [] (replicate (cells m preds) 0)
hold_none m preds =
    record {
      size = length-replicate (cells m preds) 0;
      new = λ i. inl (zero-at i (dec_lt i (cells m preds)));
      each = λ p row h. get_or-replicate (cells m preds) (place m preds p row) 0 0 (place-lt m preds p row h);
    }
  where
    zero-at : (i : ℕ) → Dec (i < cells m preds) → ◌≡◌ {A = ℕ} (get_or (replicate (cells m preds) 0) i 0) 0
    zero-at i (yes lt) = get_or-replicate (cells m preds) i 0 0 lt
    zero-at i (no ge) = get_or-eq_default (replicate (cells m preds) 0) 0 (omega (arith, length-replicate {A = ℕ} (cells m preds) 0))

-- marks that hold some atoms: the mark of an atom is 0 exactly if it is not one of them
module _ (m : ℕ) (preds : List ℕ) (atoms : List (List ℕ)) (marks : List ℕ) (h : Holding m preds atoms marks) where
  -- so a content is free exactly if its states are below m and it is not one of them
  free_new : (p : ℕ) (row : List ℕ)
      → T (is_atom_content preds (p ∷ row))
      → (not (all_of (λ d. ltb d m) row) || among atoms p row) ≡ not (is_free m preds marks (p ∷ row))
  free_new p row t = go (all_of (λ d. ltb d m) row) refl
    where
      mark : ℕ
      mark = get_or marks (place m preds p row) 0

      held : (b : Bool) → mark ≡ cond b 2 0 → b ≡ not (eqb mark 0)
      held true e = ap (λ (n : ℕ). not (eqb n 0)) (sym e)
      held false e = ap (λ (n : ℕ). not (eqb n 0)) (sym e)

      go : (b : Bool) → all_of (λ d. ltb d m) row ≡ b → (not b || among atoms p row) ≡ not (b && eqb mark 0)
      go true e = held (among atoms p row) (h.each p row ((declared-exact preds p (length row)).0 t, all_below m row e))
      go false e = refl

  -- with one atom more
  hold_more : (p : ℕ) (row : List ℕ) → IsAtom m preds p row → Holding m preds (atoms ++ ((p ∷ row) ∷ [])) (set marks (place m preds p row) 2)
  hold_more p row atom =
      record {
        size = length-set marks here 2 ∙ h.size;
        new = λ i. new i (ℕ_discrete i here);
        each = λ q r other. each q r other (ℕ_discrete (place m preds q r) here);
      }
    where
      here : ℕ
      here = place m preds p row

      inside : here < length marks
      inside = subst (λ (n : ℕ). here < n) (sym h.size) (place-lt m preds p row atom)

      new : (i : ℕ) → Dec (i ≡ here) → (get_or (set marks here 2) i 0 ≡ 0) ⊎ (get_or (set marks here 2) i 0 ≡ 2)
      new i (yes e) = inr (ap (λ (n : ℕ). get_or (set marks here 2) n 0) e ∙ get_or-set_same marks here 2 0 inside)
      new i (no ne) =
          subst
          (λ (n : ℕ). (n ≡ 0) ⊎ (n ≡ 2))
          (sym (get_or-set_other marks here i 2 0 ne))
          (h.new i)

      more : (q : ℕ) (r : List ℕ) (b : Bool) → same (q ∷ r) (p ∷ row) ≡ b → among (atoms ++ ((p ∷ row) ∷ [])) q r ≡ (among atoms q r || (b || false))
      more q r b e = any_append (same (q ∷ r)) atoms ((p ∷ row) ∷ []) ∙ ap (λ (a : Bool). among atoms q r || (a || false)) e

      each : (q : ℕ) (r : List ℕ)
          → IsAtom m preds q r
          → Dec (place m preds q r ≡ here)
          → get_or (set marks here 2) (place m preds q r) 0 ≡ cond (among (atoms ++ ((p ∷ row) ∷ [])) q r) 2 0
      each q r other (yes e) =
          let w = place_inj m preds q p r row other atom e in
          let alike : same (q ∷ r) (p ∷ row) ≡ true =
          ap₂ (λ (n : ℕ) (l : List ℕ). same (n ∷ l) (p ∷ row)) w.0 w.1 ∙ T_true (same (p ∷ row) (p ∷ row)) (same_refl (p ∷ row)) in
          ap (λ (n : ℕ). get_or (set marks here 2) n 0) e
          ∙ (get_or-set_same marks here 2 0 inside
          ∙ ap (λ (b : Bool). cond b 2 0) (sym (more q r true alike ∙ or-true (among atoms q r))))
      each q r other (no ne) =
          let apart : same (q ∷ r) (p ∷ row) ≡ false =
          T_false (same (q ∷ r) (p ∷ row)) (not_intro (same (q ∷ r) (p ∷ row)) (λ t. ne (ap (λ (l : List ℕ). place m preds (get_or l 0 0) (drop 1 l)) (same-eq (q ∷ r) (p ∷ row) t)))) in
          get_or-set_other marks here (place m preds q r) 2 0 ne
          ∙ (h.each q r other
          ∙ ap (λ (b : Bool). cond b 2 0) (sym (more q r false apart ∙ or-false (among atoms q r))))

-- an atom after some fields: it is wrong exactly if it is not free; if it is free, the marks hold it too once it is put there
module _ (m : ℕ) (preds : List ℕ) (done : List Field) (marks : List ℕ) (h : Holding m preds (contents_of atom_tag done) marks) where
  pub wrong_is : (content : List ℕ)
      → T (is_atom_content preds content)
      → wrong_atom m done (whole atom_tag content) ≡ not (is_free m preds marks content)
  wrong_is [] t = absurd t
  wrong_is (p ∷ row) t = free_new m preds (contents_of atom_tag done) marks h p row t

  pub hold_free : (content : List ℕ)
      → T (is_atom_content preds content)
      → is_free m preds marks content ≡ true
      → Holding m preds (contents_of atom_tag (done ++ (whole atom_tag content ∷ []))) (set marks (place m preds (get_or content 0 0) (drop 1 content)) 2)
  hold_free [] t free = absurd t
  hold_free (p ∷ row) t free =
      let below : all_of (λ d. ltb d m) row ≡ true = T_true (all_of (λ d. ltb d m) row) (both (all_of (λ d. ltb d m) row) (eqb (get_or marks (place m preds p row) 0) 0) (T_of (is_free m preds marks (p ∷ row)) free)).0 in
      subst
      (λ (atoms : List (List ℕ)). Holding m preds atoms (set marks (place m preds p row) 2))
      (sym (contents_of-append atom_tag done (whole atom_tag (p ∷ row) ∷ [])))
      (hold_more m preds (contents_of atom_tag done) marks h p row ((declared-exact preds p (length row)).0 t, all_below m row below))
