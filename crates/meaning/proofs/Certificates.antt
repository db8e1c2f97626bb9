-- Sheets and their bytes, and the check: it accepts exactly the valid certificates, and each refusal names the lowest place that it fits.
-- Assumes nothing.
use Rattle.meaning.proofs.Prelude.{ℕ, ◌+◌, ◌<◌, zero, suc, ◌^◌, ◌*◌, max, suc-le-suc, ◌≡◌, refl, sym, ap, ◌∙◌, subst, ap₂, ◌≢◌, ⊎_elim, ◌⊎◌}
use Rattle.meaning.proofs.Prelude.{inl, inr, ◌↔◌, iff_trans, cond, Bool, true, false, not, ◌&&◌, ◌||◌, Option, none, some, some-ne-none}
use Rattle.meaning.proofs.Prelude.{none-ne-some, some_injective, List, [], ◌∷◌, map, ◌++◌, Memᴰ, mem_head}
use Rattle.meaning.proofs.Prelude.{mem_tail, append-nil, mem_cast, ltb, T, eqb, eqb→eq, eqb_refl, lt→ltb, ltb→lt, length, length-append}
use Rattle.meaning.proofs.Prelude.{get_or, take, get_elem?, length-take-le, ext_get_or, get_or-take, zero-lt-suc, arith}
use lib.Arith.{digits_div, digits_mod}
use Rattle.meaning.proofs.Definitions.{any_of, all_of, All, same, lowest, joined, Clause, state_tag, atom_tag, Bytes, Field, whole, cut, word}
use Rattle.meaning.proofs.Definitions.{fields, contents_of, encode_field, first_field, Answer, refused, accepted, is_cut, NoneTwice, row_of}
use Rattle.meaning.proofs.Definitions.{AtomSet, term_states, InstanceIn, instance_in, Closed, state_bytes, encode_sheet, IsSheetAtom, LaidOut}
use Rattle.meaning.proofs.Definitions.{Carries, InSheet, Valid, is_atom_content, misplaced, states_in, differ, wrong_atom, among, violated}
use Rattle.meaning.proofs.Definitions.{violated_at, refused_at, check_fields, answer_of_sheet, GivenSheet, Violation, LowestViolation}
use Rattle.meaning.proofs.Contents.{declared-exact}
use Rattle.meaning.proofs.Lists.{decide, trichotomy, T_of, clash, not-not, not-not_intro, not_intro, both, both_of, neither, neither_of, any_find, any_give, all_facts, facts_all, All-map, mem-get_or, mem-place, any_below_find, any_below_give, lowest-some, lowest_nowhere, lowest-is, lowest-none, eq-same, same-eq, same_refl}
use Rattle.meaning.proofs.Fields.{word_halves, fields-each, fields-joined, fields-nil, encode_whole, fields-whole, FieldBytes, fields-bytes, contents_of-append, contents_of-same, contents_of_other, NoneBy, NoneBy-places, NoField, NoField-append, first_field-none}
use Rattle.meaning.proofs.Cells.{valuation_of_number, number_of_valuation}
use Rattle.meaning.proofs.Sums.{sum}

-- the fields of a sheet
abbrev pub state_field : ℕ → Field
state_field s = whole state_tag (state_bytes s)

abbrev pub sheet_fields : List ℕ → List (List ℕ) → List Field
sheet_fields xs atoms = map state_field xs ++ map (whole atom_tag) atoms

pub sheet-fields : (xs : List ℕ) (atoms : List (List ℕ)) → fields (encode_sheet xs atoms) ≡ sheet_fields xs atoms
unfolding encode_sheet
sheet-fields xs atoms =
    fields-each state_tag state_bytes xs (joined (map (encode_field atom_tag) atoms))
    ∙ ap
    (λ (fs : List Field). map state_field xs ++ fs)
    (ap fields (sym (append-nil (joined (map (encode_field atom_tag) atoms))))
    ∙ fields-joined atom_tag atoms []
    ∙ ap (λ (fs : List Field). map (whole atom_tag) atoms ++ fs) fields-nil
    ∙ append-nil (map (whole atom_tag) atoms))

-- the fields of a sheet, encoded, are the sheet
encode_back : (xs : List ℕ) (atoms : List (List ℕ)) → joined (map encode_whole (sheet_fields xs atoms)) ≡ encode_sheet xs atoms
unfolding encode_sheet
encode_back [] [] = refl
encode_back [] (a ∷ atoms) = ap (λ (l : List ℕ). encode_field atom_tag a ++ l) (encode_back [] atoms)
encode_back (x ∷ xs) atoms = ap (λ (l : List ℕ). encode_field state_tag (state_bytes x) ++ l) (encode_back xs atoms)

-- they give the states and the atoms back
fields-states : (xs : List ℕ) (atoms : List (List ℕ)) → states_in (sheet_fields xs atoms) ≡ xs
fields-states [] atoms = ap (map (λ (content : List ℕ). word (get_or content 0 0) (get_or content 1 0))) (contents_of_other state_tag atom_tag atoms tt)
fields-states (x ∷ xs) atoms = ap₂ (λ (s : ℕ) (l : List ℕ). s ∷ l) (word_halves x) (fields-states xs atoms)

fields-atoms : (xs : List ℕ) (atoms : List (List ℕ)) → contents_of atom_tag (sheet_fields xs atoms) ≡ atoms
fields-atoms [] atoms = contents_of-same atom_tag atoms
fields-atoms (x ∷ xs) atoms = fields-atoms xs atoms

pub sheet-states : (xs : List ℕ) (atoms : List (List ℕ)) → states_in (fields (encode_sheet xs atoms)) ≡ xs
sheet-states xs atoms = ap states_in (sheet-fields xs atoms) ∙ fields-states xs atoms

pub sheet-atoms : (xs : List ℕ) (atoms : List (List ℕ)) → contents_of atom_tag (fields (encode_sheet xs atoms)) ≡ atoms
sheet-atoms xs atoms = ap (contents_of atom_tag) (sheet-fields xs atoms) ∙ fields-atoms xs atoms

pub sheet_injective : (xs ys : List ℕ) (atoms btoms : List (List ℕ))
    → encode_sheet xs atoms ≡ encode_sheet ys btoms
    → (xs ≡ ys) × (atoms ≡ btoms)
sheet_injective xs ys atoms btoms e = (
  sym (sheet-states xs atoms) ∙ ap (λ (b : List ℕ). states_in (fields b)) e ∙ sheet-states ys btoms,
  sym (sheet-atoms xs atoms) ∙ ap (λ (b : List ℕ). contents_of atom_tag (fields b)) e ∙ sheet-atoms ys btoms,
)

pub in_sheet_lem : (xs : List ℕ) (atoms : List (List ℕ)) (p : ℕ) (row : List ℕ)
    → InSheet (encode_sheet xs atoms) p row ↔ Memᴰ (p ∷ row) atoms
in_sheet_lem xs atoms p row = (
  (λ h. subst (Memᴰ (p ∷ row)) (sym (sheet_injective xs h.0 atoms h.1 h.2).1) h.3),
  (λ h. (xs, atoms, refl, h)),
)

-- a sheet has 5 bytes for each state, and for each atom 4 and as many as its arity
pub sheet-length : (xs : List ℕ) (atoms : List (List ℕ)) → length (encode_sheet xs atoms) ≡ length xs * 5 + sum (map (λ (a : List ℕ). 3 + length a) atoms)
unfolding encode_sheet
sheet-length [] [] = refl
sheet-length [] (a ∷ atoms) =
    let w = sheet-length [] atoms in
    omega (arith, w, length-append (encode_field atom_tag a) (joined (map (encode_field atom_tag) atoms)))
sheet-length (x ∷ xs) atoms =
    let w = sheet-length xs atoms in
    omega (arith, w, length-append (encode_field state_tag (state_bytes x)) (encode_sheet xs atoms))

-- each content has a declared predicate and as many bytes as its arity after it
abbrev pub AtomContents : List ℕ → List (List ℕ) → Type 0
AtomContents preds contents = All (λ (a : List ℕ). T (is_atom_content preds a)) contents

-- two bytes are some state's
two_bytes : (content : List ℕ) → length content ≡ 2 → Bytes content → (s : ℕ) × (content ≡ state_bytes s)
two_bytes [] e h = absurd (omega arith)
two_bytes (a ∷ []) e h = absurd (omega arith)
two_bytes (a ∷ b ∷ []) e h = (word a b, λ i. sym (digits_div a h.1.0) i ∷ sym (digits_mod a h.1.0) i ∷ [])
two_bytes (a ∷ b ∷ c ∷ content) e h = absurd (omega arith)

-- 10: no field is misplaced exactly if the bytes are some sheet's, with such atoms
module _ (preds : List ℕ) where
  states_placed : (before : List Field) (xs : List ℕ)
      → contents_of atom_tag before ≡ []
      → NoField (misplaced preds) before (map state_field xs)
  states_placed before [] e = tt
  states_placed before (x ∷ xs) e = (
    subst (λ (l : List (List ℕ)). T (not (ltb 0 (length l) || false))) (sym e) tt,
    states_placed
        (before ++ (state_field x ∷ []))
        xs
        (contents_of-append atom_tag before (state_field x ∷ []) ∙ ap (λ (l : List (List ℕ)). l ++ []) e),
  )

  atoms_placed : (before : List Field) (atoms : List (List ℕ))
      → AtomContents preds atoms
      → NoField (misplaced preds) before (map (whole atom_tag) atoms)
  atoms_placed before [] h = tt
  atoms_placed before (a ∷ atoms) h =
      (not-not_intro (is_atom_content preds a) h.0, atoms_placed (before ++ (whole atom_tag a ∷ [])) atoms h.1)

  -- a field that is not misplaced is a state's, with no atom before it, or an atom's
  Placed : List Field → Field → Type 0
  Placed before f =
      ((s : ℕ) × (f ≡ state_field s) × T (not (ltb 0 (length (contents_of atom_tag before)))))
      ⊎ ((a : List ℕ) × (f ≡ whole atom_tag a) × T (is_atom_content preds a))

  placed : (before : List Field) (f : Field) → FieldBytes f → T (not (misplaced preds before f)) → Placed before f
  unfolding Placed
  placed before cut h t = absurd t
  placed before (whole tag content) h t = go (eqb tag state_tag) (eqb tag atom_tag) refl refl t
    where
      seen : Bool
      seen = ltb 0 (length (contents_of atom_tag before))

      go : (b c : Bool)
          → eqb tag state_tag ≡ b
          → eqb tag atom_tag ≡ c
          → T (not (cond b (seen || not (eqb (length content) 2)) (cond c (not (is_atom_content preds content)) true)))
          → Placed before (whole tag content)
      go true c e f t =
          let w = neither seen (not (eqb (length content) 2)) t in
          let s = two_bytes content (eqb→eq (length content) 2 (not-not (eqb (length content) 2) w.1)) h.1 in
          inl (s.0, ap₂ (λ (k : ℕ) (l : List ℕ). whole k l) (eqb→eq tag state_tag (T_of (eqb tag state_tag) e)) s.1, w.0)
      go false true e f t =
          inr (content, ap (λ (k : ℕ). whole k content) (eqb→eq tag atom_tag (T_of (eqb tag atom_tag) f)), not-not (is_atom_content preds content) t)
      go false false e f t = absurd t

  -- such fields are a sheet's; with an atom before them there is no state
  Sorted : List Field → List Field → Type 0
  Sorted before fs =
      (xs : List ℕ)
      × (atoms : List (List ℕ))
      × (fs ≡ sheet_fields xs atoms)
      × AtomContents preds atoms
      × (T (ltb 0 (length (contents_of atom_tag before))) → xs ≡ [])

  sorted_cons : (before : List Field) (f : Field) (fs : List Field) → Placed before f → Sorted (before ++ (f ∷ [])) fs → Sorted before (f ∷ fs)
  unfolding Placed Sorted
  sorted_cons before f fs (inl p) r = (
    p.0 ∷ r.0,
    r.1,
    ap₂ (λ (g : Field) (gs : List Field). g ∷ gs) p.1 r.2,
    r.3,
    (λ t. absurd (clash (ltb 0 (length (contents_of atom_tag before))) t p.2)),
  )
  sorted_cons before f fs (inr p) r = (
    [],
    p.0 ∷ r.1,
    ap₂ (λ (g : Field) (gs : List Field). g ∷ gs) p.1 (r.2 ∙ ap (λ (xs : List ℕ). sheet_fields xs r.1) (r.4 seen)),
    (p.2, r.3),
    (λ t. refl),
  )
    where
      seen : T (ltb 0 (length (contents_of atom_tag (before ++ (f ∷ [])))))
      seen =
          lt→ltb 0 _
          (subst
          (λ (l : List (List ℕ)). 0 < length l)
          (sym (contents_of-append atom_tag before (f ∷ []) ∙ ap (λ (g : Field). contents_of atom_tag before ++ contents_of atom_tag (g ∷ [])) p.1))
          (omega (arith, length-append (contents_of atom_tag before) (p.0 ∷ []))))

  sorted : (before fs : List Field) → All FieldBytes fs → NoField (misplaced preds) before fs → Sorted before fs
  unfolding Sorted
  sorted before [] h k = ([], [], refl, tt, λ t. refl)
  sorted before (f ∷ fs) h k =
      sorted_cons before f fs (placed before f h.0 k.0) (sorted (before ++ (f ∷ [])) fs h.1 k.1)

  not-cut : (before fs : List Field) → NoField (misplaced preds) before fs → All (λ (f : Field). T (not (is_cut f))) fs
  not-cut before [] k = tt
  not-cut before (cut ∷ fs) k = absurd k.0
  not-cut before (whole tag content ∷ fs) k = (tt, not-cut (before ++ (whole tag content ∷ [])) fs k.1)

  pub placed_sheet : (sheet : List ℕ)
      → Bytes sheet
      → first_field (misplaced preds) (fields sheet) ≡ none
      → (xs : List ℕ)
      × (atoms : List (List ℕ))
      × (sheet ≡ encode_sheet xs atoms)
      × AtomContents preds atoms
  unfolding Sorted
  placed_sheet sheet h e =
      let k = (first_field-none (misplaced preds) (fields sheet)).0 e in
      let w = sorted [] (fields sheet) (fields-bytes sheet h) k in (
        w.0,
        w.1,
        fields-whole sheet h (not-cut [] (fields sheet) k)
            ∙ ap (λ (fs : List Field). joined (map encode_whole fs)) w.2
            ∙ encode_back w.0 w.1,
        w.3,
      )

  pub sheet_placed : (xs : List ℕ) (atoms : List (List ℕ))
      → AtomContents preds atoms
      → first_field (misplaced preds) (fields (encode_sheet xs atoms)) ≡ none
  sheet_placed xs atoms h =
      (first_field-none (misplaced preds) (fields (encode_sheet xs atoms))).1
      (subst
      (NoField (misplaced preds) [])
      (sym (sheet-fields xs atoms))
      ((NoField-append (misplaced preds) [] (map state_field xs) (map (whole atom_tag) atoms)).1
      (states_placed [] xs refl, atoms_placed (map state_field xs) atoms h)))

-- 11: no place differs exactly if the lists are equal
pub differ-none : (xs ys : List ℕ) → (lowest (max (length xs) (length ys)) (differ xs ys) ≡ none) ↔ (xs ≡ ys)
differ-none xs ys = (alike, (λ e. subst (λ (l : List ℕ). lowest (max (length xs) (length l)) (differ xs l) ≡ none) e (lowest-none _ (differ xs xs) same_place)))
  where
    same_place : (i : ℕ) → i < max (length xs) (length xs) → T (not (differ xs xs i))
    same_place i lt =
        let t = lt→ltb i (length xs) (omega arith) in
        not-not_intro
        (ltb i (length xs) && ltb i (length xs) && eqb (get_or xs i 0) (get_or xs i 0))
        (both_of
        (ltb i (length xs) && ltb i (length xs))
        (eqb (get_or xs i 0) (get_or xs i 0))
        (both_of (ltb i (length xs)) (ltb i (length xs)) t t)
        (eqb_refl (get_or xs i 0)))

    alike : lowest (max (length xs) (length ys)) (differ xs ys) ≡ none → xs ≡ ys
    alike e = ext_get_or 0 xs ys (long (trichotomy (length xs) (length ys))) (λ i lt. (at i (omega arith)).2)
      where
        at : (i : ℕ) → i < max (length xs) (length ys) → (i < length xs) × (i < length ys) × (get_or xs i 0 ≡ get_or ys i 0)
        at i lt =
            let t = not-not (ltb i (length xs) && ltb i (length ys) && eqb (get_or xs i 0) (get_or ys i 0)) ((lowest_nowhere (max (length xs) (length ys)) (differ xs ys)).0 e i lt) in
            let w = both (ltb i (length xs) && ltb i (length ys)) (eqb (get_or xs i 0) (get_or ys i 0)) t in
            let v = both (ltb i (length xs)) (ltb i (length ys)) w.0 in
            (ltb→lt i (length xs) v.0, ltb→lt i (length ys) v.1, eqb→eq (get_or xs i 0) (get_or ys i 0) w.1)

        long : (length xs < length ys) ⊎ ((length xs ≡ length ys) ⊎ (length ys < length xs)) → length xs ≡ length ys
        long (inl h) = absurd (omega (arith, (at (length xs) (omega arith)).0))
        long (inr (inl e)) = e
        long (inr (inr h)) = absurd (omega (arith, (at (length ys) (omega arith)).1))

-- no list stands among those before it exactly if none is there twice
pub none_twice : (ls : List (List ℕ)) → NoneBy (λ seen l. any_of (same l) seen) [] ls ↔ NoneTwice ls
none_twice ls = iff_trans (NoneBy-places (λ seen l. any_of (same l) seen) [] ls) (apart, fresh)
  where
    apart : ((j : ℕ) → j < length ls → T (not (any_of (same (get_or ls j [])) (take j ls)))) → NoneTwice ls
    apart h i j lt below e =
        clash
        (any_of (same (get_or ls j [])) (take j ls))
        (any_give
        (same (get_or ls j []))
        (take j ls)
        (get_or (take j ls) i [])
        (mem-get_or (take j ls) [] i (omega (arith, length-take-le j ls (omega arith))))
        (eq-same (get_or ls j []) (get_or (take j ls) i []) (sym e ∙ sym (get_or-take j ls i [] lt))))
        (h j below)

    fresh : NoneTwice ls → (j : ℕ) → j < length ls → T (not (any_of (same (get_or ls j [])) (take j ls)))
    fresh h j below =
        not_intro (any_of (same (get_or ls j [])) (take j ls)) (λ t.
        let w = any_find (same (get_or ls j [])) (take j ls) t in
        let v = mem-place (take j ls) [] w.0 w.1 in
        let lt : v.0 < j = omega (arith, v.1, length-take-le j ls (omega arith)) in
        h v.0 j lt below (sym (get_or-take j ls v.0 [] lt) ∙ v.2 ∙ sym (same-eq (get_or ls j []) w.0 w.2)))

-- 12: no atom is wrong exactly if each is a domain atom and none is there twice
module _ (m : ℕ) (preds : List ℕ) where
  atom-content : (a : List ℕ) → IsSheetAtom m preds a → T (is_atom_content preds a)
  atom-content [] h = absurd h
  atom-content (p ∷ row) h = (declared-exact preds p (length row)).1 h.0

  states_right : (before : List Field) (xs : List ℕ) → NoField (wrong_atom m) before (map state_field xs)
  states_right before [] = tt
  states_right before (x ∷ xs) = (tt, states_right (before ++ (state_field x ∷ [])) xs)

  atoms_right : (before : List Field) (seen atoms : List (List ℕ))
      → contents_of atom_tag before ≡ seen
      → AtomContents preds atoms
      → NoField (wrong_atom m) before (map (whole atom_tag) atoms)
      ↔ (All (IsSheetAtom m preds) atoms × NoneBy (λ seen l. any_of (same l) seen) seen atoms)
  atoms_right before seen [] e h = ((λ k. (tt, tt)), (λ k. tt))
  atoms_right before seen ([] ∷ atoms) e h = absurd h.0
  atoms_right before seen ((p ∷ row) ∷ atoms) e h =
      let later = atoms_right
      (before ++ (whole atom_tag (p ∷ row) ∷ []))
      (seen ++ ((p ∷ row) ∷ []))
      atoms
      (contents_of-append atom_tag before (whole atom_tag (p ∷ row) ∷ []) ∙ ap (λ (l : List (List ℕ)). l ++ ((p ∷ row) ∷ [])) e)
      h.1 in (
        (λ k.
            let w = neither (not (all_of (λ d. ltb d m) row)) (any_of (same (p ∷ row)) (contents_of atom_tag before)) k.0 in
            let v = later.0 k.1 in (
              (
                (
                  (declared-exact preds p (length row)).0 h.0,
                  All-map row (λ d. ltb→lt d m) (all_facts (λ d. ltb d m) row (not-not (all_of (λ d. ltb d m) row) w.0)),
                ),
                v.0,
              ),
              (subst (λ (l : List (List ℕ)). T (not (any_of (same (p ∷ row)) l))) e w.1, v.1),
            )),
        (λ k. (
          neither_of
              (not (all_of (λ d. ltb d m) row))
              (any_of (same (p ∷ row)) (contents_of atom_tag before))
              (not-not_intro (all_of (λ d. ltb d m) row) (facts_all (λ d. ltb d m) row (All-map row (λ d. lt→ltb d m) k.0.0.1)))
              (subst (λ (l : List (List ℕ)). T (not (any_of (same (p ∷ row)) l))) (sym e) k.1.0),
          later.1 (k.0.1, k.1.1),
        )),
      )

  pub sheet_right : (xs : List ℕ) (atoms : List (List ℕ))
      → AtomContents preds atoms
      → (first_field (wrong_atom m) (fields (encode_sheet xs atoms)) ≡ none) ↔ (All (IsSheetAtom m preds) atoms × NoneTwice atoms)
  sheet_right xs atoms h = (
    (λ e.
        let k = subst (NoField (wrong_atom m) []) (sheet-fields xs atoms) ((first_field-none (wrong_atom m) (fields (encode_sheet xs atoms))).0 e) in
        let w = of_atoms.0 (parts.0 k).1 in
        (w.0, (none_twice atoms).0 w.1)),
    (λ k.
        (first_field-none (wrong_atom m) (fields (encode_sheet xs atoms))).1
        (subst (NoField (wrong_atom m) []) (sym (sheet-fields xs atoms)) (parts.1 (states_right [] xs, of_atoms.1 (k.0, (none_twice atoms).1 k.1))))),
  )
    where
      states : List Field
      states = map state_field xs

      parts : NoField (wrong_atom m) [] (sheet_fields xs atoms) ↔ (NoField (wrong_atom m) [] states × NoField (wrong_atom m) states (map (whole atom_tag) atoms))
      parts = NoField-append (wrong_atom m) [] states (map (whole atom_tag) atoms)

      no_atom_lem : (l : List ℕ) → contents_of atom_tag (map state_field l) ≡ []
      no_atom_lem [] = refl
      no_atom_lem (x ∷ l) = no_atom_lem l

      of_atoms : NoField (wrong_atom m) states (map (whole atom_tag) atoms) ↔ (All (IsSheetAtom m preds) atoms × NoneBy (λ seen l. any_of (same l) seen) [] atoms)
      of_atoms = atoms_right states [] atoms (no_atom_lem xs) h

-- members by place
module _ {A : Type 0} where
  pub at_lt : (l : List A) (i : ℕ) (x : A) → get_elem? l i ≡ some x → i < length l
  at_lt [] i x e = absurd (none-ne-some x e)
  at_lt (y ∷ l) zero x e = zero-lt-suc _
  at_lt (y ∷ l) (suc i) x e = suc-le-suc (at_lt l i x e)

  pub at_mem : (l : List A) (i : ℕ) (x : A) → get_elem? l i ≡ some x → Memᴰ x l
  at_mem [] i x e = absurd (none-ne-some x e)
  at_mem (y ∷ l) zero x e = mem_head (sym (some_injective y x e))
  at_mem (y ∷ l) (suc i) x e = mem_tail (at_mem l i x e)

  member_at : (x : A) (l : List A) → Memᴰ x l → (i : ℕ) × (get_elem? l i ≡ some x)
  member_at x l (mem_head e) = (0, ap some (sym e))
  member_at x l (mem_tail {xs = ys} m) = let w = member_at x ys m in (suc w.0, w.1)

  mem-at : (l : List A) (x : A) → Memᴰ x l → (i : ℕ) × (get_elem? l i ≡ some x)
  mem-at l x m = member_at x l m

-- 13: the test finds the violations in the set of the atoms
module _ (m : ℕ) (interpret : ℕ → List ℕ → ℕ) (atoms : List (List ℕ)) (S : AtomSet) (is : (p : ℕ) (row : List ℕ) → T (among atoms p row) ↔ S p row) where
  passes-is : (c : Clause) (ν : List ℕ)
      → T (all_of (instance_in interpret ν (among atoms)) c.body && not (instance_in interpret ν (among atoms) c.head))
      ↔ (All (InstanceIn interpret ν S) c.body × (¬ InstanceIn interpret ν S c.head))
  passes-is c ν = (
    (λ t.
        let w = both bodies (not heads) t in (
          All-map c.body (λ a. (is a.predicate (term_states interpret ν a.arguments)).0) (all_facts (instance_in interpret ν (among atoms)) c.body w.0),
          (λ h. clash heads ((is c.head.predicate (term_states interpret ν c.head.arguments)).1 h) w.1),
        )),
    (λ h.
        both_of
        bodies
        (not heads)
        (facts_all (instance_in interpret ν (among atoms)) c.body (All-map c.body (λ a. (is a.predicate (term_states interpret ν a.arguments)).1) h.0))
        (not_intro heads (λ t. h.1 ((is c.head.predicate (term_states interpret ν c.head.arguments)).0 t)))),
  )
    where
      bodies : Bool
      bodies = all_of (instance_in interpret ν (among atoms)) c.body

      heads : Bool
      heads = instance_in interpret ν (among atoms) c.head

  pub violated-is : (c : Clause) → T (violated m interpret atoms c) ↔ Violation m interpret S c
  unfolding violated
  violated-is c = (
    (λ t.
        let w = any_below_find (m ^ c.variables) test t in
        let h = (passes-is c (row_of m c.variables w.0)).0 w.2 in
        record {
          valuation = row_of m c.variables w.0;
          valued = valuation_of_number m c.variables w.0 w.1;
          body_in = h.0;
          head_out = h.1;
        }),
    (λ v.
        let w = number_of_valuation m c.variables v.valuation v.valued in
        any_below_give (m ^ c.variables) test w.0 w.1
        (subst passes (sym w.2) ((passes-is c v.valuation).1 (v.body_in, v.head_out)))),
  )
    where
      passes : List ℕ → Type 0
      passes ν = T (all_of (instance_in interpret ν (among atoms)) c.body && not (instance_in interpret ν (among atoms) c.head))

      test : ℕ → Bool
      test n =
          let ν = row_of m c.variables n in
          all_of (instance_in interpret ν (among atoms)) c.body && not (instance_in interpret ν (among atoms) c.head)

  violated_at-is : (clauses : List Clause) (i : ℕ)
      → T (violated_at m interpret atoms clauses i) ↔ ((c : Clause) × (get_elem? clauses i ≡ some c) × Violation m interpret S c)
  violated_at-is [] i = (absurd, (λ h. absurd (none-ne-some h.0 h.1)))
  violated_at-is (c ∷ clauses) zero = (
    (λ t. (c, refl, (violated-is c).0 t)),
    (λ h. (violated-is c).1 (subst (Violation m interpret S) (sym (some_injective c h.0 h.1)) h.2)),
  )
  violated_at-is (c ∷ clauses) (suc i) = violated_at-is clauses i

  pub none-violated : (clauses : List Clause)
      → (lowest (length clauses) (violated_at m interpret atoms clauses) ≡ none) ↔ Closed m interpret clauses S
  none-violated clauses = (
    (λ e c mem ν valued body.
        ⊎_elim
        (λ t. (is c.head.predicate (term_states interpret ν c.head.arguments)).0 t)
        (λ t.
        let w = mem-at clauses c mem in
        absurd
        (clash
        (test w.0)
        ((violated_at-is clauses w.0).1 (
          c,
          w.1,
          record {
            valuation = ν;
            valued = valued;
            body_in = body;
            head_out = λ h. clash (instance_in interpret ν (among atoms) c.head) ((is c.head.predicate (term_states interpret ν c.head.arguments)).1 h) t;
          },
        ))
        ((lowest_nowhere (length clauses) test).0 e w.0 (at_lt clauses w.0 c w.1))))
        (decide (instance_in interpret ν (among atoms) c.head))),
    (λ closed.
        lowest-none (length clauses) test (λ i lt.
        not_intro (test i) (λ t.
        let w = (violated_at-is clauses i).0 t in
        w.2.head_out (closed w.0 (at_mem clauses i w.0 w.1) w.2.valuation w.2.valued w.2.body_in)))),
  )
    where
      test : ℕ → Bool
      test = violated_at m interpret atoms clauses

  pub first-violated : (clauses : List Clause) (i : ℕ)
      → (lowest (length clauses) (violated_at m interpret atoms clauses) ≡ some i) ↔ LowestViolation m interpret clauses S i
  first-violated clauses i = (
    (λ e.
        let h = (lowest-some (length clauses) test i).0 e in
        let w = (violated_at-is clauses i).0 h.here in
        record {
          clause = w.0;
          numbered = w.1;
          violation = w.2;
          lower = λ j lt c at v. clash (test j) ((violated_at-is clauses j).1 (c, at, v)) (h.lower j lt);
        }),
    (λ v.
        lowest-is
        (length clauses)
        test
        i
        (at_lt clauses i v.clause v.numbered)
        ((violated_at-is clauses i).1 (v.clause, v.numbered, v.violation))
        (λ j lt. not_intro (test j) (λ t. let w = (violated_at-is clauses j).0 t in v.lower j lt w.0 w.1 w.2))),
  )
    where
      test : ℕ → Bool
      test = violated_at m interpret atoms clauses

-- an answer is a refusal's if it fits and the answers after it have other numbers, and a later one's if it does not fit
refused_at-number : (number n : ℕ) (o : Option ℕ) (after : Answer) → number ≢ n → after.number ≢ n → (refused_at number o after).number ≢ n
refused_at-number number n none after other h = h
refused_at-number number n (some i) after other h = other

refused_at-here : (number k : ℕ) (o : Option ℕ) (after : Answer)
    → after.number ≢ number
    → (refused_at number o after ≡ refused number k) ↔ (o ≡ some k)
refused_at-here number k none after other =
    ((λ e. absurd (other (ap (λ (a : Answer). a.number) e))), (λ e. absurd (none-ne-some k e)))
refused_at-here number k (some i) after other =
    ((λ e. ap some (ap (λ (a : Answer). a.place) e)), (λ e. ap (refused number) (some_injective i k e)))

refused_at_past : {B : Type 0} (number n k : ℕ) (o : Option ℕ) (after : Answer)
    → number ≢ n
    → ((after ≡ refused n k) ↔ B)
    → (refused_at number o after ≡ refused n k) ↔ ((o ≡ none) × B)
refused_at_past number n k none after other h = ((λ e. (refl, h.0 e)), (λ b. h.1 b.1))
refused_at_past number n k (some i) after other h =
    ((λ e. absurd (other (ap (λ (a : Answer). a.number) e))), (λ b. absurd (some-ne-none i b.0)))

refused_at-accepted : (number : ℕ) (o : Option ℕ) → number ≢ 0 → (refused_at number o accepted ≡ accepted) ↔ (o ≡ none)
refused_at-accepted number none other = ((λ e. refl), (λ e. refl))
refused_at-accepted number (some i) other =
    ((λ e. absurd (other (ap (λ (a : Answer). a.number) e))), (λ e. absurd (some-ne-none i e)))

refused_at-zero : (number : ℕ) (o : Option ℕ) (after : Answer)
    → number ≢ 0
    → (after.number ≡ 0 → after ≡ accepted)
    → (refused_at number o after).number ≡ 0
    → refused_at number o after ≡ accepted
refused_at-zero number none after other h = h
refused_at-zero number (some i) after other h = λ e. absurd (other e)

-- a refusal: this one at its place, or one that comes after where it does not fit
refused_at-exact : {B : Type 0} (number n k : ℕ) (o : Option ℕ) (after : Answer)
    → ((after ≡ refused n k) ↔ B)
    → (refused_at number o after ≡ refused n k) ↔ (((n ≡ number) × (o ≡ some k)) ⊎ ((o ≡ none) × B))
refused_at-exact number n k none after h = (
  λ e. inr (refl, h.0 e),
  ⊎_elim (λ w. absurd (none-ne-some k w.1)) (λ w. h.1 w.1),
)
refused_at-exact number n k (some i) after h = (
  λ e. inl (sym (ap (λ (a : Answer). a.number) e), ap some (ap (λ (a : Answer). a.place) e)),
  ⊎_elim
      (λ w. λ j. record { number = sym w.0 j; place = some_injective i k w.1 j })
      (λ w. absurd (some-ne-none i w.0)),
)

-- an atom is among the contents of a sheet's atom fields exactly if it is in the sheet
among-is : (xs : List ℕ) (atoms : List (List ℕ)) (sheet : List ℕ)
    → sheet ≡ encode_sheet xs atoms
    → (p : ℕ) (row : List ℕ)
    → T (among (contents_of atom_tag (fields sheet)) p row) ↔ InSheet sheet p row
among-is xs atoms sheet e p row = (
  (λ t.
      let w = any_find (same (p ∷ row)) (contents_of atom_tag (fields sheet)) t in (
        xs,
        atoms,
        e,
        subst (Memᴰ (p ∷ row)) (contents xs atoms e) (mem_cast (same-eq (p ∷ row) w.0 w.2) w.1),
      )),
  (λ h.
      any_give
      (same (p ∷ row))
      (contents_of atom_tag (fields sheet))
      (p ∷ row)
      (subst (Memᴰ (p ∷ row)) (sym (contents h.0 h.1 h.2)) h.3)
      (same_refl (p ∷ row))),
)
  where
    contents : (ys : List ℕ) (btoms : List (List ℕ)) → sheet ≡ encode_sheet ys btoms → contents_of atom_tag (fields sheet) ≡ btoms
    contents ys btoms f = ap (λ (b : List ℕ). contents_of atom_tag (fields b)) f ∙ sheet-atoms ys btoms

module _ (states : List ℕ) (interpret : ℕ → List ℕ → ℕ) (preds : List ℕ) (clauses : List Clause) where
  -- the lowest place that each refusal fits
  abbrev pub misplaced_at : List ℕ → Option ℕ
  misplaced_at sheet = first_field (misplaced preds) (fields sheet)

  abbrev pub differ_at : List ℕ → Option ℕ
  differ_at sheet = lowest (max (length (states_in (fields sheet))) (length states)) (differ (states_in (fields sheet)) states)

  abbrev pub wrong_at : List ℕ → Option ℕ
  wrong_at sheet = first_field (wrong_atom (length states)) (fields sheet)

  abbrev pub violation_at : List ℕ → Option ℕ
  violation_at sheet = lowest (length clauses) (violated_at (length states) interpret (contents_of atom_tag (fields sheet)) clauses)

  -- the answer is a refusal exactly if it fits at this place first, and none of an earlier number fits; else the sheet is accepted
  pub check-misplaced : (sheet : List ℕ) (k : ℕ) → (answer_of_sheet states interpret preds clauses sheet ≡ refused 10 k) ↔ (misplaced_at sheet ≡ some k)
  unfolding answer_of_sheet check_fields
  check-misplaced sheet k =
      refused_at-here 10 k (misplaced_at sheet) _
      (refused_at-number 11 10 (differ_at sheet) _ (omega arith)
      (refused_at-number 12 10 (wrong_at sheet) _ (omega arith)
      (refused_at-number 13 10 (violation_at sheet) accepted (omega arith) (omega arith))))

  pub check-differ : (sheet : List ℕ) (k : ℕ)
      → (answer_of_sheet states interpret preds clauses sheet ≡ refused 11 k)
      ↔ ((misplaced_at sheet ≡ none) × (differ_at sheet ≡ some k))
  unfolding answer_of_sheet check_fields
  check-differ sheet k =
      refused_at_past 10 11 k (misplaced_at sheet) _ (omega arith)
      (refused_at-here 11 k (differ_at sheet) _
      (refused_at-number 12 11 (wrong_at sheet) _ (omega arith)
      (refused_at-number 13 11 (violation_at sheet) accepted (omega arith) (omega arith))))

  pub check_wrong : (sheet : List ℕ) (k : ℕ)
      → (answer_of_sheet states interpret preds clauses sheet ≡ refused 12 k)
      ↔ ((misplaced_at sheet ≡ none) × ((differ_at sheet ≡ none) × (wrong_at sheet ≡ some k)))
  unfolding answer_of_sheet check_fields
  check_wrong sheet k =
      refused_at_past 10 12 k (misplaced_at sheet) _ (omega arith)
      (refused_at_past 11 12 k (differ_at sheet) _ (omega arith)
      (refused_at-here 12 k (wrong_at sheet) _
      (refused_at-number 13 12 (violation_at sheet) accepted (omega arith) (omega arith))))

  pub check-violated : (sheet : List ℕ) (k : ℕ)
      → (answer_of_sheet states interpret preds clauses sheet ≡ refused 13 k)
      ↔ ((misplaced_at sheet ≡ none) × ((differ_at sheet ≡ none) × ((wrong_at sheet ≡ none) × (violation_at sheet ≡ some k))))
  unfolding answer_of_sheet check_fields
  check-violated sheet k =
      refused_at_past 10 13 k (misplaced_at sheet) _ (omega arith)
      (refused_at_past 11 13 k (differ_at sheet) _ (omega arith)
      (refused_at_past 12 13 k (wrong_at sheet) _ (omega arith)
      (refused_at-here 13 k (violation_at sheet) accepted (omega arith))))

  pub check-accepted : (sheet : List ℕ)
      → (answer_of_sheet states interpret preds clauses sheet ≡ accepted)
      ↔ ((misplaced_at sheet ≡ none) × ((differ_at sheet ≡ none) × ((wrong_at sheet ≡ none) × (violation_at sheet ≡ none))))
  unfolding answer_of_sheet check_fields
  check-accepted sheet =
      refused_at_past 10 0 0 (misplaced_at sheet) _ (omega arith)
      (refused_at_past 11 0 0 (differ_at sheet) _ (omega arith)
      (refused_at_past 12 0 0 (wrong_at sheet) _ (omega arith)
      (refused_at-accepted 13 (violation_at sheet) (omega arith))))

  -- its number is 0, or 10 and more
  pub check-number : (sheet : List ℕ) → ((answer_of_sheet states interpret preds clauses sheet).number ≡ 0) ⊎ (9 < (answer_of_sheet states interpret preds clauses sheet).number)
  unfolding answer_of_sheet check_fields
  check-number sheet =
      go 10 (misplaced_at sheet) _ (omega arith)
      (go 11 (differ_at sheet) _ (omega arith)
      (go 12 (wrong_at sheet) _ (omega arith)
      (go 13 (violation_at sheet) accepted (omega arith) (inl refl))))
    where
      go : (number : ℕ) (o : Option ℕ) (after : Answer)
          → 9 < number
          → (after.number ≡ 0) ⊎ (9 < after.number)
          → ((refused_at number o after).number ≡ 0) ⊎ (9 < (refused_at number o after).number)
      go number none after lt h = h
      go number (some k) after lt h = inr lt

  -- a number 0 stands with place 0
  pub check-zero : (sheet : List ℕ) → (answer_of_sheet states interpret preds clauses sheet).number ≡ 0 → answer_of_sheet states interpret preds clauses sheet ≡ accepted
  unfolding answer_of_sheet check_fields
  check-zero sheet =
      refused_at-zero 10 (misplaced_at sheet) _ (omega arith)
      (refused_at-zero 11 (differ_at sheet) _ (omega arith)
      (refused_at-zero 12 (wrong_at sheet) _ (omega arith)
      (refused_at-zero 13 (violation_at sheet) accepted (omega arith) (λ e. refl))))

  -- the answer is a refusal exactly if it is given by 01's table
  pub check-given : (sheet : List ℕ)
      → Bytes sheet
      → (n k : ℕ)
      → n ≢ 0
      → (answer_of_sheet states interpret preds clauses sheet ≡ refused n k) ↔ GivenSheet states interpret preds clauses sheet n k
  unfolding answer_of_sheet check_fields first_field
  check-given sheet bytes n k pos = (λ e. to (options.0 e), λ w. options.1 (back w))
    where
      Options : Type 0
      Options =
          ((n ≡ 10) × (misplaced_at sheet ≡ some k))
          ⊎ ((misplaced_at sheet ≡ none)
          × (((n ≡ 11) × (differ_at sheet ≡ some k))
          ⊎ ((differ_at sheet ≡ none)
          × (((n ≡ 12) × (wrong_at sheet ≡ some k))
          ⊎ ((wrong_at sheet ≡ none) × (((n ≡ 13) × (violation_at sheet ≡ some k)) ⊎ ((violation_at sheet ≡ none) × ⊥)))))))

      options : (check_fields states interpret preds clauses (fields sheet) ≡ refused n k) ↔ Options
      options =
          refused_at-exact 10 n k (misplaced_at sheet) _
          (refused_at-exact 11 n k (differ_at sheet) _
          (refused_at-exact 12 n k (wrong_at sheet) _
          (refused_at-exact 13 n k (violation_at sheet) accepted (λ e. pos (sym (ap (λ (a : Answer). a.number) e)), absurd))))

      in_sheet-is : misplaced_at sheet ≡ none → (p : ℕ) (row : List ℕ) → T (among (contents_of atom_tag (fields sheet)) p row) ↔ InSheet sheet p row
      in_sheet-is none10 = let w = placed_sheet preds sheet bytes none10 in among-is w.0 w.1 sheet w.2

      violations : misplaced_at sheet ≡ none → (violation_at sheet ≡ some k) ↔ LowestViolation (length states) interpret clauses (InSheet sheet) k
      violations none10 = first-violated (length states) interpret (contents_of atom_tag (fields sheet)) (InSheet sheet) (in_sheet-is none10) clauses k

      to : Options → GivenSheet states interpret preds clauses sheet n k
      to (inl w) = inl (w.0, (lowest-some _ _ k).0 w.1)
      to (inr (none10, inl w)) = inr (inl (w.0, (lowest_nowhere _ _).0 none10, (lowest-some _ _ k).0 w.1))
      to (inr (none10, inr (none11, inl w))) =
          inr (inr (inl (w.0, (lowest_nowhere _ _).0 none10, (lowest_nowhere _ _).0 none11, (lowest-some _ _ k).0 w.1)))
      to (inr (none10, inr (none11, inr (none12, inl w)))) =
          inr (inr (inr (w.0, (lowest_nowhere _ _).0 none10, (lowest_nowhere _ _).0 none11, (lowest_nowhere _ _).0 none12, (violations none10).0 w.1)))
      to (inr (none10, inr (none11, inr (none12, inr w)))) = absurd w.1

      back : GivenSheet states interpret preds clauses sheet n k → Options
      back (inl w) = inl (w.0, (lowest-some _ _ k).1 w.1)
      back (inr (inl w)) = inr ((lowest_nowhere _ _).1 w.1, inl (w.0, (lowest-some _ _ k).1 w.2))
      back (inr (inr (inl w))) =
          inr ((lowest_nowhere _ _).1 w.1, inr ((lowest_nowhere _ _).1 w.2, inl (w.0, (lowest-some _ _ k).1 w.3)))
      back (inr (inr (inr w))) =
          let none10 = (lowest_nowhere _ _).1 w.1 in
          inr (none10, inr ((lowest_nowhere _ _).1 w.2, inr ((lowest_nowhere _ _).1 w.3, inl (w.0, (violations none10).1 w.4))))

  -- a sheet that passes 10 to 12 is laid out and carries the states, and the other way round
  passed_laid : (sheet : List ℕ)
      → Bytes sheet
      → misplaced_at sheet ≡ none
      → differ_at sheet ≡ none
      → wrong_at sheet ≡ none
      → LaidOut (length states) preds sheet × Carries states sheet
  passed_laid sheet bytes none10 none11 none12 =
      let w = placed_sheet preds sheet bytes none10 in
      let e = sym (sheet-states w.0 w.1) ∙ ap (λ (b : List ℕ). states_in (fields b)) (sym w.2) ∙ (differ-none (states_in (fields sheet)) states).0 none11 in
      let r = (sheet_right (length states) preds w.0 w.1 w.3).0 (subst (λ (b : List ℕ). wrong_at b ≡ none) w.2 none12) in
      ((w.0, w.1, w.2, r.0, r.1), (w.1, w.2 ∙ ap (λ (xs : List ℕ). encode_sheet xs w.1) e))

  laid_passes : (sheet : List ℕ)
      → LaidOut (length states) preds sheet
      → Carries states sheet
      → (misplaced_at sheet ≡ none) × (differ_at sheet ≡ none) × (wrong_at sheet ≡ none)
  laid_passes sheet laid carries =
      let content = All-map laid.1 (atom-content (length states) preds) laid.3 in (
        subst (λ (b : List ℕ). misplaced_at b ≡ none) (sym laid.2) (sheet_placed preds laid.0 laid.1 content),
        (differ-none (states_in (fields sheet)) states).1 (ap (λ (b : List ℕ). states_in (fields b)) carries.1 ∙ sheet-states states carries.0),
        subst (λ (b : List ℕ). wrong_at b ≡ none) (sym laid.2) ((sheet_right (length states) preds laid.0 laid.1 content).1 (laid.3, laid.4)),
      )

  -- 13 fits nowhere exactly if the sheet is closed
  closed-exact : (sheet : List ℕ) → Carries states sheet → (violation_at sheet ≡ none) ↔ Closed (length states) interpret clauses (InSheet sheet)
  closed-exact sheet c = none-violated (length states) interpret (contents_of atom_tag (fields sheet)) (InSheet sheet) (among-is states c.0 sheet c.1) clauses

  -- a valid certificate is accepted
  pub valid_accepted : (sheet : List ℕ) → Valid states interpret preds clauses sheet → answer_of_sheet states interpret preds clauses sheet ≡ accepted
  valid_accepted sheet v =
      let h = laid_passes sheet v.laid_out v.carries in
      (check-accepted sheet).1 (h.0, (h.1, (h.2, (closed-exact sheet v.carries).1 v.closed)))

  -- the check accepts exactly the valid certificates, whatever the bytes
  pub check-exact : (sheet : List ℕ)
      → Bytes sheet
      → (answer_of_sheet states interpret preds clauses sheet ≡ accepted) ↔ Valid states interpret preds clauses sheet
  check-exact sheet bytes = (
    (λ e.
        let h = (check-accepted sheet).0 e in
        let l = passed_laid sheet bytes h.0 h.1.0 h.1.1.0 in
        record { laid_out = l.0; carries = l.1; closed = (closed-exact sheet l.1).0 h.1.1.1 }),
    valid_accepted sheet,
  )

  -- 13 names the lowest clause that has an instance with its body in the sheet and its head not
  pub check-violation : (sheet : List ℕ)
      → LaidOut (length states) preds sheet
      → Carries states sheet
      → (i : ℕ)
      → (answer_of_sheet states interpret preds clauses sheet ≡ refused 13 i) ↔ LowestViolation (length states) interpret clauses (InSheet sheet) i
  check-violation sheet laid carries i = (
    (λ e. first.0 ((check-violated sheet i).0 e).1.1.1),
    (λ v.
        let h = laid_passes sheet laid carries in
        (check-violated sheet i).1 (h.0, (h.1, (h.2, first.1 v)))),
  )
    where
      first : (violation_at sheet ≡ some i) ↔ LowestViolation (length states) interpret clauses (InSheet sheet) i
      first = first-violated (length states) interpret (contents_of atom_tag (fields sheet)) (InSheet sheet) (among-is states carries.0 sheet carries.1) clauses i
