-- The pieces one after the other are the listing of an accepted file; the listing of a refused file. Assumes nothing.
use Rattle.meaning.proofs.Prelude.{ℕ, ◌+◌, zero, suc, ◌^◌, ◌≡◌, refl, sym, ap, ◌∙◌, ap₂, ◌≢◌, cond, Bool, true, false, List, [], ◌∷◌, map, ◌++◌}
use Rattle.meaning.proofs.Prelude.{map-append, append-nil, length, add-zero, ne_eqb}
use Rattle.meaning.proofs.Definitions.{joined, table, row_of, marked, atoms_from, marked_atoms, Answer, accepted, ok, rules_of, file_answer}
use Rattle.meaning.proofs.Definitions.{predicate_arities, states_of, model_of, atoms_of}
use Rattle.meaning.proofs.Lists.{joined-append}
use Rattle.meaning.proofs.MarkedAtoms.{table-get_or, table-append}
use Rattle.listing_text.specs.Lines.{refused_line}
use Rattle.listing_text.specs.Listing.{states_line, state_line, model_line, atom_line, queries_line, query_line, lines_with, listing, places_from, all_pieces, pieces, piece}

-- what is made of the members of some lists, where a list has one member or none by a test
joined_chosen : {A : Type 0} (f : A → List ℕ) (n : ℕ) (test : ℕ → Bool) (a : ℕ → A)
    → joined (table n (λ i. cond (test i) (f (a i)) [])) ≡ joined (map f (joined (table n (λ i. cond (test i) (a i ∷ []) []))))
joined_chosen f zero test a = refl
joined_chosen {A} f (suc n) test a = go (test 0) (joined_chosen f n (λ i. test (suc i)) (λ i. a (suc i)))
  where
    texts : List ℕ
    texts = joined (table n (λ i. cond (test (suc i)) (f (a (suc i))) []))

    members : List A
    members = joined (table n (λ i. cond (test (suc i)) (a (suc i) ∷ []) []))

    go : (b : Bool) → texts ≡ joined (map f members) → cond b (f (a 0)) [] ++ texts ≡ joined (map f (cond b (a 0 ∷ []) [] ++ members))
    go true e = ap (λ (l : List ℕ). f (a 0) ++ l) e
    go false e = e

module _ (file : List ℕ) where
  abbrev m : ℕ
  m = length (states_of file)

  places-atoms : (p : ℕ) (later : List ℕ)
      → joined (places_from file p later) ≡ joined (map (atom_line file) (atoms_from m (predicate_arities file) (model_of file) p later))
  places-atoms p [] = refl
  places-atoms p (n ∷ later) =
      let test : ℕ → Bool = λ c. marked m (predicate_arities file) (model_of file) p (row_of m n c) in
      let atoms : List (List ℕ) = joined (table (m ^ n) (λ c. cond (test c) ((p ∷ row_of m n c) ∷ []) [])) in
      let others : List (List ℕ) = atoms_from m (predicate_arities file) (model_of file) (suc p) later in
      joined-append (table (m ^ n) (λ c. cond (test c) (atom_line file (p ∷ row_of m n c)) [])) (places_from file (suc p) later)
      ∙ ap₂ (λ (xs ys : List ℕ). xs ++ ys) (joined_chosen (atom_line file) (m ^ n) test (λ c. p ∷ row_of m n c)) (places-atoms (suc p) later)
      ∙ sym (joined-append (map (atom_line file) atoms) (map (atom_line file) others))
      ∙ ap joined (sym (map-append (atom_line file) atoms others))

  -- the same text for the atoms
  lines_same : (xs ys : List (List ℕ)) → joined xs ≡ joined ys → joined (lines_with file xs) ≡ joined (lines_with file ys)
  lines_same xs ys e = lines_of xs ∙ ap (λ (l : List ℕ). joined front ++ (model_line file ++ l ++ joined back)) e ∙ sym (lines_of ys)
    where
      front : List (List ℕ)
      front = states_line file ∷ table m (state_line file)

      back : List (List ℕ)
      back = queries_line file ∷ table (length (rules_of file).queries) (query_line file)

      lines_of : (l : List (List ℕ)) → joined (lines_with file l) ≡ joined front ++ (model_line file ++ joined l ++ joined back)
      lines_of l = joined-append front ((model_line file ∷ l) ++ back) ∙ ap (λ (t : List ℕ). joined front ++ t) (joined-append (model_line file ∷ l) back)

  -- The pieces one after the other are the listing.
  pub listing-pieces : file_answer file ≡ accepted → joined (table (pieces file) (piece file)) ≡ listing file
  unfolding pieces piece all_pieces listing atoms_of marked_atoms
  listing-pieces e =
      ap joined (table-get_or (all_pieces file) [])
      ∙ lines_same (places_from file 0 (predicate_arities file)) (map (atom_line file) (atoms_of file)) (places-atoms 0 (predicate_arities file))
      ∙ ap (λ (a : Answer). cond (ok a) (joined (lines_with file (map (atom_line file) (atoms_of file)))) (refused_line (file_answer file))) (sym e)

  -- one piece more
  pub pieces-next : (k : ℕ) → joined (table (k + 1) (piece file)) ≡ joined (table k (piece file)) ++ piece file k
  pieces-next k =
      ap joined (table-append k 1 (piece file))
      ∙ joined-append (table k (piece file)) (piece file (k + 0) ∷ [])
      ∙ ap (λ (l : List ℕ). joined (table k (piece file)) ++ l) (append-nil (piece file (k + 0)) ∙ ap (piece file) (add-zero k))

  -- The listing of a file that is refused.
  pub listing-refused : (file_answer file).number ≢ 0 → listing file ≡ refused_line (file_answer file)
  unfolding listing
  listing-refused h =
      ap (λ (b : Bool). cond b (joined (lines_with file (map (atom_line file) (atoms_of file)))) (refused_line (file_answer file))) (ne_eqb (file_answer file).number 0 h)
