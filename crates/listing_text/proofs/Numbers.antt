-- Each piece by its number: the three first lines with the lines after each, and the line of a place of the marks by its predicate and cell.
-- Assumes nothing.
use Rattle.meaning.proofs.Prelude.{ℕ, ◌+◌, ◌<◌, zero, suc, ◌^◌, ◌≡◌, refl, sym, ap, ◌∙◌, subst, ap₂, ◌≢◌, cond, Bool, not, List, [], ◌∷◌, ◌++◌, eqb}
use Rattle.meaning.proofs.Prelude.{length, length-append, get_or, get_or-append, get_or-append-add, not-suc-le-zero, le_of_suc-le-suc, zero-add}
use Rattle.meaning.proofs.Prelude.{add-zero, suc-add, add-suc, arith, ne_eqb, eq-eqb}
use Rattle.meaning.proofs.Definitions.{table, Declared, cell, row_of, start, cells, marked, rules_of, predicate_arities, states_of, model_of}
use Rattle.meaning.proofs.Lists.{length-table, get_or-table}
use Rattle.meaning.proofs.Cells.{cell_of_row, cell-lt, place_onto}
use Rattle.meaning.proofs.Calls.{marks-length}
use Rattle.listing_text.specs.Listing.{states_line, state_line, model_line, atom_line, queries_line, query_line, places_from, place_line, all_pieces, pieces, piece}

module _ (file : List ℕ) where
  abbrev m : ℕ
  m = length (states_of file)

  abbrev queries : ℕ
  queries = length (rules_of file).queries

  length-places : (p : ℕ) (later : List ℕ) → length (places_from file p later) ≡ cells m later
  length-places p [] = refl
  length-places p (n ∷ later) = length-append (table (m ^ n) _) (places_from file (suc p) later) ∙ ap₂ ◌+◌ (length-table (m ^ n) _) (length-places (suc p) later)

  abbrev places : List (List ℕ)
  places = places_from file 0 (predicate_arities file)

  places-length : length places ≡ length (model_of file)
  places-length = length-places 0 (predicate_arities file) ∙ sym (marks-length file)

  abbrev front : List (List ℕ)
  front = states_line file ∷ table m (state_line file)

  abbrev middle : List (List ℕ)
  middle = model_line file ∷ places

  abbrev back : List (List ℕ)
  back = queries_line file ∷ table queries (query_line file)

  front_length : length front ≡ suc m
  front_length = ap suc (length-table m (state_line file))

  -- how many pieces there are
  pub pieces_are : pieces file ≡ m + length (model_of file) + queries + 3
  unfolding pieces all_pieces
  pieces_are =
      omega (
        arith,
        length-append front (middle ++ back),
        length-append middle back,
        front_length,
        places-length,
        length-table queries (query_line file),
      )

  -- the lines of the states, with the first line before them
  pub piece-states : piece file 0 ≡ states_line file
  unfolding piece all_pieces
  piece-states = refl

  pub piece-state : (i : ℕ) → i < m → piece file (suc i) ≡ state_line file i
  unfolding piece all_pieces
  piece-state i h = get_or-append front (middle ++ back) [] (suc i) (omega (arith, front_length)) ∙ get_or-table m (state_line file) [] i h

  -- the pieces of the model
  past_states : (k j : ℕ) → k ≡ m + 1 + j → piece file k ≡ get_or (middle ++ back) j []
  unfolding piece all_pieces
  past_states k j h =
      let e : k ≡ length front + j = omega (arith, front_length) in
      ap (λ (i : ℕ). get_or (front ++ (middle ++ back)) i []) e ∙ get_or-append-add front (middle ++ back) j []

  pub piece-model : (k : ℕ) → k ≡ m + 1 → piece file k ≡ model_line file
  piece-model k h = past_states k 0 (omega arith)

  pub piece-place : (k j : ℕ) → k ≡ m + 1 + suc j → j < length (model_of file) → piece file k ≡ place_line file j
  unfolding place_line
  piece-place k j h lt = past_states k (suc j) h ∙ get_or-append middle back [] (suc j) (omega (arith, places-length))

  -- the lines of the queries
  past_places : (k i : ℕ) → k ≡ m + 1 + (length (model_of file) + 1 + i) → piece file k ≡ get_or back i []
  past_places k i h =
      past_states k (length middle + i) (omega (arith, places-length)) ∙ get_or-append-add middle back i []

  pub piece-queries : (k : ℕ) → k ≡ m + 1 + (length (model_of file) + 1) → piece file k ≡ queries_line file
  piece-queries k h = past_places k 0 (omega arith)

  pub piece-query : (k i : ℕ) → k ≡ m + 1 + (length (model_of file) + 1 + suc i) → i < queries → piece file k ≡ query_line file i
  piece-query k i h lt = past_places k (suc i) h ∙ get_or-table queries (query_line file) [] i lt

  -- the piece of a place: by the place's predicate and cell
  abbrev line_at : ℕ → ℕ → ℕ → List ℕ
  line_at p n c = cond (marked m (predicate_arities file) (model_of file) p (row_of m n c)) (atom_line file (p ∷ row_of m n c)) []

  places-at : (q : ℕ) (later : List ℕ) (p n c : ℕ) → Declared later p n → c < m ^ n → get_or (places_from file q later) (start m later p + c) [] ≡ line_at (q + p) n c
  places-at q [] p n c h lt = absurd (not-suc-le-zero h.0)
  places-at q (k ∷ later) zero n c h lt =
      let e : k ≡ n = h.1 in
      let here : c < m ^ k = subst (λ (j : ℕ). c < m ^ j) (sym e) lt in
      ap (λ (j : ℕ). get_or (places_from file q (k ∷ later)) j []) (zero-add c)
      ∙ get_or-append (table (m ^ k) (line_at q k)) (places_from file (suc q) later) [] c (subst (λ (j : ℕ). c < j) (sym (length-table (m ^ k) (line_at q k))) here)
      ∙ get_or-table (m ^ k) (line_at q k) [] c here
      ∙ ap₂ (λ (r j : ℕ). line_at r j c) (sym (add-zero q)) e
  places-at q (k ∷ later) (suc p) n c h lt =
      let e : m ^ k + start m later p + c ≡ length (table (m ^ k) (line_at q k)) + (start m later p + c) = omega (arith, length-table (m ^ k) (line_at q k)) in
      ap (λ (j : ℕ). get_or (places_from file q (k ∷ later)) j []) e
      ∙ get_or-append-add (table (m ^ k) (line_at q k)) (places_from file (suc q) later) (start m later p + c) []
      ∙ places-at (suc q) later p n c (le_of_suc-le-suc h.0, h.1) lt
      ∙ ap (λ (r : ℕ). line_at r n c) (suc-add q p ∙ sym (add-suc q p))

  place_at_lem : (p n c : ℕ) → Declared (predicate_arities file) p n → c < m ^ n
      → get_or places (start m (predicate_arities file) p + c) []
      ≡ cond (not (eqb (get_or (model_of file) (start m (predicate_arities file) p + c) 0) 0)) (atom_line file (p ∷ row_of m n c)) []
  place_at_lem p n c h lt =
      places-at 0 (predicate_arities file) p n c h lt
      ∙ ap (λ (q : ℕ). line_at q n c) (zero-add p)
      ∙ ap (λ (j : ℕ). cond (not (eqb (get_or (model_of file) (start m (predicate_arities file) p + j) 0) 0)) (atom_line file (p ∷ row_of m n c)) []) (cell_of_row m n c lt)

  place-marked : (j p n c : ℕ) → Declared (predicate_arities file) p n → c < m ^ n → j ≡ start m (predicate_arities file) p + c → get_or (model_of file) j 0 ≢ 0
      → atom_line file (p ∷ row_of m n c) ≡ place_line file j
  unfolding place_line
  place-marked j p n c h lt e is =
      sym (ap (λ (i : ℕ). get_or places i []) e
      ∙ place_at_lem p n c h lt
      ∙ ap (λ (b : Bool). cond (not b) (atom_line file (p ∷ row_of m n c)) []) (ne_eqb (get_or (model_of file) (start m (predicate_arities file) p + c) 0) 0 (subst (λ (i : ℕ). get_or (model_of file) i 0 ≢ 0) e is)))

  -- a place that is marked has its atom's line, one that is not has none
  pub line_marked : (marks : List ℕ) (states j p c : ℕ)
      → marks ≡ model_of file
      → states ≡ m
      → p < length (predicate_arities file)
      → c < states ^ get_or (predicate_arities file) p 0
      → j ≡ start states (predicate_arities file) p + c
      → get_or marks j 0 ≢ 0
      → atom_line file (p ∷ row_of states (get_or (predicate_arities file) p 0) c) ≡ place_line file j
  line_marked marks states j p c marks_are_lem states_are_lem declared lt at is =
      subst
      (λ (k : ℕ).
      c < k ^ get_or (predicate_arities file) p 0
      → j ≡ start k (predicate_arities file) p + c
      → atom_line file (p ∷ row_of k (get_or (predicate_arities file) p 0) c) ≡ place_line file j)
      (sym states_are_lem)
      (λ lt at. place-marked j p (get_or (predicate_arities file) p 0) c (declared, refl) lt at (subst (λ (l : List ℕ). get_or l j 0 ≢ 0) marks_are_lem is))
      lt
      at

  place_unmarked : (j : ℕ) → j < length (model_of file) → get_or (model_of file) j 0 ≡ 0 → place_line file j ≡ []
  unfolding place_line
  place_unmarked j lt is =
      let w = place_onto m (predicate_arities file) j (subst (λ (n : ℕ). j < n) (marks-length file) lt) in
      let p : ℕ = w.0 in
      let row : List ℕ = w.1 in
      let c : ℕ = cell m row in
      ap (λ (i : ℕ). get_or places i []) (sym w.3)
      ∙ place_at_lem p (length row) c w.2.0 (cell-lt m row w.2.1)
      ∙ ap (λ (b : Bool). cond (not b) (atom_line file (p ∷ row_of m (length row) c)) []) (eq-eqb (get_or (model_of file) (start m (predicate_arities file) p + c) 0) 0 (subst (λ (i : ℕ). get_or (model_of file) i 0 ≡ 0) (sym w.3) is))

  pub line_unmarked : (marks : List ℕ) (j : ℕ) → marks ≡ model_of file → j < length marks → get_or marks j 0 ≡ 0 → [] ≡ place_line file j
  line_unmarked marks j marks_are_lem lt is =
      sym (place_unmarked j (subst (λ (l : List ℕ). j < length l) marks_are_lem lt) (subst (λ (l : List ℕ). get_or l j 0 ≡ 0) marks_are_lem is))
