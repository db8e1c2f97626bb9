-- The states are exactly the sets of types of the ground terms, or more than 16; and the tables go with them. What a symbol gives over a row of
-- sets is only a name here. Assumes nothing.
use Rattle.meaning.proofs.Prelude.{ℕ, ◌+◌, ◌≤◌, ◌<◌, zero, suc, ◌^◌, ◌≡◌, refl, sym, ap, ◌∙◌, subst, ap₂, ⊎_elim, ◌⊎◌, inl, inr, ◌↔◌}
use Rattle.meaning.proofs.Prelude.{Bool, true, false, List, [], ◌∷◌, map, Memᴰ, mem_cast, mem_not-nil, mem-map, mem_of-map, T}
use Rattle.meaning.proofs.Prelude.{length, length-append, length-map, get_or, get_or-append, get_or-append-add, not-suc-le-zero}
use Rattle.meaning.proofs.Prelude.{le_of_suc-le-suc, zero-add, add-zero, suc-add, add-suc, lt_of_lt_of_le, not-le_of_lt, ne_of_lt, lt_trans}
use Rattle.meaning.proofs.Prelude.{dec_lt, arith}
use Rattle.meaning.proofs.Definitions.{All, same, joined, table, Rising, most_states, Tree, Trees, node, leaf, ◌▹◌, tree_count, Production}
use Rattle.meaning.proofs.Definitions.{Declared, cell, row_of, start, cells, has, Sym, signature, allowed, IsGround, AreGround, OfType}
use Rattle.meaning.proofs.Definitions.{SameTypes, step, types_of, types_ofs, sets_at, index_of, reached, grow, saturate, determinise, cell_of}
use Rattle.meaning.proofs.Definitions.{tables_from, tables, MoreStates, states_for}
use Rattle.meaning.proofs.Lists.{T_of, T-not_of, clash, same-eq, eq-same, All-map, table-mem, mem-table, mem-joined, joined-mem, mem-get_or, length-table, get_or-table}
use Rattle.meaning.proofs.Setting.{InRange, each_state, Homomorphism}
use Rattle.meaning.proofs.Cells.{length-row_of, row_of_range, cell-lt, row_of_cell}
use Rattle.meaning.proofs.Types.{symbol_of, types-lt, types-exact, same-types-exact, allowed-listed, listed-allowed, declared-allowed}
use Rattle.meaning.proofs.Rising.{rising-nil, pigeonhole, insert_all-new, insert_all_find, insert_all-rising, insert_all_longer, index_of-lt, get_or-index_of}

-- every set of a row is one of a list
abbrev pub Among : List ℕ → List ℕ → Type 0
Among found row = All (λ s. Memᴰ s found) row

-- rows of places and rows of sets
pub sets_at-among : (found row : List ℕ) → All (λ d. d < length found) row → Among found (sets_at found row)
sets_at-among found [] h = tt
sets_at-among found (d ∷ row) h = (mem-get_or found 0 d h.0, sets_at-among found row h.1)

abbrev places_of : List ℕ → List ℕ → List ℕ
places_of found row = map (λ s. index_of s found) row

places_range : (found row : List ℕ) → Among found row → All (λ d. d < length found) (places_of found row)
places_range found [] h = tt
places_range found (s ∷ row) h = (index_of-lt s found h.0, places_range found row h.1)

sets_places : (found row : List ℕ) → Among found row → sets_at found (places_of found row) ≡ row
sets_places found [] h = refl
sets_places found (s ∷ row) h = ap₂ (λ (x : ℕ) (l : List ℕ). x ∷ l) (get_or-index_of s found h.0) (sets_places found row h.1)

module _ (st : ℕ → List ℕ → ℕ) where
  -- what a symbol gives over rows of the sets found
  reached_find :
      (found : List ℕ) (s : Sym) (x : ℕ)
      → Memᴰ x (reached st found s)
      → (row : List ℕ) × (length row ≡ s.arity) × Among found row × (x ≡ st s.symbol row)
  reached_find found s x m =
      let k : ℕ = length found in
      let w = table-mem (k ^ s.arity) (λ c. st s.symbol (sets_at found (row_of k s.arity c))) x m in
      let row : List ℕ = row_of k s.arity w.0 in (
        sets_at found row,
        length-map row (λ d. get_or found d 0) ∙ length-row_of k s.arity w.0,
        sets_at-among found row (row_of_range k s.arity w.0 w.1),
        w.2,
      )

  reached_give : (found : List ℕ) (f : ℕ) (row : List ℕ) → Among found row → Memᴰ (st f row) (reached st found (symbol_of f (length row)))
  reached_give found f row h = mem_cast (ap (st f) row_is) (mem-table (k ^ length row) (λ c. st f (sets_at found (row_of k (length row) c))) c c_lt)
    where
      k : ℕ
      k = length found

      c : ℕ
      c = cell k (places_of found row)

      size : length (places_of found row) ≡ length row
      size = length-map row (λ s. index_of s found)

      c_lt : c < k ^ length row
      c_lt = subst (λ (n : ℕ). c < k ^ n) size (cell-lt k (places_of found row) (places_range found row h))

      row_is : row ≡ sets_at found (row_of k (length row) c)
      row_is =
          sym (sets_places found row h)
          ∙ ap (sets_at found) (sym (row_of_cell k (places_of found row) (places_range found row h)) ∙ ap (λ (n : ℕ). row_of k n c) size)

  module _ (symbols : List Sym) where
    -- some symbol gives a set over a row of the sets found
    abbrev Given : List ℕ → ℕ → Type 0
    Given found x = (f : ℕ) × (row : List ℕ) × Memᴰ (symbol_of f (length row)) symbols × Among found row × (x ≡ st f row)

    -- one turn adds what is given, and nothing else
    grow_find : (found : List ℕ) (x : ℕ) → Memᴰ x (grow st symbols found) → Given found x ⊎ Memᴰ x found
    grow_find found x m = ⊎_elim (λ h. inl (given h)) (λ h. inr h) (insert_all_find (joined (map (reached st found) symbols)) found x m)
      where
        given : Memᴰ x (joined (map (reached st found) symbols)) → Given found x
        given h =
            let w = joined-mem (map (reached st found) symbols) x h in
            let v = mem_of-map (reached st found) symbols w.1 in
            let u = reached_find found v.0 x (subst (λ (l : List ℕ). Memᴰ x l) (sym v.2) w.2) in
            (v.0.symbol, u.0, mem_cast (ap (symbol_of v.0.symbol) u.1) v.1, u.2, u.3)

    grow_give :
        (found : List ℕ) (f : ℕ) (row : List ℕ)
        → Memᴰ (symbol_of f (length row)) symbols
        → Among found row
        → Memᴰ (st f row) (grow st symbols found)
    grow_give found f row m h =
        insert_all-new
        (joined (map (reached st found) symbols))
        found
        (st f row)
        (mem-joined
        (map (reached st found) symbols)
        (reached st found (symbol_of f (length row)))
        (st f row)
        (mem-map (reached st found) m)
        (reached_give found f row h))

    -- what every turn keeps holds in the end
    saturate-keeps :
        (P : List ℕ → Type 0)
        → ((l : List ℕ) → P l → P (grow st symbols l))
        → (k : ℕ) (found : List ℕ)
        → P found
        → P (saturate st k symbols found)
    saturate-keeps P h zero found p = p
    saturate-keeps P h (suc k) found p =
        go (same (grow st symbols found) found) (saturate-keeps P h k (grow st symbols found) (h found p))
      where
        go : (b : Bool)
            → P (saturate st k symbols (grow st symbols found))
            → P (elim b [ true ↦ found | false ↦ saturate st k symbols (grow st symbols found) ])
        go true q = p
        go false q = q

    -- each turn adds a set, or nothing is new
    abbrev Settled : ℕ → List ℕ → Type 0
    Settled n l = (grow st symbols l ≡ l) ⊎ (n ≤ length l)

    saturate_settles : (k : ℕ) (found : List ℕ) → Settled (k + length found) (saturate st k symbols found)
    saturate_settles zero found = inr (omega arith)
    saturate_settles (suc k) found =
        go (same (grow st symbols found) found) refl (saturate_settles k (grow st symbols found))
      where
        longer :
            same (grow st symbols found) found ≡ false
            → (grow st symbols found ≡ found) ⊎ (length found < length (grow st symbols found))
            → length found < length (grow st symbols found)
        longer e (inl d) =
            absurd
            (clash (same (grow st symbols found) found) (eq-same (grow st symbols found) found d) (T-not_of (same (grow st symbols found) found) e))
        longer e (inr h) = h

        go : (b : Bool)
            → same (grow st symbols found) found ≡ b
            → Settled (k + length (grow st symbols found)) (saturate st k symbols (grow st symbols found))
            → Settled (suc k + length found) (elim b [ true ↦ found | false ↦ saturate st k symbols (grow st symbols found) ])
        go true e h = inl (same-eq (grow st symbols found) found (T_of (same (grow st symbols found) found) e))
        go false e h =
            ⊎_elim
            (λ d. inl d)
            (λ le. inr (omega (arith, longer e (insert_all_longer (joined (map (reached st found) symbols)) found))))
            h

    -- the states rise; each is given by symbols over others; and if they are few, all that symbols give over them is among them
    pub determinise-rising : Rising (determinise st symbols)
    unfolding determinise
    determinise-rising =
        saturate-keeps Rising (λ l r. insert_all-rising (joined (map (reached st l) symbols)) l r) (suc most_states) [] rising-nil

    pub determinise-sound :
        (P : ℕ → Type 0)
        → ((f : ℕ) (row : List ℕ) → Memᴰ (symbol_of f (length row)) symbols → All P row → P (st f row))
        → (x : ℕ)
        → Memᴰ x (determinise st symbols)
        → P x
    unfolding determinise
    determinise-sound P h =
        saturate-keeps
        (λ (l : List ℕ). (x : ℕ) → Memᴰ x l → P x)
        (λ l p x m.
        ⊎_elim
        (λ (w : Given l x). subst P (sym w.4) (h w.0 w.1 w.2 (All-map w.1 p w.3)))
        (p x)
        (grow_find l x m))
        (suc most_states)
        []
        (λ x m. absurd (mem_not-nil m))

    determinise_settles : Settled (suc most_states) (determinise st symbols)
    unfolding determinise
    determinise_settles = saturate_settles (suc most_states) []

    pub determinise-closed :
        length (determinise st symbols) ≤ most_states
        → (f : ℕ) (row : List ℕ)
        → Memᴰ (symbol_of f (length row)) symbols
        → Among (determinise st symbols) row
        → Memᴰ (st f row) (determinise st symbols)
    determinise-closed few f row m h =
        subst
        (λ (l : List ℕ). Memᴰ (st f row) l)
        (⊎_elim (λ e. e) (λ more. absurd (not-le_of_lt more few)) determinise_settles)
        (grow_give (determinise st symbols) f row m h)

-- as many values as a list of trees has trees
pub length-types_ofs : (productions : List Production) (types : ℕ) (ts : Trees) → length (types_ofs productions types ts) ≡ tree_count ts
length-types_ofs productions types leaf = refl
length-types_ofs productions types (t ▹ ts) = ap suc (length-types_ofs productions types ts)

module _ (arities : List ℕ) (types : ℕ) (productions : List Production) where
  abbrev states : List ℕ
  states = states_for arities types productions

  -- the state of a ground term
  abbrev state_of_tree : Tree → ℕ
  state_of_tree t = index_of (types_of productions types t) states

  -- a ground term with exactly these types
  abbrev pub TermOf : ℕ → Type 0
  TermOf s = (t : Tree) × IsGround arities t × (types_of productions types t ≡ s)

  pub states-rising : Rising states
  unfolding states_for
  states-rising = determinise-rising (step productions types) (signature arities)

  -- every state is some ground term's
  terms_of_lem :
      (row : List ℕ)
      → All TermOf row
      → (ts : Trees) × AreGround arities ts × (types_ofs productions types ts ≡ row)
  terms_of_lem [] h = (leaf, tt, refl)
  terms_of_lem (s ∷ row) h =
      let w = terms_of_lem row h.1 in
      (h.0.0 ▹ w.0, (h.0.1, w.1), ap₂ (λ (x : ℕ) (l : List ℕ). x ∷ l) h.0.2 w.2)

  pub states-sound : (s : ℕ) → Memᴰ s states → TermOf s
  unfolding states_for
  states-sound = determinise-sound (step productions types) (signature arities) TermOf term
    where
      term : (f : ℕ) (row : List ℕ) → Memᴰ (symbol_of f (length row)) (signature arities) → All TermOf row → TermOf (step productions types f row)
      term f row m h =
          let w = terms_of_lem row h in (
            node f w.0,
            (
              subst
                  (λ (n : ℕ). T (allowed arities f n))
                  (ap (λ (l : List ℕ). length l) (sym w.2) ∙ length-types_ofs productions types w.0)
                  (listed-allowed arities f (length row) m),
              w.1,
            ),
            ap (step productions types f) w.2,
          )

  pub states-lt : (s : ℕ) → Memᴰ s states → s < 2 ^ types
  states-lt s m = let w = states-sound s m in subst (λ (x : ℕ). x < 2 ^ types) w.2 (types-lt productions types w.0)

  module _ (few : length states ≤ most_states) where
    -- if they are few, every ground term has one
    pub states-closed :
        (f : ℕ) (row : List ℕ)
        → T (allowed arities f (length row))
        → Among states row
        → Memᴰ (step productions types f row) states
    unfolding states_for
    states-closed f row t h =
        determinise-closed (step productions types) (signature arities) few f row (allowed-listed arities f (length row) t) h

    mutual
      pub states-complete : (t : Tree) → IsGround arities t → Memᴰ (types_of productions types t) states
      states-complete (node f ts) g =
          states-closed
          f
          (types_ofs productions types ts)
          (subst (λ (n : ℕ). T (allowed arities f n)) (sym (length-types_ofs productions types ts)) g.0)
          (states-among ts g.1)

      states-among : (ts : Trees) → AreGround arities ts → Among states (types_ofs productions types ts)
      states-among leaf g = tt
      states-among (t ▹ ts) g = (states-complete t g.0, states-among ts g.1)

    pub states-exact : (s : ℕ) → Memᴰ s states ↔ TermOf s
    states-exact s = (states-sound s, λ w. mem_cast (sym w.2) (states-complete w.0 w.1))

    -- a declared symbol over states is a state
    pub cell_range : InRange arities (length states) (cell_of (step productions types) states)
    unfolding cell_of
    cell_range f row d h =
        index_of-lt
        (step productions types f (sets_at states row))
        states
        (states-closed
        f
        (sets_at states row)
        (subst (λ (n : ℕ). T (allowed arities f n)) (sym (length-map row (λ d. get_or states d 0))) (declared-allowed arities f (length row) d))
        (sets_at-among states row h))

    -- the states of ground terms go with the cells, and hold the terms' types
    sets_of_states : (ts : Trees) → AreGround arities ts → sets_at states (each_state state_of_tree ts) ≡ types_ofs productions types ts
    sets_of_states leaf g = refl
    sets_of_states (t ▹ ts) g =
        ap₂
        (λ (x : ℕ) (l : List ℕ). x ∷ l)
        (get_or-index_of (types_of productions types t) states (states-complete t g.0))
        (sets_of_states ts g.1)

    pub homomorphism :
        All (λ (p : Production). p.target < types) productions
        → Homomorphism
        arities
        productions
        states
        (cell_of (step productions types) states)
        (λ t. index_of (types_of productions types t) states)
    unfolding cell_of
    homomorphism within =
        record {
          below = λ t g. index_of-lt (types_of productions types t) states (states-complete t g);
          along = λ f ts g. ap (λ (row : List ℕ). index_of (step productions types f row) states) (sym (sets_of_states ts g.1));
          exact =
              λ t g q.
              subst
              (λ (s : ℕ). T (has s q) ↔ OfType productions t q)
              (sym (get_or-index_of (types_of productions types t) states (states-complete t g)))
              (types-exact productions types within t q);
        }

  -- a ground term for each place of the states
  term_at : (i : ℕ) → Dec (i < length states) → Tree
  term_at i (yes lt) = (states-sound (get_or states i 0) (mem-get_or states 0 i lt)).0
  term_at i (no _) = node 0 leaf

  term_at-is : (i : ℕ) (d : Dec (i < length states)) → i < length states → IsGround arities (term_at i d) × (types_of productions types (term_at i d) ≡ get_or states i 0)
  unfolding term_at
  term_at-is i (yes lt) h = let w = states-sound (get_or states i 0) (mem-get_or states 0 i lt) in (w.1, w.2)
  term_at-is i (no n) h = absurd (n h)

  -- the list is longer than 16 exactly if more than 16 states exist
  pub more-states : All (λ (p : Production). p.target < types) productions → (most_states < length states) ↔ MoreStates arities productions
  more-states within = (differ, λ w. more w (dec_lt most_states (length states)))
    where
      same : (t u : Tree) → (types_of productions types t ≡ types_of productions types u) ↔ SameTypes productions t u
      same = same-types-exact productions types within

      term_of : ℕ → Tree
      term_of i = term_at i (dec_lt i (length states))

      differ : most_states < length states → MoreStates arities productions
      differ longer =
          let at : (i : ℕ) → i < suc most_states → _ = λ i lt. term_at-is i (dec_lt i (length states)) (lt_of_lt_of_le lt longer) in
          record {
            term = term_of;
            ground = λ i lt. (at i lt).0;
            differ =
                λ i j lt le h.
                ne_of_lt (states-rising i j lt (lt_of_lt_of_le le longer)) (sym (at i (lt_trans lt le)).1 ∙ (same (term_of i) (term_of j)).1 h ∙ (at j le).1);
          }

      more : MoreStates arities productions → Dec (most_states < length states) → most_states < length states
      more w (yes h) = h
      more w (no n) =
          pigeonhole
          (suc most_states)
          states
          (λ i. types_of productions types (w.term i))
          (λ i lt. states-complete (omega arith) (w.term i) (w.ground i lt))
          (λ i j lt le e. w.differ i j lt le ((same (w.term i) (w.term j)).0 e))

-- the tables: a segment for each symbol, with a cell for each row, in which stands what the symbol gives over the row
module _ (st : ℕ → List ℕ → ℕ) (states : List ℕ) where
  abbrev table_segment : ℕ → ℕ → List ℕ
  table_segment f n = table (length states ^ n) (λ c. cell_of st states f (row_of (length states) n c))

  length-segment : (f n : ℕ) → length (table_segment f n) ≡ length states ^ n
  length-segment f n = length-table (length states ^ n) (λ c. cell_of st states f (row_of (length states) n c))

  length-tables_from : (f : ℕ) (arities : List ℕ) → length (tables_from st states f arities) ≡ cells (length states) arities
  length-tables_from f [] = refl
  length-tables_from f (n ∷ arities) =
      length-append (table_segment f n) (tables_from st states (suc f) arities) ∙ ap₂ ◌+◌ (length-segment f n) (length-tables_from (suc f) arities)

  pub length-tables : (arities : List ℕ) → length (tables st states arities) ≡ cells (length states) arities
  unfolding tables
  length-tables arities = length-tables_from 0 arities

  tables_from-at :
      (arities : List ℕ) (f g : ℕ) (row : List ℕ)
      → Declared arities f (length row)
      → All (λ d. d < length states) row
      → get_or (tables_from st states g arities) (start (length states) arities f + cell (length states) row) 0 ≡ cell_of st states (g + f) row
  tables_from-at [] f g row d h = absurd (not-suc-le-zero d.0)
  tables_from-at (n ∷ arities) zero g row d h =
      ap (λ (i : ℕ). get_or (tables_from st states g (n ∷ arities)) i 0) (zero-add c)
      ∙ get_or-append (table_segment g n) (tables_from st states (suc g) arities) 0 c (subst (λ (k : ℕ). c < k) (sym (length-segment g n)) c_lt)
      ∙ get_or-table (length states ^ n) (λ c. cell_of st states g (row_of (length states) n c)) 0 c c_lt
      ∙ ap₂ (cell_of st states) (sym (add-zero g)) (ap (λ (k : ℕ). row_of (length states) k c) d.1 ∙ row_of_cell (length states) row h)
    where
      c : ℕ
      c = cell (length states) row

      c_lt : c < length states ^ n
      c_lt = subst (λ (k : ℕ). c < length states ^ k) (sym d.1) (cell-lt (length states) row h)
  tables_from-at (n ∷ arities) (suc f) g row d h =
      ap (λ (i : ℕ). get_or (tables_from st states g (n ∷ arities)) i 0) place
      ∙ get_or-append-add (table_segment g n) (tables_from st states (suc g) arities) (start (length states) arities f + cell (length states) row) 0
      ∙ tables_from-at arities f (suc g) row (le_of_suc-le-suc d.0, d.1) h
      ∙ ap (λ (k : ℕ). cell_of st states k row) (suc-add g f ∙ sym (add-suc g f))
    where
      place :
          length states ^ n + start (length states) arities f + cell (length states) row
          ≡ length (table_segment g n) + (start (length states) arities f + cell (length states) row)
      place = omega (arith, length-segment g n)

  pub tables-at :
      (arities : List ℕ) (f : ℕ) (row : List ℕ)
      → Declared arities f (length row)
      → All (λ d. d < length states) row
      → get_or (tables st states arities) (start (length states) arities f + cell (length states) row) 0 ≡ cell_of st states f row
  unfolding tables
  tables-at arities f row d h = tables_from-at arities f 0 row d h ∙ ap (λ (g : ℕ). cell_of st states g row) (zero-add f)
