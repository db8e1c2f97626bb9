-- All productions marked in an emptied buffer: the sets that the symbols give over all rows. A type is in the set of a row exactly if a production
-- that fits adds it, and each row has its own place. Assumes nothing.
use Rattle.meaning.proofs.Prelude.{ℕ, ◌+◌, ◌≤◌, ◌<◌, zero, suc, ◌^◌, ◌≡◌, refl, sym, ap, ◌∙◌, subst, subst₂, ap₂, ⊎_elim, ◌⊎◌, inl, inr, Bool, ◌&&◌}
use Rattle.meaning.proofs.Prelude.{List, [], ◌∷◌, map, ◌++◌, Memᴰ, mem_head, mem_tail, ltb, T, eqb, eqb→eq, eqb_refl, lt→ltb, length}
use Rattle.meaning.proofs.Prelude.{length-append, get_or, take, drop, replicate, length-replicate, get_or-replicate, get_or-append, take-append-drop}
use Rattle.meaning.proofs.Prelude.{length-take-le, ext_get_or, get_or-take, get_or-append-add, drop_at, not-suc-le-zero, le_of_suc-le-suc, zero-add}
use Rattle.meaning.proofs.Prelude.{add-zero, suc-add, add-suc, lt_of_lt_of_le, arith}
use lib.Pow.{pow_pos, pow_mono}
use Rattle.meaning.proofs.Definitions.{All, any_of, joined, Production, has, fits, step, numbered, sets_at, reached, cell, row_of, start, cells}
use Rattle.meaning.proofs.Definitions.{WellProduction, production_of, IsAtom, place}
use Rattle.meaning.proofs.Lists.{bool_ext, both, both_of, any_find, any_give, All-find, length-table, get_or-table}
use Rattle.meaning.proofs.Sets.{has_nothing, has-set_of, set_of-lt, set_ext}
use Rattle.meaning.proofs.Cells.{cell-lt, row_of_cell, place-lt, place_inj, place_onto}
use Rattle.fields.specs.Found.{contents_from}
use Rattle.cells.proofs.Rows.{cell_from, from_zero}
use Rattle.automaton.specs.Sets.{added, given_sets}
use Rattle.automaton.specs.Marking.{joined_at, mark_production, mark_all, AreProductions, Fillable}
use Rattle.automaton.proofs.Marking.{cleared, length-cleared, length-joined_at, joined-has, joined_keeps, joined-fits, drop-joined_at, mark-keeps, mark-gives}
use Rattle.automaton.proofs.Members.{one_has, one-own, added-lt}
use Rattle.automaton.proofs.Turns.{fillable_same, length-mark_production, mark_from, from_none}

-- the given sets, by place
module _ (g : ℕ → List ℕ → ℕ) (states : List ℕ) where
  abbrev sets_of : ℕ → List ℕ → List ℕ
  sets_of i arities = joined (map (reached g states) (numbered i arities))

  length-given : (i : ℕ) (arities : List ℕ) → length (sets_of i arities) ≡ cells (length states) arities
  length-given i [] = refl
  length-given i (n ∷ arities) =
      length-append (reached g states (record { symbol = i; arity = n })) (sets_of (suc i) arities)
      ∙ ap₂ ◌+◌ (length-table (length states ^ n) _) (length-given (suc i) arities)

  given-at : (i : ℕ) (arities : List ℕ) (f : ℕ) (row : List ℕ)
      → IsAtom (length states) arities f row
      → get_or (sets_of i arities) (place (length states) arities f row) 0 ≡ g (i + f) (sets_at states row)
  given-at i [] f row h = absurd (not-suc-le-zero h.0.0)
  given-at i (n ∷ arities) zero row h =
      let m : ℕ = length states in
      let c : ℕ = cell m row in
      let lt : c < m ^ n = subst (λ (k : ℕ). c < m ^ k) (sym h.0.1) (cell-lt m row h.1) in
      let back : row_of m n c ≡ row = ap (λ (k : ℕ). row_of m k c) h.0.1 ∙ row_of_cell m row h.1 in
      let first : List ℕ = reached g states (record { symbol = i; arity = n }) in
      ap (λ (k : ℕ). get_or (first ++ sets_of (suc i) arities) k 0) (zero-add c)
      ∙ get_or-append first (sets_of (suc i) arities) 0 c (subst (λ (k : ℕ). c < k) (sym (length-table (m ^ n) _)) lt)
      ∙ get_or-table (m ^ n) _ 0 c lt
      ∙ ap₂ (λ (k : ℕ) (r : List ℕ). g k (sets_at states r)) (sym (add-zero i)) back
  given-at i (n ∷ arities) (suc f) row h =
      let m : ℕ = length states in
      let first : List ℕ = reached g states (record { symbol = i; arity = n }) in
      let next : IsAtom m arities f row = ((le_of_suc-le-suc h.0.0, h.0.1), h.1) in
      let past : place m (n ∷ arities) (suc f) row ≡ length first + place m arities f row = omega (arith, length-table (m ^ n) (λ c. g i (sets_at states (row_of m n c)))) in
      ap (λ (k : ℕ). get_or (first ++ sets_of (suc i) arities) k 0) past
      ∙ get_or-append-add first (sets_of (suc i) arities) (place m arities f row) 0
      ∙ given-at (suc i) arities f row next
      ∙ ap (λ (k : ℕ). g k (sets_at states row)) (suc-add i f ∙ sym (add-suc i f))

-- what a caller asks of the given sets: how many they are, and which one stands at a place
module _ (ps : List Production) (types : ℕ) (states arities : List ℕ) where
  pub length-given_sets : length (given_sets ps types states arities) ≡ cells (length states) arities
  unfolding given_sets
  length-given_sets = length-given (step ps types) states 0 arities

  pub given_sets-at : (f : ℕ) (row : List ℕ)
      → IsAtom (length states) arities f row
      → get_or (given_sets ps types states arities) (place (length states) arities f row) 0 ≡ step ps types f (sets_at states row)
  unfolding given_sets
  given_sets-at f row atom =
      given-at (step ps types) states 0 arities f row atom ∙ ap (λ (k : ℕ). step ps types k (sets_at states row)) (zero-add f)

-- a row that fits is as long as the arguments
fits-length : (states row arguments : List ℕ) → T (fits (sets_at states row) arguments) → length row ≡ length arguments
fits-length states [] [] h = refl
fits-length states [] (t ∷ arguments) h = absurd h
fits-length states (d ∷ row) [] h = absurd h
fits-length states (d ∷ row) (t ∷ arguments) h =
    ap suc (fits-length states row arguments (both (has (get_or states d 0) t) (fits (sets_at states row) arguments) h).1)

eq-T : (a b : ℕ) → a ≡ b → T (eqb a b)
eq-T a b e = subst (λ (k : ℕ). T (eqb a k)) e (eqb_refl a)

module _ (states arities : List ℕ) where
  -- a production gives a type at a place
  pub record Gives (p : Production) (j t : ℕ) : Type 0 where
    pub row : List ℕ
    pub range : All (λ d. d < length states) row
    pub fit : T (fits (sets_at states row) p.arguments)
    pub type-is : t ≡ p.target
    pub place_is : j ≡ place (length states) arities p.symbol row

  -- a production keeps what joining the set of its target keeps
  production-keeps : (P : List ℕ → Type 0) (p : Production)
      → ((j : ℕ) (l : List ℕ) → Gives p j p.target → P l → P (joined_at l j (added 0 p.target)))
      → (sets : List ℕ)
      → P sets
      → P (mark_production states arities p sets)
  unfolding mark_production
  production-keeps P p h sets q =
      mark-keeps states (start (length states) arities p.symbol) (added 0 p.target) P p.arguments 0
      (λ row l range fit r.
      h (start (length states) arities p.symbol + cell_from (length states) 0 row) l
      (record { row = row; range = range; fit = fit; type-is = refl; place_is = ap (λ (k : ℕ). start (length states) arities p.symbol + k) (from_zero (length states) row) })
      r)
      sets q

  all_keep : (P : List ℕ → Type 0) (ps : List Production)
      → ((p : Production) → Memᴰ p ps → (j : ℕ) (l : List ℕ) → Gives p j p.target → P l → P (joined_at l j (added 0 p.target)))
      → (sets : List ℕ)
      → P sets
      → P (mark_all states arities ps sets)
  all_keep P [] h sets q = q
  all_keep P (p ∷ ps) h sets q =
      all_keep P ps (λ r at. h r (mem_tail at)) (mark_production states arities p sets) (production-keeps P p (h p (mem_head refl)) sets q)

  length-mark_all : (ps : List Production) (sets : List ℕ) → length (mark_all states arities ps sets) ≡ length sets
  length-mark_all ps sets =
      all_keep (λ l. length l ≡ length sets) ps (λ p at j l gives e. length-joined_at l j (added 0 p.target) ∙ e) sets refl

  -- what is in a set afterwards was there, or a production gives it
  all_has : (ps : List Production) (sets : List ℕ) (j t : ℕ)
      → T (has (get_or (mark_all states arities ps sets) j 0) t)
      → T (has (get_or sets j 0) t) ⊎ ((p : Production) × Memᴰ p ps × Gives p j t)
  all_has ps sets j t =
      all_keep (λ l. T (has (get_or l j 0) t) → T (has (get_or sets j 0) t) ⊎ ((p : Production) × Memᴰ p ps × Gives p j t)) ps
      (λ p at k l gives before h.
      ⊎_elim before
      (λ w. inr (p, at, record { row = gives.row; range = gives.range; fit = gives.fit; type-is = one_has p.target t w.0; place_is = w.1 ∙ gives.place_is }))
      (joined-has l k (added 0 p.target) j t h))
      sets (λ h. inl h)

  -- what a production gives is in the set afterwards
  all_holds : (ps : List Production) (sets : List ℕ) (j t : ℕ) → T (has (get_or sets j 0) t) → T (has (get_or (mark_all states arities ps sets) j 0) t)
  all_holds ps sets j t h = all_keep (λ l. T (has (get_or l j 0) t)) ps (λ p at k l gives q. joined_keeps l k (added 0 p.target) j t q) sets h

  all_give : (p : Production) (ps : List Production) (sets : List ℕ) (j t : ℕ)
      → Memᴰ p ps
      → Gives p j t
      → j < length sets
      → T (has (get_or (mark_all states arities ps sets) j 0) t)
  unfolding mark_production
  all_give p ps sets j t (mem_head {x = q} {xs = qs} e) gives lt =
      all_holds qs (mark_production states arities q sets) j t
      (subst (λ (r : Production). T (has (get_or (mark_production states arities r sets) j 0) t)) e
      (subst₂ (λ (k u : ℕ). T (has (get_or (mark_production states arities p sets) k 0) u)) (sym at) (sym gives.type-is)
      (mark-gives states base (added 0 p.target) p.target (one-own p.target) p.arguments gives.row 0 sets gives.range gives.fit (subst (λ (k : ℕ). k < length sets) at lt))))
    where
      base : ℕ
      base = start (length states) arities p.symbol

      at : j ≡ base + cell_from (length states) 0 gives.row
      at = gives.place_is ∙ ap (λ (k : ℕ). base + k) (sym (from_zero (length states) gives.row))
  all_give p ps sets j t (mem_tail {x = q} {xs = qs} at) gives lt =
      all_give p qs (mark_production states arities q sets) j t at gives (subst (λ (k : ℕ). j < k) (sym (length-mark_production states arities q sets refl)) lt)

  module _ (types : ℕ) (low : types ≤ 16) (ps : List Production) (well : All (WellProduction types arities) ps) where
    -- a row that a production fits is a row of its symbol
    gives-atom : (p : Production) → Memᴰ p ps → (j t : ℕ) (gives : Gives p j t) → IsAtom (length states) arities p.symbol gives.row
    gives-atom p at j t gives =
        let w = All-find (WellProduction types arities) ps well p at in
        ((w.1.0, w.1.1 ∙ sym (fits-length states gives.row p.arguments gives.fit)), gives.range)

    -- what lies behind the segments is kept, and sets stay numbers of 16 bits
    drop-mark_all : (sets : List ℕ) → drop (cells (length states) arities) (mark_all states arities ps sets) ≡ drop (cells (length states) arities) sets
    drop-mark_all sets =
        all_keep (λ l. drop (cells (length states) arities) l ≡ drop (cells (length states) arities) sets) ps
        (λ p at j l gives e.
        drop-joined_at l j (added 0 p.target) (cells (length states) arities)
        (subst (λ (k : ℕ). k < cells (length states) arities) (sym gives.place_is)
        (place-lt (length states) arities p.symbol gives.row (gives-atom p at j p.target gives)))
        ∙ e)
        sets refl

    all_fit : (sets : List ℕ) (j : ℕ) → get_or sets j 0 < 2 ^ 16 → get_or (mark_all states arities ps sets) j 0 < 2 ^ 16
    all_fit sets j h =
        all_keep (λ l. get_or l j 0 < 2 ^ 16) ps
        (λ p at k l gives lt. joined-fits l k (added 0 p.target) j (added-lt 0 p.target (pow_pos 16) (lt_of_lt_of_le (All-find (WellProduction types arities) ps well p at).0 low)) lt)
        sets h

    module _ (sets : List ℕ) (room : cells (length states) arities ≤ length sets) where
      -- the buffer in the end
      abbrev end : List ℕ
      end = mark_all states arities ps (cleared sets (cells (length states) arities))

      cleared_at : (j : ℕ) → j < cells (length states) arities → get_or (cleared sets (cells (length states) arities)) j 0 ≡ 0
      unfolding cleared
      cleared_at j lt =
          let n : ℕ = cells (length states) arities in
          get_or-append (replicate n 0) (drop n sets) 0 j (subst (λ (k : ℕ). j < k) (sym (length-replicate {A = ℕ} n 0)) lt)
          ∙ get_or-replicate n j 0 0 lt

      -- the set of a row holds what the symbol gives over it
      module _ (f : ℕ) (row : List ℕ) (atom : IsAtom (length states) arities f row) where
        at : ℕ
        at = place (length states) arities f row

        at_lt : at < cells (length states) arities
        unfolding at
        at_lt = place-lt (length states) arities f row atom

        adds : ℕ → Production → Bool
        adds t p = eqb p.target t && eqb p.symbol f && fits (sets_at states row) p.arguments

        has-step : (t : ℕ) → has (step ps types f (sets_at states row)) t ≡ (ltb t types && any_of (adds t) ps)
        unfolding step adds
        has-step t = has-set_of types (λ q. any_of (adds q) ps) t

        end_step : (t : ℕ) → T (has (get_or end at 0) t) → T (has (step ps types f (sets_at states row)) t)
        unfolding at adds
        end_step t h =
            ⊎_elim
            (λ old. absurd (subst T (ap (λ (s : ℕ). has s t) (cleared_at at at_lt) ∙ has_nothing t) old))
            (λ w.
            let gives = w.2 in
            let p = w.0 in
            let same = place_inj (length states) arities p.symbol f gives.row row (gives-atom p w.1 at t gives) atom (sym gives.place_is) in
            let lt : t < types = subst (λ (k : ℕ). k < types) (sym gives.type-is) (All-find (WellProduction types arities) ps well p w.1).0 in
            let fit : T (fits (sets_at states row) p.arguments) = subst (λ (r : List ℕ). T (fits (sets_at states r) p.arguments)) same.1 gives.fit in
            let names : T (eqb p.target t && eqb p.symbol f) =
            both_of (eqb p.target t) (eqb p.symbol f) (eq-T p.target t (sym gives.type-is)) (eq-T p.symbol f same.0) in
            subst T (sym (has-step t))
            (both_of (ltb t types) (any_of (adds t) ps) (lt→ltb t types lt)
            (any_give (adds t) ps p w.1 (both_of (eqb p.target t && eqb p.symbol f) (fits (sets_at states row) p.arguments) names fit))))
            (all_has ps (cleared sets (cells (length states) arities)) at t h)

        step_end : (t : ℕ) → T (has (step ps types f (sets_at states row)) t) → T (has (get_or end at 0) t)
        unfolding at adds
        step_end t h =
            let found = any_find (adds t) ps (both (ltb t types) (any_of (adds t) ps) (subst T (has-step t) h)).1 in
            let p = found.0 in
            let w = both (eqb p.target t && eqb p.symbol f) (fits (sets_at states row) p.arguments) found.2 in
            let names = both (eqb p.target t) (eqb p.symbol f) w.0 in
            let gives : Gives p at t =
            record {
              row = row;
              range = atom.1;
              fit = w.1;
              type-is = sym (eqb→eq p.target t names.0);
              place_is = ap (λ (k : ℕ). place (length states) arities k row) (sym (eqb→eq p.symbol f names.1));
            } in
            all_give p ps (cleared sets (cells (length states) arities)) at t found.1 gives
            (subst (λ (k : ℕ). at < k) (sym (length-cleared sets (cells (length states) arities) room)) (lt_of_lt_of_le at_lt room))

        end-at : get_or end at 0 ≡ step ps types f (sets_at states row)
        unfolding step
        end-at =
            set_ext 16 (get_or end at 0) (step ps types f (sets_at states row))
            (all_fit (cleared sets (cells (length states) arities)) at (subst (λ (s : ℕ). s < 2 ^ 16) (sym (cleared_at at at_lt)) (pow_pos 16)))
            (lt_of_lt_of_le (set_of-lt types _) (pow_mono low))
            (λ t lt. bool_ext (has (get_or end at 0) t) (has (step ps types f (sets_at states row)) t) (end_step t) (step_end t))

      pub end-given : end ≡ given_sets ps types states arities ++ drop (cells (length states) arities) sets
      unfolding cleared at
      end-given =
          sym (take-append-drop n end)
          ∙ ap₂ ◌++◌
          (ext_get_or 0 (take n end) given (length-take-le n end long ∙ sym (length-given_sets ps types states arities))
          (λ j lt. let k : j < n = subst (λ (i : ℕ). j < i) (length-take-le n end long) lt in get_or-take n end j 0 k ∙ one j k))
          (drop-mark_all (cleared sets n) ∙ drop_at (replicate n 0) (drop n sets) n (length-replicate {A = ℕ} n 0))
        where
          n : ℕ
          n = cells (length states) arities

          given : List ℕ
          given = given_sets ps types states arities

          long : n ≤ length end
          long = omega (arith, length-mark_all ps (cleared sets n), length-cleared sets n room)

          one : (j : ℕ) → j < n → get_or end j 0 ≡ get_or given j 0
          one j lt =
              let w = place_onto (length states) arities j lt in
              ap (λ (k : ℕ). get_or end k 0) (sym w.3)
              ∙ end-at w.0 w.1 w.2
              ∙ sym (given_sets-at ps types states arities w.0 w.1 w.2)
              ∙ ap (λ (k : ℕ). get_or given k 0) w.3

-- filling: the first n sets are emptied, then all productions are marked
module _
    (states arities sets : List ℕ)
    (fill : Fillable states arities sets)
    {n : ℕ} (all : n ≡ cells (length states) arities)
    {zeros : List ℕ} (emptied : ((y : ℕ) → y ≡ 0 → y ≡ 0) → zeros ≡ replicate (length (take n sets)) 0)
  where
    begun_is : zeros ++ drop n sets ≡ cleared sets (cells (length states) arities)
    unfolding cleared
    begun_is =
        ap (λ (l : List ℕ). l ++ drop n sets)
        (emptied (λ y e. e) ∙ ap (λ (k : ℕ). replicate k 0) (length-take-le n sets (omega (arith, all, fill.room))))
        ∙ ap (cleared sets) all

    length_begun : length (zeros ++ drop n sets) ≡ length sets
    length_begun = ap (λ (l : List ℕ). length l) begun_is ∙ length-cleared sets (cells (length states) arities) fill.room

    -- a buffer as long as that one serves as well
    pub still_fillable : {l : List ℕ} → length l ≡ length (zeros ++ drop n sets) → Fillable states arities l
    still_fillable same = fillable_same fill (same ∙ length_begun)

    pub filled : (file : List ℕ) (types from count left at : ℕ) {l : List ℕ}
        → types ≤ 16
        → AreProductions types arities count (contents_from count (drop from file))
        → left ≤ 0
        → mark_from states arities file left at l ≡ mark_from states arities file count from (zeros ++ drop n sets)
        → l ≡ given_sets (map production_of (contents_from count (drop from file))) types states arities ++ drop (cells (length states) arities) sets
    unfolding mark_from
    filled file types from count left at {l} low are none_left e =
        sym (from_none states arities file left at l none_left)
        ∙ e
        ∙ ap (mark_all states arities (map production_of (contents_from count (drop from file)))) begun_is
        ∙ end-given states arities types low (map production_of (contents_from count (drop from file))) are.well sets fill.room
