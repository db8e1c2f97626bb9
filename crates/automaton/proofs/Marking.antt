-- Sets in a buffer: the first ones emptied, and the steps in which a production marks its rows. Assumes nothing.
use Rattle.meaning.proofs.Prelude.{ℕ, ◌+◌, ◌≤◌, ◌<◌, zero, suc, ◌^◌, ◌*◌, ◌≡◌, refl, sym, ap, ◌∙◌, subst, ⊎_elim, ◌⊎◌, inl, inr, cond, Bool, true}
use Rattle.meaning.proofs.Prelude.{false, List, [], ◌∷◌, ◌++◌, T, length, length-append, get_or, drop, replicate, length-replicate, set, length-set}
use Rattle.meaning.proofs.Prelude.{length-drop, drop-cons, get_or-set_same, get_or-set_other, set_out, drop-set-lt, not-suc-le-zero}
use Rattle.meaning.proofs.Prelude.{le_of_suc-le-suc, lt-suc_self, le_step, eq-or-lt_of_le, pow-succ', mul_assoc}
use Rattle.meaning.proofs.Prelude.{mul-le-mul_right, le-mul_of_pos_right, one-le-pow, add-mul, one-mul, add-one, dec_lt, ℕ_discrete, arith}
use Rattle.meaning.proofs.Prelude.{take, ◌-◌}
use Rattle.meaning.proofs.Loops.{part-rest}
use lib.Bits.{bit_or, or_lt}
use Rattle.meaning.proofs.Definitions.{All, has, fits, sets_at}
use Rattle.meaning.proofs.Bits.{has_either}
use Rattle.meaning.proofs.Lists.{T_true, both, both_of, either, left_of, right_of}
use Rattle.cells.proofs.Rows.{cell_from, from_nil, from_cons}
use Rattle.automaton.specs.Marking.{joined_at, in_turn, mark_rows, Markable}

-- the first n sets emptied
unfoldable pub cleared : List ℕ → ℕ → List ℕ
cleared sets n = replicate n 0 ++ drop n sets

pub length-cleared : (sets : List ℕ) (n : ℕ) → n ≤ length sets → length (cleared sets n) ≡ length sets
unfolding cleared
length-cleared sets n h =
    omega (arith, length-append (replicate n 0) (drop n sets), length-replicate {A = ℕ} n 0, length-drop n sets)

-- after joining, a set is as it was, or it is at the place and has the other's types too
pub joined_cases : (P : ℕ → Type 0) (sets : List ℕ) (place more j : ℕ)
    → P (get_or sets j 0)
    → (j ≡ place → P (bit_or (get_or sets j 0) more))
    → P (get_or (joined_at sets place more) j 0)
unfolding joined_at
joined_cases P sets place more j same with-more = go (ℕ_discrete j place) (dec_lt place (length sets))
  where
    go : Dec (j ≡ place) → Dec (place < length sets) → P (get_or (joined_at sets place more) j 0)
    go (no ne) in? = subst P (sym (get_or-set_other sets place j (bit_or (get_or sets place 0) more) 0 ne)) same
    go (yes e) (yes lt) =
        subst (λ (k : ℕ). P (get_or (joined_at sets place more) k 0)) (sym e)
        (subst P (sym (get_or-set_same sets place (bit_or (get_or sets place 0) more) 0 lt)) (subst (λ (k : ℕ). P (bit_or (get_or sets k 0) more)) e (with-more e)))
    go (yes e) (no ge) = subst (λ (l : List ℕ). P (get_or l j 0)) (sym (set_out sets place (bit_or (get_or sets place 0) more) (omega arith))) same

-- so the set at another place stays as it is, and no type comes but those of the other set
pub joined-has : (sets : List ℕ) (place more j t : ℕ)
    → T (has (get_or (joined_at sets place more) j 0) t)
    → T (has (get_or sets j 0) t) ⊎ (T (has more t) × (j ≡ place))
joined-has sets place more j t =
    joined_cases (λ s. T (has s t) → T (has (get_or sets j 0) t) ⊎ (T (has more t) × (j ≡ place))) sets place more j (λ h. inl h)
    (λ e h.
    ⊎_elim
    (λ k. inl k)
    (λ k. inr (k, e))
    (either (has (get_or sets j 0) t) (has more t) (subst T (has_either (get_or sets j 0) more t) h)))

pub joined_keeps : (sets : List ℕ) (place more j t : ℕ) → T (has (get_or sets j 0) t) → T (has (get_or (joined_at sets place more) j 0) t)
joined_keeps sets place more j t h =
    joined_cases (λ s. T (has s t)) sets place more j h
    (λ e. subst T (sym (has_either (get_or sets j 0) more t)) (left_of (has (get_or sets j 0) t) (has more t) h))

pub joined-gives : (sets : List ℕ) (place more t : ℕ) → T (has more t) → place < length sets → T (has (get_or (joined_at sets place more) place 0) t)
unfolding joined_at
joined-gives sets place more t h lt =
    subst (λ (s : ℕ). T (has s t)) (sym (get_or-set_same sets place (bit_or (get_or sets place 0) more) 0 lt))
    (subst T (sym (has_either (get_or sets place 0) more t)) (right_of (has (get_or sets place 0) t) (has more t) h))

-- and it stays a number of 16 bits
pub joined-fits : (sets : List ℕ) (place more j : ℕ) → more < 2 ^ 16 → get_or sets j 0 < 2 ^ 16 → get_or (joined_at sets place more) j 0 < 2 ^ 16
joined-fits sets place more j low h = joined_cases (λ s. s < 2 ^ 16) sets place more j h (λ e. or_lt 16 (get_or sets j 0) more h low)

-- joining keeps the length, and what lies behind
pub length-joined_at : (sets : List ℕ) (place more : ℕ) → length (joined_at sets place more) ≡ length sets
unfolding joined_at
length-joined_at sets place more = simp length-set

pub drop-joined_at : (sets : List ℕ) (place more n : ℕ) → place < n → drop n (joined_at sets place more) ≡ drop n sets
unfolding joined_at
drop-joined_at sets place more n lt = drop-set-lt n sets place (bit_or (get_or sets place 0) more) lt

-- what each step keeps is kept by all of them
in_turn_keeps : (P : List ℕ → Type 0) (n : ℕ) (f : ℕ → List ℕ → List ℕ)
    → ((d : ℕ) → d < n → (l : List ℕ) → P l → P (f d l))
    → (sets : List ℕ)
    → P sets
    → P (in_turn n f sets)
in_turn_keeps P zero f h sets p = p
in_turn_keeps P (suc n) f h sets p = h n (lt-suc_self n) (in_turn n f sets) (in_turn_keeps P n f (λ d lt. h d (le_step lt)) sets p)

-- and what one step gives from what all keep is there in the end, if they keep it
in_turn_gives : (P Q : List ℕ → Type 0) (n : ℕ) (f : ℕ → List ℕ → List ℕ)
    → ((d : ℕ) → d < n → (l : List ℕ) → P l → P (f d l))
    → ((d : ℕ) → d < n → (l : List ℕ) → Q l → Q (f d l))
    → (d : ℕ)
    → d < n
    → ((l : List ℕ) → P l → Q (f d l))
    → (sets : List ℕ)
    → P sets
    → Q (in_turn n f sets)
in_turn_gives P Q zero f keep kept d lt give sets p = absurd (not-suc-le-zero lt)
in_turn_gives P Q (suc n) f keep kept d lt give sets p =
    ⊎_elim
    (λ (e : d ≡ n). subst (λ (k : ℕ). Q (f k (in_turn n f sets))) e (give (in_turn n f sets) before))
    (λ k. kept n (lt-suc_self n) (in_turn n f sets) (in_turn_gives P Q n f (λ i h. keep i (le_step h)) (λ i h. kept i (le_step h)) d k give sets p))
    (eq-or-lt_of_le (le_of_suc-le-suc lt))
  where
    before : P (in_turn n f sets)
    before = in_turn_keeps P n f (λ i h. keep i (le_step h)) sets p

by_test : (P : List ℕ → Type 0) (b : Bool) (l l' : List ℕ) → P l → (T b → P l') → P (cond b l' l)
by_test P true l l' p h = h tt
by_test P false l l' p h = p

module _ (states : List ℕ) (base more : ℕ) where
  -- no argument is left
  pub mark-end : (arguments : List ℕ) (cell : ℕ) (sets : List ℕ) {s : ℕ}
      → length arguments < 1
      → s ≡ bit_or (get_or sets (base + cell) 0) more
      → set sets (base + cell) s ≡ mark_rows states base more arguments cell sets
  unfolding mark_rows joined_at
  mark-end [] cell sets h e = ap (set sets (base + cell)) e
  mark-end (t ∷ arguments) cell sets h e = absurd (omega arith)

  -- the sets after the rows whose next state is below d
  unfoldable pub mark_to : ℕ → List ℕ → ℕ → List ℕ → ℕ → List ℕ
  mark_to t arguments cell sets d =
      in_turn d (λ d l. cond (has (get_or states d 0) t) (mark_rows states base more arguments (cell * length states + d) l) l) sets

  module _ (t : ℕ) (arguments : List ℕ) (cell : ℕ) (sets : List ℕ) where
    pub to-zero : sets ≡ mark_to t arguments cell sets 0
    unfolding mark_to
    to-zero = refl

    to-next : (d : ℕ) (b : Bool)
        → has (get_or states d 0) t ≡ b
        → cond b (mark_rows states base more arguments (cell * length states + d) (mark_to t arguments cell sets d)) (mark_to t arguments cell sets d) ≡ mark_to t arguments cell sets (d + 1)
    unfolding mark_to
    to-next d b e = rw (add-one d) (ap (λ (c : Bool). cond c (mark_rows states base more arguments (cell * length states + d) (mark_to t arguments cell sets d)) (mark_to t arguments cell sets d)) (sym e))

    pub to-more : (d : ℕ) {l : List ℕ} {b : Bool}
        → b ≡ has (get_or states d 0) t
        → b ≡ true
        → l ≡ mark_to t arguments cell sets d
        → mark_rows states base more arguments (cell * length states + d) l ≡ mark_to t arguments cell sets (d + 1)
    to-more d {l} e h k = ap (mark_rows states base more arguments (cell * length states + d)) k ∙ to-next d true (sym e ∙ h)

    pub to_same : (d : ℕ) {l : List ℕ} {b : Bool}
        → b ≡ has (get_or states d 0) t
        → b ≡ false
        → l ≡ mark_to t arguments cell sets d
        → l ≡ mark_to t arguments cell sets (d + 1)
    to_same d e h k = k ∙ to-next d false (sym e ∙ h)

  pub to_all : (arguments : List ℕ) (cell : ℕ) (sets : List ℕ) (d : ℕ)
      → 1 ≤ length arguments
      → d ≡ length states
      → mark_to (get_or arguments 0 0) (drop 1 arguments) cell sets d ≡ mark_rows states base more arguments cell sets
  unfolding mark_to mark_rows
  to_all [] cell sets d h e = absurd (omega arith)
  to_all (t ∷ arguments) cell sets d h e = rw e

  -- what joining at the place of a row that fits keeps, marking keeps
  pub mark-keeps : (P : List ℕ → Type 0) (arguments : List ℕ) (cell : ℕ)
      → ((row l : List ℕ) → All (λ d. d < length states) row → T (fits (sets_at states row) arguments) → P l → P (joined_at l (base + cell_from (length states) cell row) more))
      → (sets : List ℕ)
      → P sets
      → P (mark_rows states base more arguments cell sets)
  unfolding mark_rows
  mark-keeps P [] cell h sets p = subst (λ (k : ℕ). P (joined_at sets (base + k) more)) (from_nil (length states) cell) (h [] sets tt tt p)
  mark-keeps P (t ∷ arguments) cell h sets p =
      in_turn_keeps P (length states) _
      (λ d lt l q.
      by_test P (has (get_or states d 0) t) l _ q
      (λ holds.
      mark-keeps P arguments (cell * length states + d)
      (λ row k range fit r.
      subst (λ (n : ℕ). P (joined_at k (base + n) more)) (from_cons (length states) cell d row)
      (h (d ∷ row) k (lt, range) (both_of (has (get_or states d 0) t) (fits (sets_at states row) arguments) holds fit) r))
      l q))
      sets p

  -- marking keeps the length, and what is there
  pub length-mark_rows : (arguments : List ℕ) (cell : ℕ) (sets : List ℕ) → length (mark_rows states base more arguments cell sets) ≡ length sets
  length-mark_rows arguments cell sets =
      mark-keeps (λ l. length l ≡ length sets) arguments cell (λ row l range fit e. length-joined_at l _ more ∙ e) sets refl

  pub length-mark_to : (t : ℕ) (arguments : List ℕ) (cell : ℕ) (sets : List ℕ) (d : ℕ) → length (mark_to t arguments cell sets d) ≡ length sets
  unfolding mark_to
  length-mark_to t arguments cell sets d =
      in_turn_keeps (λ l. length l ≡ length sets) d _
      (λ i lt l e. by_test (λ k. length k ≡ length sets) (has (get_or states i 0) t) l _ e (λ h. length-mark_rows arguments _ l ∙ e)) sets refl

  pub mark-holds : (arguments : List ℕ) (cell : ℕ) (sets : List ℕ) (j t : ℕ) → T (has (get_or sets j 0) t) → T (has (get_or (mark_rows states base more arguments cell sets) j 0) t)
  mark-holds arguments cell sets j t h =
      mark-keeps (λ l. T (has (get_or l j 0) t)) arguments cell (λ row l range fit k. joined_keeps l _ more j t k) sets h

  -- each type of the set is in the set at the place of each row that fits
  pub mark-gives : (type : ℕ)
      → T (has more type)
      → (arguments row : List ℕ) (cell : ℕ) (sets : List ℕ)
      → All (λ d. d < length states) row
      → T (fits (sets_at states row) arguments)
      → base + cell_from (length states) cell row < length sets
      → T (has (get_or (mark_rows states base more arguments cell sets) (base + cell_from (length states) cell row) 0) type)
  unfolding mark_rows
  mark-gives type holds [] [] cell sets range fit lt =
      subst (λ (n : ℕ). T (has (get_or (joined_at sets (base + cell) more) (base + n) 0) type)) (sym (from_nil (length states) cell))
      (joined-gives sets (base + cell) more type holds (subst (λ (n : ℕ). base + n < length sets) (from_nil (length states) cell) lt))
  mark-gives type holds [] (d ∷ row) cell sets range fit lt = absurd fit
  mark-gives type holds (t ∷ arguments) [] cell sets range fit lt = absurd fit
  mark-gives type holds (t ∷ arguments) (d ∷ row) cell sets range fit lt =
      in_turn_gives (λ l. length l ≡ length sets) (λ l. T (has (get_or l at 0) type)) (length states) _
      (λ i h l e. by_test (λ k. length k ≡ length sets) (has (get_or states i 0) t) l _ e (λ b. length-mark_rows arguments _ l ∙ e))
      (λ i h l k. by_test (λ k. T (has (get_or k at 0) type)) (has (get_or states i 0) t) l _ k (λ b. mark-holds arguments _ l at type k))
      d range.0
      (λ l e.
      let w = both (has (get_or states d 0) t) (fits (sets_at states row) arguments) fit in
      subst (λ (b : Bool). T (has (get_or (cond b (mark_rows states base more arguments (cell * length states + d) l) l) at 0) type)) (sym (T_true (has (get_or states d 0) t) w.0))
      (subst (λ (n : ℕ). T (has (get_or (mark_rows states base more arguments (cell * length states + d) l) (base + n) 0) type)) (sym next)
      (mark-gives type holds arguments row (cell * length states + d) l range.1 w.1 (omega (arith, e, ap (λ (n : ℕ). base + n) next)))))
      sets refl
    where
      at : ℕ
      at = base + cell_from (length states) cell (d ∷ row)

      next : cell_from (length states) cell (d ∷ row) ≡ cell_from (length states) (cell * length states + d) row
      next = from_cons (length states) cell d row

module _ (states : List ℕ) (base : ℕ) where
  -- the cell of a row to be begun lies in the buffer
  cell-inside : (arguments : List ℕ) (cell : ℕ) (sets : List ℕ)
      → Markable states base arguments cell sets
      → 0 < length states ^ length arguments
      → base + cell < length sets
  cell-inside arguments cell sets h pos = omega (arith, h.room, le-mul_of_pos_right (cell + 1) pos)

  -- one state more
  one_more_lem : (t : ℕ) (arguments : List ℕ) (cell d : ℕ) (sets l : List ℕ)
      → Markable states base (t ∷ arguments) cell sets
      → d < length states
      → length l ≡ length sets
      → Markable states base arguments (cell * length states + d) l
  one_more_lem t arguments cell d sets l h lt e =
      let m : ℕ = length states in
      let k : ℕ = length arguments in
      let row : (cell * m + d + 1) * m ^ k ≤ (cell * m + m) * m ^ k = mul-le-mul_right (m ^ k) (omega arith) in
      let all : (cell * m + m) * m ^ k ≡ (cell + 1) * m ^ suc k =
      ap (λ (n : ℕ). n * m ^ k) (ap (λ (n : ℕ). cell * m + n) (sym (one-mul m)) ∙ sym (add-mul cell 1 m))
      ∙ mul_assoc (cell + 1) m (m ^ k)
      ∙ ap (λ (n : ℕ). (cell + 1) * n) (sym (pow-succ' m k)) in
      record { asked = h.asked.1; room = omega (arith, h.room, row, all, e) }

-- with an argument left
module _ {states : List ℕ} {base cell : ℕ} {sets : List ℕ} (arguments : List ℕ) (h : Markable states base arguments cell sets) where
  module _ (some : 1 ≤ length arguments) where
    here : Markable states base (get_or arguments 0 0 ∷ drop 1 arguments) cell sets
    here = subst (λ (l : List ℕ). Markable states base l cell sets) (drop-cons arguments 0 0 some) h

    pub deeper : (d : ℕ) (l : List ℕ)
        → d < length states
        → length l ≡ length sets
        → Markable states base (take (length arguments - 1) (drop 1 arguments)) (cell * length states + d) l
    deeper d l lt e = rw (part-rest 1 arguments) (one_more_lem states base (get_or arguments 0 0) (drop 1 arguments) cell d sets l here lt e)

    pub next-inside : (d : ℕ) → d < length states → base + (cell * length states + d) < length sets
    next-inside d lt =
        cell-inside states base (take (length arguments - 1) (drop 1 arguments)) _ sets (deeper d sets lt refl)
        (one-le-pow (length (take (length arguments - 1) (drop 1 arguments))) (length states) (omega arith))
