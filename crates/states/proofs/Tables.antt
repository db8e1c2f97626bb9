-- The tables: the sets that symbols give over all rows of the states, how many they are, and their numbers among the states. Assumes nothing.
use Rattle.meaning.proofs.Prelude.{ℕ, ◌+◌, ◌≤◌, ◌<◌, zero, suc, ◌^◌, ◌*◌, ◌≡◌, refl, ap, ◌∙◌, ap₂, List, [], ◌∷◌, map, ◌++◌, map-append, length}
use Rattle.meaning.proofs.Prelude.{length-append, length-map, get_or, take, drop, set, length-take-le, drop-cons, take-suc, append_snoc, set_at}
use Rattle.meaning.proofs.Prelude.{le_trans, zero-lt-suc, pow-le-pow_left, pow-le-pow_right, add-one, arith}
use Rattle.meaning.proofs.Definitions.{All, joined, table, cells, row_of, numbered, index_of, sets_at, reached, cell_of, tables_from, tables}
use Rattle.meaning.proofs.Lists.{length-table}
use Rattle.meaning.proofs.Types.{symbol_of}
use Rattle.states.specs.Packed.{indices}

-- a function over a table
map-table : (f : ℕ → ℕ) (n : ℕ) (g : ℕ → ℕ) → map f (table n g) ≡ table n (λ i. f (g i))
map-table f zero g = refl
map-table f (suc n) g = ap (λ (l : List ℕ). f (g 0) ∷ l) (map-table f n (λ i. g (suc i)))

-- the sets that symbols give over all rows of some sets: how many, and their numbers
module _ (st : ℕ → List ℕ → ℕ) (states : List ℕ) where
  pub length-reached : (i : ℕ) (arities : List ℕ) → length (joined (map (reached st states) (numbered i arities))) ≡ cells (length states) arities
  length-reached i [] = refl
  length-reached i (n ∷ arities) =
      length-append (reached st states (symbol_of i n)) (joined (map (reached st states) (numbered (suc i) arities)))
      ∙ ap₂ ◌+◌ (length-table (length states ^ n) (λ c. st i (sets_at states (row_of (length states) n c)))) (length-reached (suc i) arities)

  indices-reached :
      (i : ℕ) (arities : List ℕ)
      → indices states (joined (map (reached st states) (numbered i arities))) ≡ tables_from st states i arities
  unfolding indices cell_of
  indices-reached i [] = refl
  indices-reached i (n ∷ arities) =
      map-append (λ s. index_of s states) (reached st states (symbol_of i n)) (joined (map (reached st states) (numbered (suc i) arities)))
      ∙ ap₂ ◌++◌ (map-table (λ s. index_of s states) (length states ^ n) (λ c. st i (sets_at states (row_of (length states) n c)))) (indices-reached (suc i) arities)

  pub indices-tables : (arities : List ℕ) → indices states (joined (map (reached st states) (numbered 0 arities))) ≡ tables st states arities
  unfolding tables
  indices-tables arities = indices-reached 0 arities

-- one more number written
pub indices-none : (states sets before : List ℕ) → before ≡ indices states (take 0 sets) ++ drop 0 before
unfolding indices
indices-none states sets before = refl

pub indices-next :
    (states sets before : List ℕ) (i : ℕ)
    → i < length sets
    → i < length before
    → set (indices states (take i sets) ++ drop i before) i (index_of (get_or sets i 0) states) ≡ indices states (take (i + 1) sets) ++ drop (i + 1) before
unfolding indices
indices-next states sets before i h k =
    let size : length (map (λ s. index_of s states) (take i sets)) ≡ i = length-map (take i sets) (λ s. index_of s states) ∙ length-take-le i sets (omega arith) in
    rw
    (drop-cons before i 0 k, set_at (map (λ s. index_of s states) (take i sets)) (get_or before i 0) (drop (suc i) before) (index_of (get_or sets i 0) states) i size, add-one i, take-suc sets i 0 h, map-append, append_snoc)

-- at most 24 symbols of arity at most 2 over at most 16 states
pub cells-most : (m : ℕ) (arities : List ℕ) → m ≤ 16 → All (λ n. n ≤ 2) arities → cells m arities ≤ 256 * length arities
cells-most m [] h a = omega arith
cells-most m (n ∷ arities) h a =
    let power : m ^ n ≤ 256 = le_trans (pow-le-pow_left h n) (pow-le-pow_right {n = 16} (zero-lt-suc 15) {i = n} {j = 2} a.0) in
    omega (arith, cells-most m arities h a.1)
