-- What one production adds to the sets in a buffer of segments, and then all productions in order: the set of its target, joined into the cell of each row that fits.
use Rattle.std.specs.Prelude.{ℕ, zero, suc, ◌+◌, ◌*◌, ◌^◌, ◌≤◌, ◌<◌, ◌≡◌, cond, List, [], ◌∷◌, map, length, get_or, set}
use Rattle.std.specs.Int.Bits.{bit_or}
use Rattle.meaning.specs.Lists.{All}
use Rattle.meaning.specs.Syntax.{Production}
use Rattle.meaning.specs.Types.{has}
use Rattle.meaning.specs.Cells.{start, cells}
use Rattle.meaning.specs.Legal.{WellProduction}
use Rattle.meaning.specs.Files.{production_of}
use Rattle.automaton.specs.Sets.{added}

-- a set of types joined to the set at a place
unfoldable pub joined_at : List ℕ → ℕ → ℕ → List ℕ
joined_at sets place more = set sets place (bit_or (get_or sets place 0) more)

-- a step for each number below n, in order
abbrev pub in_turn : ℕ → (ℕ → List ℕ → List ℕ) → List ℕ → List ℕ
in_turn zero f sets = sets
in_turn (suc n) f sets = f n (in_turn n f sets)

module _ (states : List ℕ) (base more : ℕ) where
  -- over all rows for these arguments: the state at each place holds the type that is asked for there. `cell` is the cell of the states
  -- before these, `base` where the segment starts
  unfoldable pub mark_rows : List ℕ → ℕ → List ℕ → List ℕ
  mark_rows [] cell sets = joined_at sets (base + cell) more
  mark_rows (t ∷ arguments) cell sets =
      in_turn (length states) (λ d l. cond (has (get_or states d 0) t) (mark_rows arguments (cell * length states + d) l) l) sets

-- what marking asks: types below 16, and a buffer with the cells of all rows
pub record Markable (states : List ℕ) (base : ℕ) (arguments : List ℕ) (cell : ℕ) (sets : List ℕ) : Type 0 where
  pub asked : All (λ t. t < 16) arguments
  pub room : base + (cell + 1) * length states ^ length arguments ≤ length sets

module _ (states arities : List ℕ) where
  unfoldable pub mark_production : Production → List ℕ → List ℕ
  mark_production p sets = mark_rows states (start (length states) arities p.symbol) (added 0 p.target) p.arguments 0 sets

  abbrev pub mark_all : List Production → List ℕ → List ℕ
  mark_all [] sets = sets
  mark_all (p ∷ ps) sets = mark_all ps (mark_production p sets)

-- contents of well formed productions, as many as there should be
pub record AreProductions (types : ℕ) (arities : List ℕ) (count : ℕ) (contents : List (List ℕ)) : Type 0 where
  pub number : length contents ≡ count
  pub long : All (λ (content : List ℕ). 2 ≤ length content) contents
  pub well : All (WellProduction types arities) (map production_of contents)

-- what filling asks of the states, the arities and the buffer
pub record Fillable (states arities sets : List ℕ) : Type 0 where
  pub few : length states ≤ 16
  pub symbols : length arities ≤ 32
  pub small : All (λ n. n ≤ 4) arities
  pub room : cells (length states) arities ≤ length sets
