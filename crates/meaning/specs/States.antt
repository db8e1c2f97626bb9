-- States and tables (01), by the book's determinisation: begin with nothing; for each symbol f and all states s1, .., sn already found
-- add the set of f over them, the set with no type included, until nothing is new.
use Rattle.std.specs.Prelude.{ℕ, zero, suc, ◌+◌, ◌^◌, ◌<◌, true, false, cond, List, [], ◌∷◌, ◌++◌, map, eqb, ltb, length, get_or}
use Rattle.meaning.specs.Lists.{same, joined, table}
use Rattle.meaning.specs.Limits.{most_states}
use Rattle.meaning.specs.Syntax.{Tree, Production}
use Rattle.meaning.specs.Types.{Sym, IsGround, SameTypes}
use Rattle.meaning.specs.Cells.{cell, row_of, start}

-- a number put into a rising list, once
abbrev pub insert_rising : ℕ → List ℕ → List ℕ
insert_rising s [] = s ∷ []
insert_rising s (x ∷ xs) = cond (ltb s x) (s ∷ x ∷ xs) (cond (eqb s x) (x ∷ xs) (x ∷ insert_rising s xs))

abbrev pub insert_all : List ℕ → List ℕ → List ℕ
insert_all [] found = found
insert_all (s ∷ ss) found = insert_rising s (insert_all ss found)

-- the sets with these numbers
abbrev pub sets_at : List ℕ → List ℕ → List ℕ
sets_at states row = map (λ d. get_or states d 0) row

-- the number of a set
abbrev pub index_of : ℕ → List ℕ → ℕ
index_of s [] = 0
index_of s (x ∷ states) = cond (eqb s x) 0 (suc (index_of s states))

-- `step` is what a symbol gives over a row of sets
module _ (step : ℕ → List ℕ → ℕ) where
  -- the sets that a symbol gives over all rows of the sets found
  abbrev pub reached : List ℕ → Sym → List ℕ
  reached found s =
      table (length found ^ s.arity) (λ c. step s.symbol (sets_at found (row_of (length found) s.arity c)))

  abbrev pub grow : List Sym → List ℕ → List ℕ
  grow symbols found = insert_all (joined (map (reached found) symbols)) found

  -- at most k times, until nothing is new
  abbrev pub saturate : ℕ → List Sym → List ℕ → List ℕ
  saturate zero symbols found = found
  saturate (suc k) symbols found =
      elim (same (grow symbols found) found) [ true ↦ found | false ↦ saturate k symbols (grow symbols found) ]

  -- the states, rising: each turn but the last adds one, so that they are all of them, or more than 16
  unfoldable pub determinise : List Sym → List ℕ
  determinise symbols = saturate (suc most_states) symbols []

  -- the cell of a symbol over a row of states
  unfoldable pub cell_of : List ℕ → ℕ → List ℕ → ℕ
  cell_of states f row = index_of (step f (sets_at states row)) states

  -- the tables, symbol after symbol
  abbrev pub tables_from : List ℕ → ℕ → List ℕ → List ℕ
  tables_from states f [] = []
  tables_from states f (n ∷ arities) =
      table (length states ^ n) (λ c. cell_of states f (row_of (length states) n c)) ++ tables_from states (suc f) arities

  unfoldable pub tables : List ℕ → List ℕ → List ℕ
  tables states arities = tables_from states 0 arities

-- a symbol over a row of states, looked up in the tables
abbrev pub look_up : ℕ → List ℕ → List ℕ → ℕ → List ℕ → ℕ
look_up m arities tables f row = get_or tables (start m arities f + cell m row) 0

-- 8: more than 16 states exist: there are 17 ground terms, no two of which have the same set of types
pub record MoreStates (arities : List ℕ) (productions : List Production) : Type 0 where
  pub term : ℕ → Tree
  pub ground : (i : ℕ) → i < suc most_states → IsGround arities (term i)
  pub differ : (i j : ℕ) → i < j → j < suc most_states → ¬ SameTypes productions (term i) (term j)
