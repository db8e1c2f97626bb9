-- What determinising asks of the symbols and the types of a file, and the productions that stand in it.
use Rattle.std.specs.Prelude.{ℕ, ◌≤◌, List, map, length, drop}
use Rattle.meaning.specs.Lists.{All}
use Rattle.meaning.specs.Limits.{symbol, most_of, most_symbol_arity}
use Rattle.meaning.specs.Syntax.{Production}
use Rattle.meaning.specs.Files.{production_of}
use Rattle.fields.specs.Found.{contents_from}
use Rattle.automaton.specs.Marking.{AreProductions}

-- symbols within their limits, and sets of types that fit 16 bits
pub record Limited (arities : List ℕ) (types : ℕ) : Type 0 where
  pub symbols : length arities ≤ most_of symbol
  pub small : All (λ n. n ≤ most_symbol_arity) arities
  pub bits : types ≤ 16

-- room for the sets of 24 symbols of arity 2 over 16 states
abbrev pub most_cells : ℕ
most_cells = 6144

-- the productions of so many fields from a position on
abbrev pub productions_at : List ℕ → ℕ → ℕ → List Production
productions_at file from count = map production_of (contents_from count (drop from file))

-- so many productions from a position on, over such symbols and types
pub record Determinable (file : List ℕ) (from count : ℕ) (arities : List ℕ) (types : ℕ) : Type 0 where
  pub limited : Limited arities types
  pub productions : AreProductions types arities count (contents_from count (drop from file))
