-- A set of types with one type added (01: "comes back with one type added"), and the sets that the symbols give over all rows of some sets.
use Rattle.std.specs.Prelude.{ℕ, ◌^◌, List, map}
use Rattle.std.specs.Int.Bits.{bit_or}
use Rattle.meaning.specs.Lists.{joined}
use Rattle.meaning.specs.Syntax.{Production}
use Rattle.meaning.specs.Types.{numbered, step}
use Rattle.meaning.specs.States.{reached}

abbrev pub added : ℕ → ℕ → ℕ
added s t = bit_or s (2 ^ t)

-- symbol after symbol, over the rows in the order of their cells
unfoldable pub given_sets : List Production → ℕ → List ℕ → List ℕ → List ℕ
given_sets productions types states arities = joined (map (reached (step productions types) states) (numbered 0 arities))
