-- `listing_text::place_of` meets its contract. The invariant: the place is `cell` cells after the start of the next segment. Assumes nothing.
use Rattle.meaning.proofs.Prelude.{◌+◌, ◌≡◌}
use Rattle.meaning.specs.Cells.{start}
use Rattle.listing_text.proofs.place_of.Given as goal

abbrev pub invariant-loop-predicate : goal.invariant-loop-predicate
invariant-loop-predicate l = l.j ≡ start l.m l.arities l.predicate + l.cell
