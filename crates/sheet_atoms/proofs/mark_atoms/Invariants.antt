-- `sheet_atoms::mark_atoms` meets its contract. The invariant: the marks hold the atoms of the fields so far, none of which is wrong, and the next
-- field starts at the position (`Reached`). What is left of the sheet falls. Assumes nothing.
use Rattle.meaning.proofs.Prelude.{◌-◌, List, length}
use Rattle.meaning.proofs.Definitions.{Field}
use Rattle.sheet_atoms.proofs.Turns.{Reached}
use Rattle.sheet_atoms.proofs.mark_atoms.Given as goal

abbrev pub invariant-loop-at : goal.invariant-loop-at
invariant-loop-at l = (done : List Field) × Reached l.m l.predicates.arities.now l.sheet l.at l.k l.marks done

abbrev pub decreases-loop-at : goal.decreases-loop-at
decreases-loop-at l = length l.sheet - l.at
