-- `sheet_layout::first_misplaced` meets its contract. The invariant: some fields are read, none of them misplaced, the next starts at the position, and
-- `atoms` says whether an atom's is among them. What is left of the sheet falls. Assumes nothing.
use Rattle.meaning.proofs.Prelude.{◌-◌, ◌≡◌, List, length}
use Rattle.meaning.proofs.Definitions.{Field, misplaced}
use Rattle.sheet_layout.proofs.Walking.{Walked}
use Rattle.sheet_layout.proofs.Placing.{seen}
use Rattle.sheet_layout.proofs.first_misplaced.Given as goal

abbrev pub invariant-loop-tag : goal.invariant-loop-tag
invariant-loop-tag l = (done : List Field) × Walked (misplaced l.preds) l.sheet l.at l.k done × (l.atoms ≡ seen done)

abbrev pub decreases-loop-tag : goal.decreases-loop-tag
decreases-loop-tag l = length l.sheet - l.at
