-- `listing_text::put_row` meets its contract. The invariant: the states from the next on are left to be put. Assumes nothing.
use Rattle.meaning.proofs.Prelude.{drop}
use Rattle.byte_runs.proofs.Putting.{Left}
use Rattle.listing_text.specs.Lines.{row_text}
use Rattle.listing_text.proofs.put_row.Given as goal

abbrev pub invariant-loop-state : goal.invariant-loop-state
invariant-loop-state l = Left l.initial.out l.at (row_text l.row) l.out l.next (row_text (drop l.state-index l.row))
