-- `sheet_layout::first_difference` meets its contract. The invariant: i states of the sheet are read, like the given ones, and the next field starts at
-- the position. Assumes nothing.
use Rattle.meaning.proofs.Definitions.{fields, states_in}
use Rattle.sheet_layout.proofs.Placing.{Reads}
use Rattle.sheet_layout.proofs.Alike.{Alike}
use Rattle.sheet_layout.proofs.first_difference.Given as goal

abbrev pub invariant-loop-i : goal.invariant-loop-i
invariant-loop-i l = Reads l.sheet l.at l.i × Alike (states_in (fields l.sheet)) l.states l.i
