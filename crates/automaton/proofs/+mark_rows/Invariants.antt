-- `automaton::mark_rows` meets its contract. The loop's invariant: the buffer is as after the rows whose next state is below d. The measure is the
-- arguments left. Assumes nothing.
use Rattle.meaning.proofs.Prelude.{◌≡◌, length, get_or, drop}
use Rattle.automaton.proofs.Marking.{mark_to}
use Rattle.automaton.proofs.+mark_rows.Given as goal

abbrev pub decreases-mark_rows : goal.decreases-mark_rows
decreases-mark_rows l = length l.arguments.now

abbrev pub invariant-loop-d : goal.invariant-loop-d
invariant-loop-d l = l.sets ≡ mark_to l.states l.start l.more.bits (get_or l.arguments 0 0) (drop 1 l.arguments) l.cell l.initial.sets l.d
