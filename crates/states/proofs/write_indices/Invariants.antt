-- `states::write_indices` meets its contract. The invariant: the first `i` places hold the numbers of the first `i` sets. Assumes nothing.
use Rattle.meaning.proofs.Prelude.{◌≡◌, ◌++◌, take, drop}
use Rattle.states.specs.Packed.{indices}
use Rattle.states.proofs.write_indices.Given as goal

abbrev pub invariant-loop-i : goal.invariant-loop-i
invariant-loop-i l = l.tables ≡ indices l.states (take l.i l.sets) ++ drop l.i l.initial.tables
