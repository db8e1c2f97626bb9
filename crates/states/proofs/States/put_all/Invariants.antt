-- `states::States::put_all` meets its contract. The invariant: the states known are those of the beginning with the sets that the iterator has passed, those
-- behind what it has left. Assumes nothing.
use Rattle.meaning.proofs.Prelude.{ℕ, ◌≡◌, List, ◌++◌, take}
use Rattle.meaning.proofs.Definitions.{insert_all}
use Rattle.std.specs.Prelude.{Ok}
use Rattle.states.specs.Packed.{packed}
use Rattle.states.proofs.States.put_all.Given as goal

abbrev pub invariant-loop-set : goal.invariant-loop-set
invariant-loop-set l = (passed : List ℕ)
    × (l.new ≡ l.set-iterator.iter.rest.now ++ passed)
    × (Ok l.known ≡ packed (insert_all passed (take l.initial.known.count l.initial.known.sets)))
