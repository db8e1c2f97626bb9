-- `states::determinise` meets its contract. The invariant: the states known are a list from which the turns that are left lead to the states (`Underway`). The
-- measure is how many places are left. Assumes nothing.
use Rattle.meaning.proofs.Prelude.{ℕ, ◌-◌}
use Rattle.meaning.proofs.Definitions.{states_for, step, signature, most_states}
use Rattle.states.specs.Asked.{Determinable, productions_at}
use Rattle.states.proofs.Turns.{Turning}
use Rattle.states.proofs.determinise.Given as goal

abbrev pub invariant-loop-more : goal.invariant-loop-more
invariant-loop-more l = (types : ℕ) → Determinable l.section.bytes.now l.section.from l.section.count l.arities types → Turning (step (productions_at l.section.bytes.now l.section.from l.section.count) types) (signature l.arities) (states_for l.arities types (productions_at l.section.bytes.now l.section.from l.section.count)) l.known

abbrev pub decreases-loop-more : goal.decreases-loop-more
decreases-loop-more l = most_states - l.known.count
