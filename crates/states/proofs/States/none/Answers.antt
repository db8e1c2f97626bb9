-- `states::States::none` meets its contract: no state, and zeros. Assumes nothing.
use Rattle.meaning.proofs.Prelude.{ℕ, List, ap}
use Rattle.states.specs.declared.States.{States}
use Rattle.states.proofs.Packed.{zeros}
use Rattle.states.proofs.States.none.Goals as goal

pub returns : goal.returns
returns c = ap (λ (l : List ℕ). let s : States = record { count = 0; sets = l } in s) zeros
