-- `states::shift` meets its contract: the places are copied one on, and the set is put before them. Assumes nothing.
use Rattle.meaning.proofs.Prelude.{ℕ, List, ap, ◌∙◌, set, rules}
use Rattle.states.proofs.Places.{put_moved}
use Rattle.states.proofs.shift.Goals as goal

pub returns : goal.returns
returns c = let a = c.args in
    ap (λ (l : List ℕ). set l a.i a.set) c.copy_within.ensures.after ∙ put_moved a.sets a.i a.n a.set c.requires.0 (search rules)
