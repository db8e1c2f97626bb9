-- `automaton::TypeSet::with` meets its contract: the two sets have the same members. Assumes nothing.
use Rattle.meaning.proofs.Prelude.{sym, ◌∙◌}
use Rattle.meaning.proofs.Bits.{has_with}
use Rattle.meaning.proofs.Sets.{set_same}
use Rattle.automaton.proofs.TypeSet.with.Goals as goal

pub returns : goal.returns
returns c = set_same _ _ (λ t. c.with.ensures t ∙ sym (has_with c.args.self.bits c.args.t t))
