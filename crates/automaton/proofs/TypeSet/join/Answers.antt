-- `automaton::TypeSet::join` meets its contract: the two sets have the same members. Assumes nothing.
use Rattle.meaning.proofs.Prelude.{sym, ◌∙◌}
use Rattle.meaning.proofs.Bits.{has_either}
use Rattle.meaning.proofs.Sets.{set_same}
use Rattle.automaton.proofs.TypeSet.join.Goals as goal

pub returns : goal.returns
returns c = set_same _ _ (λ t. c.either.ensures t ∙ sym (has_either c.args.self.bits c.args.other.bits t))
