-- `fields::next_at` meets its contract: each way out is one case of what stands at a position. Assumes nothing.
use Rattle.meaning.proofs.Prelude.{arith}
use Rattle.fields.proofs.Nth.{whole-at}
use Rattle.fields.proofs.next_at.Goals as goal

pub overflow_add-result-2 : goal.overflow_add-result-2
overflow_add-result-2 c = omega (arith, (whole-at c.args.s.now c.args.at c.field_at.ensures c.in-Whole.is).inside)
