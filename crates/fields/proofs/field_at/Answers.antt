-- `fields::field_at` meets its contract: each way out is one case of what stands at a position. Assumes nothing.
use Rattle.meaning.proofs.Prelude.{sym, arith}
use Rattle.fields.proofs.Front.{found-cut, found-long}
use Rattle.fields.proofs.field_at.Goals as goal

pub returns-then-left-lt-HEADER : goal.returns-then-left-lt-HEADER
returns-then-left-lt-HEADER c = sym (found-cut c.args.s.now c.args.at (omega arith) (omega arith))

pub returns-else-len-left : goal.returns-else-len-left
returns-else-len-left c = sym (found-long c.args.s.now c.args.at (omega arith) (omega arith))
