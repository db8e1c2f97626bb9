-- `byte_runs::put_bytes` meets its contract: a part written is a paste. Assumes nothing.
use Rattle.meaning.proofs.Prelude.{refl}
use Rattle.byte_runs.proofs.Pasted.{pasted-part}
use Rattle.byte_runs.proofs.put_bytes.Goals as goal

pub returns : goal.returns
returns c = (pasted-part c.args.out.now c.args.at c.args.bytes.now c.copy_from_slice.ensures.after, refl)
