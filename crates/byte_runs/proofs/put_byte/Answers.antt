-- `byte_runs::put_byte` meets its contract: a store is a paste of one byte. Assumes nothing.
use Rattle.meaning.proofs.Prelude.{refl, rules}
use Rattle.byte_runs.proofs.Pasted.{pasted-one}
use Rattle.byte_runs.proofs.put_byte.Goals as goal

pub returns : goal.returns
returns c = (pasted-one c.args.out.now c.args.at c.args.b (search rules), refl)
