-- `parser::read` meets its contract: 1 for a file that is too long, else what its fields answer. Assumes nothing.
use Rattle.meaning.proofs.Prelude.{arith}
use Rattle.parser.proofs.Sizes.{too_long, not-long}
use Rattle.parser.proofs.read.Goals as goal

pub returns-then-file-gt-MOST_FILE_BYTES : goal.returns-then-file-gt-MOST_FILE_BYTES
returns-then-file-gt-MOST_FILE_BYTES c = too_long c.args.file.now c.nothing-known.result (omega arith) c.nothing-known.ensures

pub returns : goal.returns
returns c = not-long c.args.file.now c.read_fields-outcome.new.known (omega arith) _ c.read_fields-outcome.ensures
