-- `parser::read_fields` meets its contract. The invariant: some fields are read, none of them refused, and the next starts at the position (`Reached`).
-- What is left of the file falls. Assumes nothing.
use Rattle.meaning.proofs.Prelude.{◌-◌, List, length}
use Rattle.meaning.proofs.Definitions.{Field}
use Rattle.parser.proofs.Reached.{Reached}
use Rattle.parser.proofs.read_fields.Given as goal

abbrev pub invariant-loop-tag : goal.invariant-loop-tag
invariant-loop-tag l = (done : List Field) × Reached l.file l.at l.k l.last l.known done

abbrev pub decreases-loop-tag : goal.decreases-loop-tag
decreases-loop-tag l = length l.file - l.at
