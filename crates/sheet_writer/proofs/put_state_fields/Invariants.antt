-- `sheet_writer::put_state_fields` meets its contract. The invariant: the fields of the states from the next one on are left to be put. Assumes nothing.
use Rattle.meaning.proofs.Prelude.{drop}
use Rattle.byte_runs.proofs.Putting.{Left}
use Rattle.sheet_writer.specs.Parts.{state_fields}
use Rattle.sheet_writer.proofs.put_state_fields.Given as goal

abbrev pub invariant-loop-state : goal.invariant-loop-state
invariant-loop-state l = Left l.initial.sheet 0 (state_fields l.states) l.sheet l.at (state_fields (drop l.state-index l.states))
