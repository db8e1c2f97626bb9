-- `sheet_writer::put_atom_fields` meets its contract. The invariant: the fields of the marked atoms from the next predicate on are left to be put. Assumes nothing.
use Rattle.meaning.proofs.Prelude.{◌≡◌}
use Rattle.meaning.proofs.Definitions.{start, marked_atoms}
use Rattle.byte_runs.proofs.Putting.{Left}
use Rattle.sheet_writer.specs.Parts.{atom_fields}
use Rattle.sheet_writer.proofs.Turns.{rest}
use Rattle.sheet_writer.proofs.put_atom_fields.Given as goal

abbrev pub invariant-loop-p : goal.invariant-loop-p
invariant-loop-p l = (l.a ≡ start l.m l.preds l.p) × Left l.initial.sheet l.from (atom_fields (marked_atoms l.m l.preds l.marks)) l.sheet l.at (rest l.m l.preds l.marks l.p)
