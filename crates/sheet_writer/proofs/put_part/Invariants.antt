-- `sheet_writer::put_part` meets its contract. The invariant: the fields of the marked atoms from the next cell on are left to be put. Assumes nothing.
use Rattle.meaning.proofs.Prelude.{drop}
use Rattle.byte_runs.proofs.Putting.{Left}
use Rattle.sheet_writer.specs.Parts.{atom_fields, part_atoms}
use Rattle.sheet_writer.proofs.put_part.Given as goal

abbrev pub invariant-loop-c : goal.invariant-loop-c
invariant-loop-c l = Left l.initial.sheet l.from (atom_fields (part_atoms l.m l.n l.p 0 l.part)) l.sheet l.at (atom_fields (part_atoms l.m l.n l.p l.c (drop l.c l.part)))
