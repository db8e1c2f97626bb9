-- `sheet_writer::atoms_length` meets its contract. The invariant: the bytes counted and those of the atoms from the next predicate on are all. Assumes nothing.
use Rattle.meaning.proofs.Prelude.{◌+◌, ◌≤◌, ◌*◌, ◌≡◌, length}
use Rattle.meaning.proofs.Definitions.{start, marked_atoms}
use Rattle.sheet_writer.specs.Parts.{atom_fields}
use Rattle.sheet_writer.proofs.Turns.{rest}
use Rattle.sheet_writer.proofs.atoms_length.Given as goal

abbrev pub invariant-loop-n : goal.invariant-loop-n
invariant-loop-n l = (l.a ≡ start l.m l.preds l.n-index) × (l.sum ≤ l.a * 7) × (l.sum + length (rest l.m l.preds l.marks l.n-index) ≡ length (atom_fields (marked_atoms l.m l.preds l.marks)))
