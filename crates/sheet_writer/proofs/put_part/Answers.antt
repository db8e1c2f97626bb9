-- The goals that are not found.
use Rattle.meaning.proofs.Prelude.{◌+◌, refl, sym, ◌∷◌, drop, arith}
use Rattle.meaning.proofs.Definitions.{atom_tag, encode_field, row_of}
use Rattle.byte_runs.proofs.Putting.{left_start, left_is, left_room, left_next, left_end}
use Rattle.sheet_writer.specs.Parts.{atom_fields, part_atoms}
use Rattle.sheet_writer.proofs.Fields.{part-marked, part_unmarked, part_end}
use Rattle.sheet_writer.proofs.put_part.Goals as goal
use Rattle.sheet_writer.proofs.put_part.Goals.{then-mark-ne0, else-mark-ne0}

pub loop-c-init : goal.loop-c-init
loop-c-init c = let a = c.args in
    left_start a.sheet.now a.from (atom_fields (part_atoms a.m a.n a.p 0 a.part.now)) c.requires.4

pub put_atom_field-at-requires : goal.put_atom_field-at-requires
put_atom_field-at-requires c = let a = c.args in
    let l = c.loop-c in (
      omega arith,
      omega arith,
      omega arith,
      omega arith,
      left_room a.sheet.now a.from (atom_fields (part_atoms a.m a.n a.p 0 a.part.now)) l.sheet l.at (encode_field atom_tag (a.p ∷ row_of a.m a.n l.c)) (atom_fields (part_atoms a.m a.n a.p (l.c + 1) (drop (l.c + 1) a.part.now)))
          (part-marked a.m a.n a.p a.part.now l.c (omega arith) c.if-mark-ne0.true) l.invariant,
    )

pub loop-c-preserved : goal.loop-c-preserved
loop-c-preserved c = let a = c.args in
    let l = c.loop-c in
    let whole = atom_fields (part_atoms a.m a.n a.p 0 a.part.now) in
    elim c.if-mark-ne0.branch [
      | then-mark-ne0 w ↦
          left_is a.sheet.now a.from whole (sym w.sheet-is) (sym w.at-is) refl
          (left_next a.sheet.now a.from whole l.sheet l.at (encode_field atom_tag (a.p ∷ row_of a.m a.n l.c)) (atom_fields (part_atoms a.m a.n a.p (l.c + 1) (drop (l.c + 1) a.part.now)))
          (part-marked a.m a.n a.p a.part.now l.c (omega arith) w.if-mark-ne0.true) l.invariant w.put_atom_field-at.ensures)
      | else-mark-ne0 w ↦
          left_is a.sheet.now a.from whole (sym w.sheet-is) (sym w.at-is) (part_unmarked a.m a.n a.p a.part.now l.c (omega arith) w.if-mark-ne0.false) l.invariant
    ]

pub returns : goal.returns
returns c = let a = c.args in
    let l = c.loop-c in
    left_end a.sheet.now a.from (atom_fields (part_atoms a.m a.n a.p 0 a.part.now)) l.sheet l.at (part_end a.m a.n a.p a.part.now l.c (omega arith)) l.invariant
