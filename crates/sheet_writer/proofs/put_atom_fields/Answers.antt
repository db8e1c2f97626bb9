-- The goals that are not found.
use Rattle.meaning.proofs.Prelude.{◌+◌, ◌≤◌, ◌-◌, sym, get_or, arith}
use borrow.Rule.Slice.PartMut.{mid_of}
use Rattle.meaning.proofs.Definitions.{marked_atoms}
use Rattle.meaning.proofs.Lists.{All-get_or}
use Rattle.meaning.proofs.Cells.{start-zero}
use Rattle.byte_runs.proofs.Putting.{left_start, left_room, left_next, left_end}
use Rattle.sheet_writer.specs.Parts.{atom_fields, part_atoms}
use Rattle.sheet_writer.proofs.Turns.{turn, rest, rest_end, part-inside, next_begins, part-size, rest-next}
use Rattle.sheet_writer.proofs.put_atom_fields.Goals as goal

pub loop-p-init : goal.loop-p-init
unfolding marked_atoms
loop-p-init c = let a = c.args in (
  sym (start-zero a.m a.preds.now),
  left_start a.sheet.now a.from (atom_fields (marked_atoms a.m a.preds.now a.marks.now)) c.requires.5,
)

pub put_part-at-requires : goal.put_part-at-requires
put_part-at-requires c = let a = c.args in
    let l = c.loop-p in
    let n = get_or a.preds.now l.p 0 in
    let t = turn a.m a.preds.now a.marks.now l.p l.a c.power.result (omega arith) l.invariant.0 c.power.ensures c.requires.4 in (
      omega arith,
      omega arith,
      All-get_or (λ d. d ≤ 3) a.preds.now 0 c.requires.3 l.p t.declared,
      part-size t,
      left_room a.sheet.now a.from (atom_fields (marked_atoms a.m a.preds.now a.marks.now)) l.sheet l.at
          (atom_fields (part_atoms a.m n l.p 0 (mid_of l.a (l.a + c.power.result - l.a) a.marks.now))) (rest a.m a.preds.now a.marks.now (l.p + 1)) (rest-next t)
          l.invariant.1,
    )

pub loop-p-preserved : goal.loop-p-preserved
loop-p-preserved c = let a = c.args in
    let l = c.loop-p in
    let n = get_or a.preds.now l.p 0 in
    let t = turn a.m a.preds.now a.marks.now l.p l.a c.power.result (omega arith) l.invariant.0 c.power.ensures c.requires.4 in (
      next_begins t,
      left_next a.sheet.now a.from (atom_fields (marked_atoms a.m a.preds.now a.marks.now)) l.sheet l.at
          (atom_fields (part_atoms a.m n l.p 0 (mid_of l.a (l.a + c.power.result - l.a) a.marks.now))) (rest a.m a.preds.now a.marks.now (l.p + 1)) (rest-next t)
          l.invariant.1 c.put_part-at.ensures,
    )

pub returns : goal.returns
returns c = let a = c.args in
    let l = c.loop-p in
    left_end a.sheet.now a.from (atom_fields (marked_atoms a.m a.preds.now a.marks.now)) l.sheet l.at (rest_end a.m a.preds.now a.marks.now l.p (omega arith)) l.invariant.1

pub overflow_add-e : goal.overflow_add-e
overflow_add-e c = omega (arith, part-inside (turn c.args.m c.args.preds.now c.args.marks.now c.loop-p.p c.loop-p.a c.power.result (omega arith) c.loop-p.invariant.0 c.power.ensures c.requires.4))

pub slice_bounds-put_part-end : goal.slice_bounds-put_part-end
slice_bounds-put_part-end c = omega (arith, part-inside (turn c.args.m c.args.preds.now c.args.marks.now c.loop-p.p c.loop-p.a c.power.result (omega arith) c.loop-p.invariant.0 c.power.ensures c.requires.4))
