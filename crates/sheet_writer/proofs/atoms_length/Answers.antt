-- The goals that are not found.
use Rattle.meaning.proofs.Prelude.{sym, ap, length, zero-add, arith}
use Rattle.meaning.proofs.Definitions.{marked_atoms}
use Rattle.meaning.proofs.Cells.{start-zero}
use Rattle.sheet_writer.proofs.Turns.{turn, rest_end, part-inside, next_begins, rest-length, part-most, part_near}
use Rattle.sheet_writer.proofs.atoms_length.Goals as goal

pub loop-n-init : goal.loop-n-init
unfolding marked_atoms
loop-n-init c = (sym (start-zero c.args.m c.args.preds.now), omega arith, zero-add _)

pub overflow_add-sum-in-loop-n : goal.overflow_add-sum-in-loop-n
overflow_add-sum-in-loop-n c = let t = turn c.args.m c.args.preds.now c.args.marks.now c.loop-n.n-index c.loop-n.a c.power.result (omega arith) c.loop-n.invariant.0 c.power.ensures c.requires.3 in
    omega (arith, part-most t c.from.ensures c.count.ensures c.requires.2, part_near t c.requires.0 c.requires.1 c.requires.2, c.loop-n.invariant.1)

pub loop-n-preserved : goal.loop-n-preserved
loop-n-preserved c = let t = turn c.args.m c.args.preds.now c.args.marks.now c.loop-n.n-index c.loop-n.a c.power.result (omega arith) c.loop-n.invariant.0 c.power.ensures c.requires.3 in
    let l = c.loop-n in (
      next_begins t,
      omega (arith, part-most t c.from.ensures c.count.ensures c.requires.2, l.invariant.1),
      omega (arith, l.invariant.2, rest-length t c.from.ensures c.count.ensures),
    )

pub returns : goal.returns
returns c = let a = c.args in
    let l = c.loop-n in
    omega (arith, l.invariant.2, ap length (rest_end a.m a.preds.now a.marks.now l.n-index (omega arith)))

pub overflow_add-e : goal.overflow_add-e
overflow_add-e c = let t = turn c.args.m c.args.preds.now c.args.marks.now c.loop-n.n-index c.loop-n.a c.power.result (omega arith) c.loop-n.invariant.0 c.power.ensures c.requires.3 in
    omega (arith, part_near t c.requires.0 c.requires.1 c.requires.2)

pub slice_bounds-count-end : goal.slice_bounds-count-end
slice_bounds-count-end c = omega (arith, part-inside (turn c.args.m c.args.preds.now c.args.marks.now c.loop-n.n-index c.loop-n.a c.power.result (omega arith) c.loop-n.invariant.0 c.power.ensures c.requires.3))

pub overflow_mul-sum : goal.overflow_mul-sum
overflow_mul-sum c = let t = turn c.args.m c.args.preds.now c.args.marks.now c.loop-n.n-index c.loop-n.a c.power.result (omega arith) c.loop-n.invariant.0 c.power.ensures c.requires.3 in
    omega (arith, part-most t c.from.ensures c.count.ensures c.requires.2, part_near t c.requires.0 c.requires.1 c.requires.2)
