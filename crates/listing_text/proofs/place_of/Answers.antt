-- The goals that are not found.
use Rattle.meaning.proofs.Prelude.{◌≤◌, arith}
use Rattle.meaning.proofs.Lists.{All-get_or}
use Rattle.meaning.proofs.Cells.{start-zero}
use Rattle.listing_text.proofs.Places.{place-next, no_segment}
use Rattle.listing_text.proofs.place_of.Goals as goal

pub loop-predicate-init : goal.loop-predicate-init
loop-predicate-init c = omega (arith, start-zero c.args.m c.args.arities.now)

pub power-size-requires : goal.power-size-requires
power-size-requires c = (c.requires.0, All-get_or (λ n. n ≤ 4) c.args.arities.now 0 c.requires.1 c.loop-predicate.predicate c.loop-predicate-test.true)

pub loop-predicate-preserved : goal.loop-predicate-preserved
loop-predicate-preserved c = let l = c.loop-predicate in
    place-next c.args.m c.args.arities.now c.args.j l.predicate l.cell c.power-size.result c.loop-predicate-test.true c.power-size.ensures l.invariant c.if-cell-size.false

pub returns-then-cell-size : goal.returns-then-cell-size
returns-then-cell-size c = (c.loop-predicate-test.true, omega (arith, c.power-size.ensures), c.loop-predicate.invariant)

pub returns : goal.returns
returns c = let l = c.loop-predicate in
    absurd (no_segment c.args.m c.args.arities.now l.predicate l.cell (omega arith) l.invariant c.requires.2)
