-- The goals that are not found.
use Rattle.meaning.proofs.Prelude.{◌+◌, ◌-◌, refl, ◌∙◌, arith}
use Rattle.automaton.proofs.Turns.{never_none, field_inside, first-long, first-well, rest_are, from_next}
use Rattle.automaton.proofs.Given.{still_fillable, filled}
use Rattle.automaton.proofs.fill.Goals as goal

pub returns-in_default : goal.returns-in_default
returns-in_default c = let loop = c.loop in
    absurd (never_none c.args.section.now.bytes.now loop.at (c.args.section.now.count - (loop.counter + 1)) (omega arith) loop.invariant.left.2 c.field_at.ensures c.in_default.not-Whole)

pub content-content-requires : goal.content-content-requires
content-content-requires c = let loop = c.loop in
    field_inside c.args.section.now.bytes.now loop.at (c.args.section.now.count - (loop.counter + 1)) (omega arith) loop.invariant.left.2 c.in-Whole.ensures refl

pub mark_production-requires : goal.mark_production-requires
mark_production-requires c = let loop = c.loop in
    let a = c.args in
    let file = a.section.now.bytes.now in
    let later = a.section.now.count - (loop.counter + 1) in
    let left = loop.invariant.left in (
      still_fillable a.states.now a.arities.now a.sets.now c.requires.fillable c.cells_of-all.ensures c.fill.ensures.after loop.auto.sets,
      first-long file loop.at later (omega arith) left.2 c.in-Whole.ensures refl c.content-content.ensures.0,
      first-well file loop.at later (omega arith) left.2 c.in-Whole.ensures refl c.content-content.ensures.0 left.1,
    )

pub loop-preserved : goal.loop-preserved
loop-preserved c = let loop = c.loop in
    let a = c.args in
    let file = a.section.now.bytes.now in
    let later = a.section.now.count - (loop.counter + 1) in
    let left = loop.invariant.left in
    record {
      left = (left.0, left.1, rest_are file loop.at later (omega arith) left.2 c.in-Whole.ensures refl c.content-content.ensures.0);
      marked = from_next file loop.at later (omega arith) left.2 c.in-Whole.ensures refl c.content-content.ensures.0 a.states.now loop.sets c.mark_production.ensures
          ∙ loop.invariant.marked;
    }

pub returns : goal.returns
returns c types low are = let loop = c.loop in
    let a = c.args in
    filled a.states.now a.arities.now a.sets.now c.requires.fillable c.cells_of-all.ensures c.fill.ensures.after a.section.now.bytes.now types a.section.now.from a.section.now.count (a.section.now.count - loop.counter) loop.at low are (omega arith) loop.invariant.marked

pub overflow_add-at : goal.overflow_add-at
overflow_add-at c = let loop = c.loop in
    omega (arith, field_inside c.args.section.now.bytes.now loop.at (c.args.section.now.count - (loop.counter + 1)) (omega arith) loop.invariant.left.2 c.in-Whole.ensures refl)

pub overflow_add-at-in-loop : goal.overflow_add-at-in-loop
overflow_add-at-in-loop c = let loop = c.loop in
    omega (arith, field_inside c.args.section.now.bytes.now loop.at (c.args.section.now.count - (loop.counter + 1)) (omega arith) loop.invariant.left.2 c.in-Whole.ensures refl)
