-- The goals that are not found.
use Rattle.meaning.proofs.Prelude.{sym, subst, ◌∙◌, arith}
use Rattle.meaning.proofs.Definitions.{states_for, step, signature}
use Rattle.states.specs.Asked.{productions_at}
use Rattle.states.proofs.Packed.{packed-answer, is_many}
use Rattle.states.proofs.Turns.{Turning, turning, turning_holds, turn_over, turn_size, turn_rest, turn_grown, turn_on}
use Rattle.states.proofs.determinise.Goals as goal

pub loop-more-init : goal.loop-more-init
loop-more-init c types given = let a = c.args in
    let section = a.section.now in
    let productions = productions_at section.bytes.now section.from section.count in
    subst (Turning (step productions types) (signature a.arities.now) (states_for a.arities.now types productions)) (sym c.none-known.ensures)
    (turning a.arities.now types productions)

pub turn-requires-clause-holds : goal.turn-requires-clause-holds
turn-requires-clause-holds c = let given = c.requires in turning_holds (c.loop-more.invariant given.0 given.1)

pub returns-in_err-more : goal.returns-in_err-more
returns-in_err-more c types given = let many = c.in_err-more.field-0.0 in
    let e = is_many many c.from_residual.ensures.0 ∙ turn_over (c.loop-more.invariant types given) (c.in_err-more.ensures types given) many in
    (e, packed-answer _ e)

pub returns-then-more-known : goal.returns-then-more-known
returns-then-more-known c types given = let e = turn_rest (c.loop-more.invariant types given) (c.in_ok-more.ensures types given) c.if-more-known.true in
    (e, packed-answer _ e)

pub loop-more-smaller : goal.loop-more-smaller
loop-more-smaller c = let given = c.requires in
    let inv = c.loop-more.invariant given.0 given.1 in
    let made = c.in_ok-more.ensures given.0 given.1 in
    let grown = turn_grown inv made c.if-more-known.false in
    let size = turn_size inv made in
    omega arith

pub loop-more-preserved : goal.loop-more-preserved
loop-more-preserved c types given = turn_on (c.loop-more.invariant types given) (c.in_ok-more.ensures types given) c.if-more-known.false
