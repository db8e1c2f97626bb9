-- The goals that are not found.
use Rattle.meaning.proofs.Prelude.{ℕ, ◌+◌, ◌-◌, sym, ap, ◌∙◌, arith}
use Rattle.declarations.proofs.Earlier.{named, inside, named_none, named_not_whole, named_here, named-next}
use Rattle.declarations.proofs.is_named_before.Goals as goal

pub loop-init : goal.loop-init
loop-init c = let a = c.args in
    let n = a.earlier.now in ap (λ (left : ℕ). named a.name.now a.skip n.bytes.now left n.from) (omega arith)

pub returns-in_default : goal.returns-in_default
unfolding named
returns-in_default c = let a = c.args in
    let n = a.earlier.now in
    let l = c.loop in
    sym (named_not_whole a.name.now a.skip n.bytes.now (n.count - l.counter) l.at (omega arith) c.field_at.ensures c.in_default.not-Whole) ∙ l.invariant

pub content-requires : goal.content-requires
content-requires c = inside c.args.earlier.now.bytes.now c.loop.at c.field_at.ensures c.in-Whole.is

pub returns-then-eq : goal.returns-then-eq
unfolding named
returns-then-eq c = let a = c.args in
    let n = a.earlier.now in
    let l = c.loop in
    sym
    (named_here a.name.now a.skip n.bytes.now (n.count - l.counter) l.at (omega arith) c.field_at.ensures c.in-Whole.is
    c.content.ensures.0 c.rest.ensures c.eq.ensures c.if-eq.true)
    ∙ l.invariant

pub overflow_add-at : goal.overflow_add-at
overflow_add-at c = omega (arith, inside c.args.earlier.now.bytes.now c.loop.at c.field_at.ensures c.in-Whole.is)

pub overflow_add-at-in-loop : goal.overflow_add-at-in-loop
overflow_add-at-in-loop c = omega (arith, inside c.args.earlier.now.bytes.now c.loop.at c.field_at.ensures c.in-Whole.is)

pub loop-preserved : goal.loop-preserved
loop-preserved c = let a = c.args in
    let n = a.earlier.now in
    let l = c.loop in
    ap (λ (left : ℕ). named a.name.now a.skip n.bytes.now left (l.at + (3 + c.in-Whole.len))) (omega arith)
    ∙ (sym
    (named-next a.name.now a.skip n.bytes.now (n.count - l.counter) l.at (omega arith) c.field_at.ensures c.in-Whole.is
    c.content.ensures.0 c.rest.ensures c.eq.ensures c.if-eq.false)
    ∙ l.invariant)

pub returns : goal.returns
unfolding named
returns c = let a = c.args in
    let n = a.earlier.now in
    let l = c.loop in
    sym (named_none a.name.now a.skip n.bytes.now (n.count - l.counter) l.at (omega arith)) ∙ l.invariant
