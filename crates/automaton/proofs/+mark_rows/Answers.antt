-- The goals that are not found.
use Rattle.meaning.proofs.Prelude.{ap, ◌∙◌, length, length-drop, get_or, drop, arith}
use Rattle.meaning.proofs.Loops.{part-rest}
use Rattle.automaton.proofs.Marking.{mark-end, to-zero, to-more, to_same, to_all, length-mark_to, deeper, next-inside}
use Rattle.automaton.proofs.+mark_rows.Goals as goal
use Rattle.automaton.proofs.+mark_rows.Goals.{else-has, then-has}

pub returns-in_default : goal.returns-in_default
returns-in_default t c = let a = c.args in
    mark-end a.states.now a.start a.more.bits a.arguments.now a.cell a.sets.now c.in_default.len_below c.join-joined.ensures

pub loop-d-init : goal.loop-d-init
loop-d-init t c = to-zero _ _ _ _ _ _ _

pub overflow_mul-cell : goal.overflow_mul-cell
overflow_mul-cell t c = let d = c.loop-d.d in
    omega (arith, next-inside c.args.arguments.now c.requires c.in-len1-up.len_at_least d (omega arith))

pub overflow_add-cell : goal.overflow_add-cell
overflow_add-cell t c = let d = c.loop-d.d in
    omega (arith, next-inside c.args.arguments.now c.requires c.in-len1-up.len_at_least d (omega arith))

pub mark_rows-requires : goal.mark_rows-requires
mark_rows-requires t c = let a = c.args in
    let loop = c.loop-d in
    (omega (arith, ap length (part-rest 1 a.arguments.now), length-drop 1 a.arguments.now), deeper a.arguments.now c.requires c.in-len1-up.len_at_least loop.d loop.sets (omega arith) (ap length loop.invariant ∙ length-mark_to a.states.now a.start a.more.bits (get_or a.arguments.now 0 0) (drop 1 a.arguments.now) a.cell a.sets.now loop.d))

pub loop-d-preserved : goal.loop-d-preserved
loop-d-preserved t c = let a = c.args in
    let loop = c.loop-d in
    let asked = get_or a.arguments.now 0 0 in
    let rest = drop 1 a.arguments.now in
    elim c.if-has.branch [ then-has w ↦ w.sets-is ∙ ((rw (part-rest 1 a.arguments.now) at w.mark_rows.ensures) ∙ to-more a.states.now a.start a.more.bits asked rest a.cell a.sets.now loop.d c.has.ensures w.if-has.true loop.invariant) | else-has w ↦ w.sets-is ∙ to_same a.states.now a.start a.more.bits asked rest a.cell a.sets.now loop.d c.has.ensures w.if-has.false loop.invariant ]

pub returns : goal.returns
returns t c = let a = c.args in
    let loop = c.loop-d in
    loop.invariant ∙ to_all a.states.now a.start a.more.bits a.arguments.now a.cell a.sets.now loop.d c.in-len1-up.len_at_least (omega arith)
