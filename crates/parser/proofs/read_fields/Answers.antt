-- The goals that are not found.
use Rattle.meaning.proofs.Prelude.{sym, subst, [], arith}
use Rattle.answers.proofs.Numbers.{numbered, handed_on}
use Rattle.meaning.specs.Refusals.{Answer}
use Rattle.parser.specs.Read.{Outcome}
use Rattle.parser.proofs.Reached.{reached-none}
use Rattle.parser.proofs.Turns.{turn_fits, turn_cut, turn_end, turn_inside, turn_refused, turn_room, turn_again}
use Rattle.parser.proofs.read_fields.Goals as goal

pub loop-tag-init : goal.loop-tag-init
loop-tag-init c = ([], reached-none c.args.file.now c.args.known.now c.requires.nothing)

pub content-content-requires : goal.content-content-requires
content-content-requires c = turn_inside c.loop-tag.invariant c.field_at.ensures c.in-Whole.is

pub judge_field-requires : goal.judge_field-requires
judge_field-requires c = turn_fits c.loop-tag.invariant

pub returns-in_err-kind-in-Whole : goal.returns-in_err-kind-in-Whole
returns-in_err-kind-in-Whole c = let e = c.in_err-kind-in-Whole in
    subst (λ (a : Answer). Outcome c.args.file.now a c.loop-tag.known) (sym (handed_on c.from_residual.result e.field-0.0 c.from_residual.ensures.1))
    (turn_refused c.loop-tag.invariant c.field_at.ensures c.in-Whole.is c.content-content.ensures.0 e.ensures.answer (numbered e.field-0.0))

pub add_field-requires : goal.add_field-requires
add_field-requires c =
    turn_room c.loop-tag.invariant c.field_at.ensures c.in-Whole.is c.content-content.ensures.0 c.in_ok-kind-in-Whole.ensures.answer tt _ c.in_ok-kind-in-Whole.ensures.kind

pub overflow_add-at : goal.overflow_add-at
overflow_add-at c = omega (arith, turn_inside c.loop-tag.invariant c.field_at.ensures c.in-Whole.is)

pub overflow_add-at-in-Whole : goal.overflow_add-at-in-Whole
overflow_add-at-in-Whole c = omega (arith, turn_inside c.loop-tag.invariant c.field_at.ensures c.in-Whole.is)

pub loop-tag-preserved : goal.loop-tag-preserved
loop-tag-preserved c =
    turn_again c.loop-tag.invariant c.field_at.ensures c.in-Whole.is c.content-content.ensures.0 c.in_ok-kind-in-Whole.ensures.answer tt _ c.in_ok-kind-in-Whole.ensures.kind
    c.first_of.ensures c.add_field.ensures

pub returns-in-Cut : goal.returns-in-Cut
returns-in-Cut c = turn_cut c.loop-tag.invariant c.field_at.ensures c.in-Cut.is

pub ending-requires : goal.ending-requires
ending-requires c = turn_fits c.loop-tag.invariant

pub returns-in-End : goal.returns-in-End
returns-in-End c = turn_end c.loop-tag.invariant c.field_at.ensures c.in-End.is c.ending.ensures
