-- The goals that are not found.
use Rattle.meaning.proofs.Prelude.{ℕ, ◌≡◌, sym, ap, ◌∙◌, List, [], ◌∷◌, ◌++◌, append-nil, append_assoc, take}
use Rattle.states.proofs.Putting.{answer-packed, put_passed, put_over}
use Rattle.states.proofs.Packed.{length_held, packed_holds, is_many}
use Rattle.states.proofs.States.put_all.Goals as goal

pub loop-set-init : goal.loop-set-init
loop-set-init c = let pre = c.requires in
    let self = c.args.self in
    let all : c.into_iter-set-iterator.result.iter.rest.now ≡ c.args.new.now = cc (c.iter.ensures.rest, c.rev-set-items.ensures.source) in
    ([], sym (append-nil _ ∙ all), answer-packed self.count self.sets (take self.count self.sets) (sym (length_held pre)) pre.few pre.padding)

pub put-requires : goal.put-requires
put-requires c = packed_holds _ c.loop-set.invariant.2

pub loop-set-preserved : goal.loop-set-preserved
loop-set-preserved c = let known = c.loop-set.invariant in
    let x = c.in-Some.field-0.now in (
      x ∷ known.0,
      known.1 ∙ ap (λ (l : List ℕ). l ++ known.0) c.in-Some.ensures.steps ∙ append_assoc c.next.new.self.iter.rest.now (x ∷ []) known.0,
      put_passed _ x known.0 known.2 c.in_ok-known.ensures,
    )

pub returns-in_err-known : goal.returns-in_err-known
returns-in_err-known c = let known = c.loop-set.invariant in
    let x = c.in-Some.field-0.now in
    let many = c.in_err-known.field-0.0 in
    let rest = c.next.new.self.iter.rest.now in
    let split = known.1 ∙ ap (λ (l : List ℕ). l ++ known.0) c.in-Some.ensures.steps ∙ append_assoc rest (x ∷ []) known.0 in
    is_many many c.from_residual.ensures.0 ∙ put_over _ x known.0 known.2 rest split c.in_err-known.ensures many
