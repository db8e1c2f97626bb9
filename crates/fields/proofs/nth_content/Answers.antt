-- The goals that are not found.
use Rattle.meaning.proofs.Prelude.{ℕ, ◌+◌, ◌-◌, sym, ap, ◌∙◌, drop, arith}
use Rattle.fields.specs.Found.{nth_in}
use Rattle.fields.proofs.Nth.{nth_next}
use Rattle.fields.proofs.nth_content.Goals as goal

pub loop-preserved : goal.loop-preserved
loop-preserved c = let l = c.loop in
    let s = c.args.s.now in
    let k = c.args.k in
    ap (λ (at : ℕ). nth_in (k - (l.counter + 1)) (drop at s)) c.next_at-at.ensures
    ∙ (sym (nth_next s l.at (k - l.counter) (k - (l.counter + 1)) (omega arith)) ∙ l.invariant)
