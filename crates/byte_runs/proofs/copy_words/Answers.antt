-- The goals that are not found.
use Rattle.meaning.proofs.Prelude.{ℕ, ap, ◌∙◌, List, get_or, set, arith}
use Rattle.byte_runs.proofs.Written.{front-next, front_all}
use Rattle.byte_runs.proofs.copy_words.Goals as goal

pub loop-i-preserved : goal.loop-i-preserved
loop-i-preserved c = let a = c.args in
    let loop = c.loop-i in
    ap (λ (l : List ℕ). set l loop.i (get_or a.from.now loop.i 0)) loop.invariant ∙ front-next a.from.now a.to.now loop.i (omega arith) (omega arith)

pub returns : goal.returns
returns c = c.loop-i.invariant ∙ front_all c.args.from.now c.args.to.now c.loop-i.i (omega arith)
