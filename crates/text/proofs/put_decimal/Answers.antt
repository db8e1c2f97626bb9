-- The goals that are not found.
use Rattle.meaning.proofs.Prelude.{ap, ◌∙◌, arith}
use Rattle.byte_runs.specs.Pasted.{pasted}
use Rattle.text.proofs.Turns.{digits_all, digits_next, digits_done}
use Rattle.text.proofs.put_decimal.Goals as goal

pub loop-i-init : goal.loop-i-init
loop-i-init c = let a = c.args in
    let k = c.decimal_length in
    (omega arith, ap (pasted a.out.now a.at) (digits_all a.at k.result a.n k.ensures))

pub loop-i-preserved : goal.loop-i-preserved
loop-i-preserved c = let l = c.loop-i in
    (omega arith, digits_next l.out c.args.at l.i l.rest (omega arith) (omega arith) ∙ l.invariant.1)

pub returns : goal.returns
returns c = let l = c.loop-i in (digits_done l.out c.args.at l.i l.rest (omega arith) ∙ l.invariant.1, omega arith)
