-- The goals that are not found.
use Rattle.meaning.proofs.Prelude.{◌+◌, ap, ◌∙◌}
use Rattle.text.proofs.Decimal.{length_power}
use Rattle.text.proofs.decimal_length.Goals as goal

pub returns : goal.returns
returns c =
    let e = c.checked_ilog10.ensures in
    ap (λ k. k + 1) c.unwrap_or.ensures ∙ length_power c.args.n c.checked_ilog10.result e.none e.power_le e.next_power_gt
