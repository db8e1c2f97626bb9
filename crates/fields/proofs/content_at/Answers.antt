-- `fields::content_at` meets its contract: each way out is one case of what stands at a position. Assumes nothing.
use Rattle.meaning.proofs.Prelude.{◌∙◌}
use Rattle.fields.proofs.Nth.{whole-at}
use Rattle.fields.proofs.content_at.Goals as goal

pub returns : goal.returns
returns c = let w = whole-at c.args.s.now c.args.at c.field_at.ensures c.in-Whole.is in
    let e = c.content.ensures in
    record { result_value = e.0 ∙ w.content; ref_ptr_value = λ h. (e.1, e.2) }

pub content-requires : goal.content-requires
content-requires c = (whole-at c.args.s.now c.args.at c.field_at.ensures c.in-Whole.is).inside
