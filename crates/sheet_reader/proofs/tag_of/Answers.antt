-- `sheet_reader::tag_of` meets its contract: each way out is a case of what stands at a position. Assumes nothing.
use Rattle.meaning.proofs.Prelude.{sym, ap, ◌∙◌, drop, ⊎_elim}
use Rattle.meaning.specs.Fields.{front_of}
use Rattle.fields.proofs.Fronts.{found-whole, found-cut, found-end}
use Rattle.sheet_reader.specs.Tags.{tag_in}
use Rattle.sheet_reader.proofs.tag_of.Goals as goal

pub returns-in-Whole : goal.returns-in-Whole
returns-in-Whole c = let a = c.args in
    sym (ap tag_in (found-whole (front_of (drop a.at a.bytes.now)) c.in-Whole.tag c.in-Whole.field-1 (sym c.in-Whole.is ∙ c.field_of.ensures)).2)

pub returns-in-Cut : goal.returns-in-Cut
returns-in-Cut c =
    let here = front_of (drop c.args.at c.args.bytes.now) in
    ⊎_elim
    (λ is. sym (ap tag_in (found-cut here (sym is ∙ c.field_of.ensures))))
    (λ is. sym (ap tag_in (found-end here (sym is ∙ c.field_of.ensures))))
    c.in-Cut.is
