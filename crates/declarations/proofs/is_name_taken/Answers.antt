-- `declarations::is_name_taken` meets its contract: of a type the whole content is the name. Assumes nothing.
use Rattle.meaning.proofs.Prelude.{ℕ, sym, ap, ◌∙◌, List, map-id, or-false}
use Rattle.meaning.specs.Lists.{any_of, same}
use Rattle.fields.specs.Found.{contents_from}
use Rattle.meaning.proofs.Prelude.{drop}
use Rattle.declarations.specs.Tests.{taken_in}
use Rattle.declarations.specs.Kinds.{meant}
use Rattle.declarations.specs.declared.Kind.{Kind}
use Rattle.meaning.specs.Limits.{tag_of}
use Rattle.declarations.proofs.is_name_taken.Goals as goal

pub returns-in-Type : goal.returns-in-Type
returns-in-Type c = let a = c.args in
    let earlier : List (List ℕ) = contents_from a.earlier.now.count (drop a.earlier.now.from a.earlier.now.bytes.now) in
    c.is_named_before-in-Type.ensures
    ∙ (ap (any_of (same a.content.now)) (map-id earlier)
    ∙ (sym (or-false _)
    ∙ ap (λ (kind : Kind). taken_in (tag_of (meant kind)) earlier a.content.now) (sym c.in-Type.is)))
