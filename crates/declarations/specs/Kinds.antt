-- The kinds of fields as `meaning` has them.
use Rattle.std.specs.Prelude.{ℕ, ◌≡◌, Result, MatchResult}
use Rattle.std.proofs.Math.Option.{none, some}
use Rattle.meaning.specs.Limits as meant_limits
use Rattle.meaning.specs.Refusals.{kind_of}
use Rattle.declarations.specs.declared.Kind.{Kind}
use Rattle.declarations.specs.declared.Kind.TheVariants as K
use Rattle.declarations.specs.declared.UnknownTag.{UnknownTag}

abbrev pub meant : Kind → meant_limits.Kind
meant K.Symbol = meant_limits.symbol
meant K.Type = meant_limits.type
meant K.Production = meant_limits.production
meant K.Predicate = meant_limits.predicate
meant K.Clause = meant_limits.clause
meant K.Query = meant_limits.query

-- the kind of a tag, or an error with a tag that has none
abbrev pub Decodes : ℕ → Result Kind UnknownTag → Type 0
Decodes tag r = MatchResult r (λ kind. kind_of tag ≡ some (meant kind)) (λ e. (e.0 ≡ tag) × (kind_of tag ≡ none))
