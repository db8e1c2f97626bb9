-- What reading keeps of some fields: how many of each kind, where each kind starts, the arities; and the fields that were read.
use Rattle.std.specs.Prelude.{ℕ, ◌+◌, ◌≡◌, cond, List, [], ◌∷◌, eqb, ltb, length, take}
use Rattle.std.proofs.Math.Option.{Option, none, some}
use Rattle.meaning.specs.Lists.{table, padded}
use Rattle.meaning.specs.Limits.{symbol, predicate, most_of, most_file_bytes}
use Rattle.meaning.specs.Fields.{Field, whole, cut, fields, contents_of}
use Rattle.meaning.specs.Refusals.{arities_in, first_refused}
use Rattle.declarations.specs.declared.Known.{Known}

-- the number of tags, with 0
abbrev pub tags : ℕ
tags = 7

abbrev pub counts_of : List Field → List ℕ
counts_of fs = table tags (λ t. length (contents_of t fs))

-- where the first field with a tag starts, if the first field of all starts at a position; 0 if there is none
abbrev pub first_at : ℕ → ℕ → List Field → ℕ
first_at tag at [] = 0
first_at tag at (cut ∷ fs) = 0
first_at tag at (whole t content ∷ fs) = cond (eqb t tag) at (first_at tag (at + (3 + length content)) fs)

abbrev pub starts_of : List Field → List ℕ
starts_of fs = table tags (λ t. first_at t 0 fs)

pub record Knows (known : Known) (fs : List Field) : Type 0 where
  pub counts : known.counts ≡ counts_of fs
  pub starts : known.starts ≡ starts_of fs
  pub symbols : known.symbols ≡ padded (most_of symbol) (arities_in symbol fs)
  pub predicates : known.predicates ≡ padded (most_of predicate) (arities_in predicate fs)

-- the fields before the first that is refused; none of a file that is too long
abbrev pub before : List Field → Option ℕ → List Field
before fs none = fs
before fs (some k) = take k fs

unfoldable pub fields_read : List ℕ → List Field
fields_read file = cond (ltb most_file_bytes (length file)) [] (before (fields file) (first_refused (fields file)))
