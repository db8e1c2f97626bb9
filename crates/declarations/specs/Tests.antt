-- The tests of a field over what reading keeps, as the functions of this crate make them; laws tie them to meaning's.
use Rattle.std.specs.Prelude.{ℕ, ◌≤◌, ◌≡◌, Bool, cond, not, ◌||◌, List, [], ◌∷◌, eqb, leb, ltb, length, get_or, take, drop}
use Rattle.meaning.specs.Lists.{any_of, same}
use Rattle.meaning.specs.Limits.{most_of, most_content}
use Rattle.meaning.specs.Fields.{Field, contents_of}
use Rattle.meaning.specs.Contents.{is_some}
use Rattle.meaning.specs.Refusals.{Answer, refused, accepted, kind_of, test_kind, names_in, laid_out, last_tag}
use Rattle.fields.specs.Found.{contents_from}
use Rattle.declarations.specs.Known.{Knows, first_at}
use Rattle.declarations.specs.declared.Known.{Known}

abbrev pub wrong_tag_after : ℕ → ℕ → Bool
wrong_tag_after tag last = not (is_some (kind_of tag)) || ltb tag last

-- as many fields of its kind as there may be
abbrev pub full : ℕ → ℕ → Bool
full tag count = test_kind (kind_of tag) (λ k. leb (most_of k) count)

abbrev pub laid_out_by : ℕ → List ℕ → List ℕ → ℕ → List ℕ → Bool
laid_out_by types arities preds tag content = test_kind (kind_of tag) (λ k. laid_out types arities preds k content)

-- the declarations that are known
abbrev pub known_types : Known → ℕ
known_types known = get_or known.counts 2 0

abbrev pub known_symbols : Known → List ℕ
known_symbols known = take (get_or known.counts 1 0) known.symbols

abbrev pub known_predicates : Known → List ℕ
known_predicates known = take (get_or known.counts 4 0) known.predicates

-- the name in a content stands in one of the earlier contents of its kind
abbrev pub taken_in : ℕ → List (List ℕ) → List ℕ → Bool
taken_in tag earlier content = test_kind (kind_of tag) (λ k. any_of (λ name. any_of (same name) (names_in k earlier)) (names_in k (content ∷ [])))

-- the contents of a tag, found where they start
abbrev pub earlier_in : List ℕ → Known → ℕ → List (List ℕ)
earlier_in file known tag = contents_from (get_or known.counts tag 0) (drop (get_or known.starts tag 0) file)

-- the tests by what is known
abbrev pub is_full : Known → ℕ → Bool
is_full known tag = full tag (get_or known.counts tag 0)

abbrev pub is_laid : Known → ℕ → List ℕ → Bool
is_laid known tag content = laid_out_by (known_types known) (known_symbols known) (known_predicates known) tag content

-- over 250 bytes, or not as laid out
abbrev pub is_malformed : Known → ℕ → List ℕ → Bool
is_malformed known tag content = ltb most_content (length content) || not (is_laid known tag content)

abbrev pub is_taken : List ℕ → Known → ℕ → List ℕ → Bool
is_taken file known tag content = taken_in tag (earlier_in file known tag) content

-- a refusal of field k by a number, none by 0
abbrev pub field_answer : ℕ → ℕ → Answer
field_answer k n = cond (eqb n 0) accepted (refused n k)

-- what reading knows of the fields before a field, and where it finds their contents
pub record Stands (file : List ℕ) (known : Known) (last : ℕ) (done : List Field) : Type 0 where
  pub knows : Knows known done
  pub tag : last_tag done ≡ last
  pub found : (t : ℕ) → contents_from (length (contents_of t done)) (drop (first_at t 0 done) file) ≡ contents_of t done

-- the counts are within the arrays, which are as long as their types say
abbrev pub CountsFit : Known → Type 0
CountsFit known =
    (get_or known.counts 1 0 ≤ 24) × (get_or known.counts 4 0 ≤ 16) × (length known.symbols ≡ 24) × (length known.predicates ≡ 16)
