-- The refusals of a rule file (01, "What is handed back"): each a test named after its row, over a field and the fields before it.
use Rattle.std.specs.Prelude.{ℕ, Bool, true, false, cond, not, ◌||◌, List, [], ◌∷◌, map, eqb, leb, ltb, length, get_or, drop}
use Rattle.std.proofs.Math.Option.{Option, none, some}
use Rattle.meaning.specs.Lists.{any_of, same}
use Rattle.meaning.specs.Limits.{Kind, symbol, type, production, predicate, clause, query, tag_of, most_of, most_symbol_arity, most_predicate_arity, most_content}
use Rattle.meaning.specs.Fields.{Field, whole, cut, contents_of, first_field}
use Rattle.meaning.specs.Contents.{is_some, is_name, is_named, is_production, read_clause, read_query}

-- a number with its place, as a call hands them back
pub record Answer : Type 0 where
  pub number : ℕ
  pub place : ℕ

abbrev pub refused : ℕ → ℕ → Answer
refused number place = record { number = number; place = place }

-- 0, place 0
abbrev pub accepted : Answer
accepted = refused 0 0

-- no refusal
abbrev pub ok : Answer → Bool
ok a = eqb a.number 0

-- the first of two answers that is a refusal
abbrev pub and_then : Answer → Answer → Answer
and_then a b = cond (ok a) b a

abbrev pub refuse_if : Bool → ℕ → ℕ → Answer
refuse_if test number place = cond test (refused number place) accepted

-- the kind of a tag
abbrev pub kind_of : ℕ → Option Kind
kind_of tag =
    cond (eqb tag 1) (some symbol) (cond (eqb tag 2) (some type) (cond (eqb tag 3) (some production)
    (cond (eqb tag 4) (some predicate) (cond (eqb tag 5) (some clause) (cond (eqb tag 6) (some query) none)))))

abbrev pub test_kind : Option Kind → (Kind → Bool) → Bool
test_kind none test = false
test_kind (some k) test = test k

abbrev pub contents : Kind → List Field → List (List ℕ)
contents k fs = contents_of (tag_of k) fs

abbrev pub first_byte : List ℕ → ℕ
first_byte content = get_or content 0 0

-- the arities of the symbols or of the predicates
abbrev pub arities_in : Kind → List Field → List ℕ
arities_in k fs = map first_byte (contents k fs)

abbrev pub types_in : List Field → ℕ
types_in fs = length (contents type fs)

-- the names in some contents of a kind; a production, a clause and a query have none
abbrev pub names_in : Kind → List (List ℕ) → List (List ℕ)
names_in symbol cs = map (drop 1) cs
names_in type cs = cs
names_in production cs = []
names_in predicate cs = map (drop 1) cs
names_in clause cs = []
names_in query cs = []

-- the content is as laid out, its length aside, for so many declared types and for these arities of symbols and predicates
abbrev pub laid_out : ℕ → List ℕ → List ℕ → Kind → List ℕ → Bool
laid_out types arities preds symbol content = is_named most_symbol_arity content
laid_out types arities preds type content = is_name content
laid_out types arities preds production content = is_production types arities content
laid_out types arities preds predicate content = is_named most_predicate_arity content
laid_out types arities preds clause content = is_some (read_clause arities preds content)
laid_out types arities preds query content = is_some (read_query types arities preds content)

abbrev pub laid_out_after : List Field → Kind → List ℕ → Bool
laid_out_after before k content = laid_out (types_in before) (arities_in symbol before) (arities_in predicate before) k content

-- the tag of the last field, 0 if there is none
abbrev pub last_tag : List Field → ℕ
last_tag [] = 0
last_tag (cut ∷ []) = 0
last_tag (whole tag content ∷ []) = tag
last_tag (f ∷ g ∷ fs) = last_tag (g ∷ fs)

-- 2: under 3 bytes left, or the length passes the end
abbrev pub is_cut : Field → Bool
is_cut cut = true
is_cut (whole tag content) = false

-- 3: tag not 1 to 6, or below the one before
abbrev pub wrong_tag : List Field → Field → Bool
wrong_tag before cut = false
wrong_tag before (whole tag content) = not (is_some (kind_of tag)) || ltb tag (last_tag before)

-- 6: one more than the most of its kind
abbrev pub too_many : List Field → Field → Bool
too_many before cut = false
too_many before (whole tag content) = test_kind (kind_of tag) (λ k. leb (most_of k) (length (contents k before)))

-- 4: content isn't as laid out
abbrev pub malformed : List Field → Field → Bool
malformed before cut = false
malformed before (whole tag content) =
    test_kind (kind_of tag) (λ k. ltb most_content (length content) || not (laid_out_after before k content))

-- 5: name already used in its kind
abbrev pub name_taken : List Field → Field → Bool
name_taken before cut = false
name_taken before (whole tag content) =
    test_kind (kind_of tag) (λ k. any_of (λ name. any_of (same name) (names_in k (contents k before))) (names_in k (content ∷ [])))

-- the number with which a field is refused, by 2, 3, 6, 4, 5; 0 if none fits
unfoldable pub refusal : List Field → Field → ℕ
refusal before f =
    cond (is_cut f) 2 (cond (wrong_tag before f) 3 (cond (too_many before f) 6 (cond (malformed before f) 4
    (cond (name_taken before f) 5 0))))

-- the lowest field that is refused
abbrev pub is_refused : List Field → Field → Bool
is_refused before f = not (eqb (refusal before f) 0)

unfoldable pub first_refused : List Field → Option ℕ
first_refused fs = first_field is_refused fs

-- 7: no symbol of arity 0
abbrev pub no_constant : List ℕ → Bool
no_constant arities = not (any_of (λ n. eqb n 0) arities)
