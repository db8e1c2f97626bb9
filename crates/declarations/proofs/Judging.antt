-- The number of a field by what is known of the fields before it: the tests of this crate are those of the meaning, and each way out of `judge_field`
-- gives the number of the first that passes. Assumes nothing.
use Rattle.meaning.proofs.Prelude.{ℕ, ◌≤◌, ◌<◌, ◌≡◌, refl, sym, ap, ◌∙◌, ap₂, cond, Bool, true, false, not, ◌||◌, Option, none, some, List, [], ◌∷◌}
use Rattle.meaning.proofs.Prelude.{ltb, lit<, leb, le-leb, lt-leb, length, get_or, drop}
use Rattle.meaning.proofs.Definitions.{any_of, same, Kind, tag_of, most_of, most_content, Field, whole, contents_of, is_some, Answer, accepted, refused}
use Rattle.meaning.proofs.Definitions.{kind_of, test_kind, contents, names_in, laid_out, laid_out_after, last_tag, refusal}
use Rattle.meaning.proofs.Contents.{Post, post_at}
use Rattle.meaning.proofs.ByKind.{kind_tag, tag_range}
use Rattle.std.proofs.Common.{Bor}
use Rattle.fields.specs.Found.{contents_from}
use Rattle.fields.specs.declared.Section.{Section}
use Rattle.declarations.proofs.Knowing.{count_of, start_of, known_symbols_lem, known_predicates_lem}
use Rattle.declarations.specs.declared.Known.{Known}
use Rattle.declarations.specs.Tests.{wrong_tag_after, taken_in, known_types, known_symbols, known_predicates, earlier_in, is_full, is_malformed, is_taken, field_answer, Stands}

-- 3, 6, 4 or 5 by the first test that passes, 0 if none does
first : Bool → Bool → Bool → Bool → ℕ
first wrong more bad taken = cond wrong 3 (cond more 6 (cond bad 4 (cond taken 5 0)))

module _ (file : List ℕ) (known : Known) (last : ℕ) (done : List Field) (s : Stands file known last done) where
  -- what is kept is what the fields before say
  count_known_lem : (t : ℕ) → t < 7 → get_or known.counts t 0 ≡ length (contents_of t done)
  count_known_lem = count_of known done s.knows

  earlier_known : (t : ℕ) → t < 7 → earlier_in file known t ≡ contents_of t done
  earlier_known t lt =
      ap₂ (λ (n i : ℕ). contents_from n (drop i file)) (count_known_lem t lt) (start_of known done s.knows t lt) ∙ s.found t

  module _ (tag : ℕ) (content : List ℕ) where
    refusal_known : refusal done (whole tag content)
        ≡ first (wrong_tag_after tag last) (is_full known tag) (is_malformed known tag content) (is_taken file known tag content)
    unfolding refusal first
    refusal_known = go (kind_of tag) (kind_tag tag)
      where
        long : Bool
        long = ltb most_content (length content)

        go : (o : Option Kind)
            → Post (λ (k : Kind). tag ≡ tag_of k) o
            → cond (not (is_some o) || ltb tag (last_tag done)) 3
            (cond (test_kind o (λ k. leb (most_of k) (length (contents k done)))) 6
            (cond (test_kind o (λ k. long || not (laid_out_after done k content))) 4
            (cond (test_kind o (λ k. any_of (λ name. any_of (same name) (names_in k (contents k done))) (names_in k (content ∷ [])))) 5 0)))
            ≡ first (not (is_some o) || ltb tag last) (test_kind o (λ k. leb (most_of k) (get_or known.counts tag 0)))
            (long || not (test_kind o (λ k. laid_out (known_types known) (known_symbols known) (known_predicates known) k content)))
            (test_kind o (λ k. any_of (λ name. any_of (same name) (names_in k (earlier_in file known tag))) (names_in k (content ∷ []))))
        go none p = refl
        go (some k) p = rw (p, s.tag, earlier_known (tag_of k) (tag_range k).1, known_symbols_lem known done s.knows, known_predicates_lem known done s.knows, count_known_lem 2 (lit< tt), count_known_lem (tag_of k) (tag_range k).1)

-- an answer that is the number of a field, whatever the fields before it are
abbrev pub Judged : List ℕ → Known → ℕ → ℕ → List ℕ → ℕ → Answer → Type 0
Judged file known last tag content k answer =
    (done : List Field) → Stands file known last done → answer ≡ field_answer k (refusal done (whole tag content))

-- a tag that has a kind is the kind's
pub at_kind : {tag : ℕ} {kind : Kind} → kind_of tag ≡ some kind → tag ≡ tag_of kind
at_kind {tag} e = post_at (λ (kind : Kind). tag ≡ tag_of kind) e (kind_tag tag)

-- the ways out of `judge_field`, each with what the calls before it gave
module _ (file : Bor (List ℕ)) (known : Known) (last tag : ℕ) (content : List ℕ) (k : ℕ) where
  judged : (n : ℕ)
      → first (wrong_tag_after tag last) (is_full known tag) (is_malformed known tag content) (is_taken file.now known tag content) ≡ n
      → Judged file.now known last tag content k (field_answer k n)
  judged n e done s = sym (ap (field_answer k) (refusal_known file.now known last done s tag content ∙ e))

  pub wrong_tag_lem : wrong_tag_after tag last ≡ true → Judged file.now known last tag content k (refused 3 k)
  unfolding first
  wrong_tag_lem e = judged 3 (rw e)

  module _ {kind : Kind} (right : (wrong_tag_after tag last ≡ false) × (kind_of tag ≡ some kind)) {most : ℕ} (limit : most ≡ most_of kind) {earlier : Section} (found : (earlier.bytes ≡ file) × (earlier.from ≡ get_or known.starts (tag_of kind) 0) × (earlier.count ≡ get_or known.counts (tag_of kind) 0)) where
    same_tag : tag ≡ tag_of kind
    same_tag = at_kind right.1

    full-is : is_full known tag ≡ leb most earlier.count
    full-is =
        ap₂ (λ (o : Option Kind) (t : ℕ). test_kind o (λ g. leb (most_of g) (get_or known.counts t 0))) right.1 same_tag
        ∙ sym (ap₂ leb limit found.2)

    pub too_many_lem : most ≤ earlier.count → Judged file.now known last tag content k (refused 6 k)
    unfolding first
    too_many_lem h = judged 6 (rw (right.0, full-is, le-leb most earlier.count h))

    module _ (room : earlier.count < most) {bad : Bool} (looked : bad ≡ is_malformed known (tag_of kind) content) where
      malformed-is : is_malformed known tag content ≡ bad
      malformed-is = ap (λ (t : ℕ). is_malformed known t content) same_tag ∙ sym looked

      pub malformed_lem : bad ≡ true → Judged file.now known last tag content k (refused 4 k)
      unfolding first
      malformed_lem e = judged 4 (rw (right.0, full-is, lt-leb most earlier.count room, malformed-is, e))

      module _ (well : bad ≡ false) {taken : Bool} (compared : taken ≡ taken_in (tag_of kind) (contents_from earlier.count (drop earlier.from earlier.bytes.now)) content) where
        taken-is : is_taken file.now known tag content ≡ taken
        taken-is = ap (λ (t : ℕ). is_taken file.now known t content) same_tag ∙ sym (rw (compared, found.0, found.1, found.2))

        pub name_taken_lem : taken ≡ true → Judged file.now known last tag content k (refused 5 k)
        unfolding first
        name_taken_lem e = judged 5 (rw (right.0, full-is, lt-leb most earlier.count room, malformed-is, well, taken-is, e))

        pub fine : taken ≡ false → Judged file.now known last tag content k accepted
        unfolding first
        fine e = judged 0 (rw (right.0, full-is, lt-leb most earlier.count room, malformed-is, well, taken-is, e))
