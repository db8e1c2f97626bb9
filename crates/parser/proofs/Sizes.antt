-- Reading by the size of the file: 1 first, then the fields. Assumes nothing.
use Rattle.meaning.proofs.Prelude.{ℕ, ◌≤◌, ◌<◌, ◌≡◌, sym, ap, ◌∙◌, subst, Bool, List, [], ltb, lt→ltb, length}
use lib.Arith.{le→nltb}
use Rattle.meaning.proofs.Definitions.{most_file_bytes, fields, Answer, refused, and_then, first_refused, answer_at, read_answer}
use Rattle.meaning.proofs.Lists.{cond_yes, cond_no}
use Rattle.meaning.proofs.Answers.{if_yes, if_no}
use Rattle.declarations.specs.declared.Known.{Known}
use Rattle.declarations.specs.Known.{Knows, before, fields_read}
use Rattle.parser.specs.Read.{Outcome}

module _ (file : List ℕ) (known : Known) where
  after : Answer
  after = answer_at (fields file) (first_refused (fields file))

  pub too_long : most_file_bytes < length file → Knows known [] → (refused 1 0 ≡ read_answer file) × Knows known (fields_read file)
  unfolding read_answer fields_read after
  too_long h knows =
      let long : Bool = ltb most_file_bytes (length file) in
      let t = lt→ltb most_file_bytes (length file) h in (
        sym (ap (λ (a : Answer). and_then a after) (if_yes long 1 0 t)),
        subst (Knows known) (sym (cond_yes long [] (before (fields file) (first_refused (fields file))) t)) knows,
      )

  pub not-long : length file ≤ most_file_bytes → (answer : Answer) → Outcome file answer known → (answer ≡ read_answer file) × Knows known (fields_read file)
  unfolding read_answer fields_read after
  not-long h answer w =
      let long : Bool = ltb most_file_bytes (length file) in
      let t = le→nltb most_file_bytes (length file) h in (
        w.0 ∙ sym (ap (λ (a : Answer). and_then a after) (if_no long 1 0 t)),
        subst (Knows known) (sym (cond_no long [] (before (fields file) (first_refused (fields file))) t)) w.1,
      )
