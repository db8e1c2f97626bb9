-- Demand 1 is met, whatever the file (specs/Demand1.antt). Assumes nothing.
use Rattle.meaning.proofs.Prelude.{ℕ, ◌<◌, ◌≡◌, sym, ap, ◌∙◌, ◌≢◌, ⊎_elim, ◌⊎◌, inl, inr, ◌↔◌, Bool, not, List, T}
use Rattle.meaning.proofs.Prelude.{leb→le, le→leb, length, dec_lt, arith}
use Rattle.meaning.proofs.Definitions.{Bytes, Answer, refused, accepted, and_then, refuse_if, rules_of, file_answer, encode_sheet, answer_of_sheet}
use Rattle.meaning.proofs.Definitions.{predicate_arities, states_of, interpretation_of, atoms_of, holds, Buffers, long_enough, LongEnough, Analysed}
use Rattle.meaning.proofs.Definitions.{analysis_answer, analysed, AnalysisOf, Written, writing_answer, written_in, WrittenInOrder, without_sheet}
use Rattle.meaning.proofs.Definitions.{Lent, lent_enough, LentEnough, lent_answer, Checked, check_answer, checked, CheckOf, Given, Accepted}
use Rattle.meaning.proofs.Definitions.{GivenAnalysis, GivenWriting, GivenCheck, Demand1}
use Rattle.meaning.proofs.Answers.{zero-accepted}
use Rattle.meaning.proofs.Acceptance.{acceptance_given, refusal-given, acceptable_exact}
use Rattle.meaning.proofs.Certificates.{check-given}
use Rattle.meaning.proofs.Calls.{long-exact, lent_exact, then_refused, unless_refused, analysis-zero, lent_zero, analysis-refused, analysis-filled, analysis_done_lem, writing_done, writing_cases, writing-refused, check_cases, check_untouched, check_done_lem}

module _ (file : List ℕ) where
  -- a number 0 of 1 to 8 says that the file is accepted
  zero-given : ((file_answer file).number ≡ 0) ↔ Accepted file
  zero-given = (
    λ z. (acceptance_given file).0 (zero-accepted file z),
    λ w. ap (λ (a : Answer). a.number) ((acceptance_given file).1 w),
  )

  -- 9 after 1 to 8, for buffers that are long enough as a test and as a fact
  nine_given : {Long : Type 0} (long : Bool)
      → (T long ↔ Long)
      → (n k : ℕ)
      → n ≢ 0
      → (and_then (file_answer file) (refuse_if (not long) 9 0) ≡ refused n k) ↔ (Given file n k ⊎ ((n ≡ 9) × (k ≡ 0) × Accepted file × ¬ Long))
  nine_given long exact n k pos =
      let both = then_refused (file_answer file) (refuse_if (not long) 9 0) n k pos in
      let nine = unless_refused long 9 n k pos in (
        λ e.
            ⊎_elim
            (λ h. inl ((refusal-given file n k pos).0 h))
            (λ h. let w = nine.0 h.1 in inr (w.0, w.1, zero-given.0 h.0, λ l. w.2 (exact.1 l)))
            (both.0 e),
        ⊎_elim
            (λ h. both.1 (inl ((refusal-given file n k pos).1 h)))
            (λ h. both.1 (inr (zero-given.1 h.2, nine.1 (h.0, h.1, λ t. h.3 (exact.0 t))))),
      )

  analysis-given : (before : Buffers) (n k : ℕ) → n ≢ 0 → (analysis_answer file before ≡ refused n k) ↔ GivenAnalysis file before n k
  unfolding analysis_answer
  analysis-given before = nine_given (long_enough file before) (long-exact file before)

  analysis-accepted : (before : Buffers) → ((analysis_answer file before).number ≡ 0) ↔ (Accepted file × LongEnough file before)
  analysis-accepted before = (
    λ z. let w = (analysis-zero file before).0 z in (zero-given.0 w.0, (long-exact file before).0 w.1),
    λ w. (analysis-zero file before).1 (zero-given.1 w.0, (long-exact file before).1 w.1),
  )

  -- a sheet that does not fit its buffer
  short-exact : (sheet needed : List ℕ) → (¬ T (holds sheet needed)) ↔ (length sheet < length needed)
  short-exact sheet needed = (
    λ h. go h (dec_lt (length sheet) (length needed)),
    λ lt t. let le = leb→le (length needed) (length sheet) t in omega arith,
  )
    where
      go : ¬ T (holds sheet needed) → Dec (length sheet < length needed) → length sheet < length needed
      go h (yes lt) = lt
      go h (no ge) = absurd (h (le→leb (length needed) (length sheet) (omega arith)))

  writing-given : (before : Buffers) (sheet : List ℕ) (n k : ℕ) → n ≢ 0 → (writing_answer file before sheet ≡ refused n k) ↔ GivenWriting file before sheet n k
  unfolding writing_answer
  writing-given before sheet n k pos =
      let needed = encode_sheet (states_of file) (atoms_of file) in
      let both = then_refused (analysis_answer file before) (refuse_if (not (holds sheet needed)) 14 0) n k pos in
      let fourteen = unless_refused (holds sheet needed) 14 n k pos in (
        λ e.
            ⊎_elim
            (λ h. inl ((analysis-given before n k pos).0 h))
            (λ h.
            let w = fourteen.0 h.1 in
            let a = (analysis-accepted before).0 h.0 in
            inr (w.0, w.1, a.0, a.1, (short-exact sheet needed).0 w.2))
            (both.0 e),
        ⊎_elim
            (λ h. both.1 (inl ((analysis-given before n k pos).1 h)))
            (λ h. both.1 (inr ((analysis-accepted before).1 (h.2, h.3), fourteen.1 (h.0, h.1, (short-exact sheet needed).1 h.4)))),
      )

  lent_given : (before : Lent) (n k : ℕ)
      → n ≢ 0
      → (lent_answer file before ≡ refused n k) ↔ (Given file n k ⊎ ((n ≡ 9) × (k ≡ 0) × Accepted file × ¬ LentEnough file before))
  unfolding lent_answer
  lent_given before = nine_given (lent_enough file before) (lent_exact file before)

  lent_accepted : (before : Lent) → ((lent_answer file before).number ≡ 0) ↔ (Accepted file × LentEnough file before)
  lent_accepted before = (
    λ z. let w = (lent_zero file before).0 z in (zero-given.0 w.0, (lent_exact file before).0 w.1),
    λ w. (lent_zero file before).1 (zero-given.1 w.0, (lent_exact file before).1 w.1),
  )

  sheet-check-given : (sheet : List ℕ)
      → Bytes sheet
      → (before : Lent) (n k : ℕ)
      → n ≢ 0
      → (check_answer file sheet before ≡ refused n k) ↔ GivenCheck file sheet before n k
  unfolding check_answer
  sheet-check-given sheet bytes before n k pos =
      let both = then_refused (lent_answer file before) (answer_of_sheet (states_of file) (interpretation_of file) (predicate_arities file) (rules_of file).clauses sheet) n k pos in
      let lent = lent_given before n k pos in
      let later = check-given (states_of file) (interpretation_of file) (predicate_arities file) (rules_of file).clauses sheet bytes n k pos in (
        λ e.
            ⊎_elim
            (λ h. ⊎_elim (λ g. inl g) (λ g. inr (inl g)) (lent.0 h))
            (λ h. let a = (lent_accepted before).0 h.0 in inr (inr (a.0, a.1, later.0 h.1)))
            (both.0 e),
        ⊎_elim
            (λ g. both.1 (inl (lent.1 (inl g))))
            (⊎_elim
            (λ g. both.1 (inl (lent.1 (inr g))))
            (λ g. both.1 (inr ((lent_accepted before).1 (g.0, g.1), later.1 g.2)))),
      )

  -- the answers of the calls
  analysis-answer : {before : Buffers} {result : Analysed} → AnalysisOf file before result → result.answer ≡ analysis_answer file before
  unfolding analysed
  analysis-answer w = ap (λ (a : Analysed). a.answer) w.is

  writing-answer : {before : Buffers} {sheet : List ℕ} {result : Written} → WrittenInOrder file before sheet result → result.answer ≡ writing_answer file before sheet
  unfolding written_in
  writing-answer w = ap (λ (a : Written). a.answer) w.is

  check-answer : {sheet : List ℕ} {before : Lent} {result : Checked} → CheckOf file sheet before result → result.answer ≡ check_answer file sheet before
  unfolding checked
  check-answer w = ap (λ (a : Checked). a.answer) w.is

  -- an equation moved along the answer of a call
  along : {G : Type 0} {a b : Answer} {n k : ℕ} → a ≡ b → ((b ≡ refused n k) ↔ G) → (a ≡ refused n k) ↔ G
  along e g = (λ h. g.0 (sym e ∙ h), λ h. e ∙ g.1 h)

  number_along : {a b : Answer} → a ≡ b → a.number ≡ b.number
  number_along e = ap (λ (a : Answer). a.number) e

-- with 0 the file is accepted
pub accepted-analysis : (file : List ℕ) {before : Buffers} {result : Analysed}
    → AnalysisOf file before result
    → result.answer.number ≡ 0
    → file_answer file ≡ accepted
accepted-analysis file {before} {result} w z =
    (acceptance_given file).1 ((analysis-accepted file before).0 (sym (number_along file (analysis-answer file w)) ∙ z)).0

pub demand_1 : (file : List ℕ) → Demand1 file
unfolding analysed written_in checked
demand_1 file =
    record {
      accepts =
          λ bytes {before} {result} w.
          let e = number_along file (analysis-answer file w) in
          let exact = acceptable_exact file bytes in (
            λ z. let a = (analysis-accepted file before).0 (sym e ∙ z) in (exact.0 ((acceptance_given file).1 a.0), a.1),
            λ a. e ∙ (analysis-accepted file before).1 ((acceptance_given file).0 (exact.1 a.0), a.1),
          );
      fills = λ {before} {result} w z. w.is ∙ analysis_done_lem file before (sym (number_along file (analysis-answer file w)) ∙ z);
      writes = λ {before} {sheet} {result} w z. ap without_sheet w.is ∙ writing_done w.order file before sheet (sym (number_along file (writing-answer file w)) ∙ z);
      analysis_refuses = λ {before} {result} w n k pos. along file (analysis-answer file w) (analysis-given file before n k pos);
      writing_refuses = λ {before} {sheet} {result} w n k pos. along file (writing-answer file w) (writing-given file before sheet n k pos);
      check_refuses = λ sheet bytes {before} {result} w n k pos. along file (check-answer file w) (sheet-check-given file sheet bytes before n k pos);
      analysis_leaves =
          λ {before} {result} w h.
          let l = analysis-refused file before (λ z. h (number_along file (analysis-answer file w) ∙ z)) in (
            ap (λ (a : Analysed). a.after) w.is ∙ l.0,
            ap (λ (a : Analysed). a.states) w.is ∙ l.1,
            ap (λ (a : Analysed). a.atoms) w.is ∙ l.2,
            ap (λ (a : Analysed). a.rounds) w.is ∙ l.3,
          );
      writing_leaves =
          λ {before} {sheet} {result} w h.
          let e = number_along file (writing-answer file w) in
          let h' : (writing_answer file before sheet).number ≢ 0 = λ z. h (e ∙ z) in
          let l = writing-refused w.order file before sheet h' in
          let after = ap (λ (a : Written). a.after) w.is ∙ l.1 in (
            ap (λ (a : Written). a.sheet) w.is ∙ l.0,
            λ k.
                ⊎_elim
                (λ c. after ∙ (analysis-filled file before c.1).0)
                (λ c. absurd (c.0 (sym e ∙ k)))
                (writing_cases file before sheet h'),
            λ k.
                ⊎_elim
                (λ c. absurd (k (e ∙ c.0)))
                (λ c. after ∙ (analysis-refused file before c.1).0)
                (writing_cases file before sheet h'),
            ap (λ (a : Written). a.states) w.is ∙ l.2,
            ap (λ (a : Written). a.atoms) w.is ∙ l.3,
            ap (λ (a : Written). a.rounds) w.is ∙ l.4,
            ap (λ (a : Written). a.bytes) w.is ∙ l.5,
          );
      check_leaves =
          λ {sheet} {before} {result} w.
          let e = number_along file (check-answer file w) in
          let after = ap (λ (a : Checked). a.after) w.is in (
            λ pos small.
                ⊎_elim
                (λ c. after ∙ check_untouched file sheet before c.0)
                (λ c. absurd (⊎_elim (λ z. let q : result.answer.number ≡ 0 = e ∙ z in omega arith) (λ z. omega (arith, e, z)) c.1))
                (check_cases file sheet before),
            λ k.
                ⊎_elim
                (λ c. let low = c.1 in let high = c.2 in absurd (⊎_elim (λ z. omega (arith, e, z)) (λ z. omega (arith, e, z)) k))
                (λ c. after ∙ check_done_lem file sheet before c.0)
                (check_cases file sheet before),
          );
    }
