-- The public calls: when each hands back 0, when each of 9 to 14, and what the buffers and counts are then. Assumes nothing.
use Rattle.meaning.proofs.Prelude.{ℕ, ◌≤◌, ◌<◌, ◌≡◌, refl, sym, ap, ◌∙◌, subst, ◌≢◌, ⊎_elim, ◌⊎◌, inl, inr, ◌↔◌, Bool, true, false, not}
use Rattle.meaning.proofs.Prelude.{◌&&◌, List, T, leb→le, eqb, eqb→eq, le→leb, length, length-map, ℕ_discrete, arith}
use Rattle.meaning.proofs.Definitions.{cells, Answer, refused, accepted, ok, and_then, refuse_if, file_answer, rules_of, model, encode_sheet}
use Rattle.meaning.proofs.Definitions.{answer_of_sheet, states_of, step_of, interpretation_of, symbol_arities, predicate_arities, tables_of, model_of}
use Rattle.meaning.proofs.Definitions.{rounds_of, atoms_of, verdict_of, verdicts_of, holds, filled, Buffers, long_enough, LongEnough, analysis_done}
use Rattle.meaning.proofs.Definitions.{Lent, lent_enough, LentEnough, analysis_answer, analysed, writing_answer, written_in, without_sheet}
use Rattle.meaning.proofs.Definitions.{lent_answer, check_answer, check_done, checked}
use Rattle.meaning.proofs.Lists.{decide, clash, both, both_of, cond_yes, cond_no, not_intro, not-not_intro}
use Rattle.meaning.proofs.Answers.{then_next, then_first, if_no, file_number}
use Rattle.meaning.proofs.Certificates.{check-number}
use Rattle.meaning.proofs.States.{length-tables}
use Rattle.meaning.proofs.Stages.{length-stage}

-- the needed lengths: a byte for each table cell, each domain atom and each query
pub tables-length : (file : List ℕ) → length (tables_of file) ≡ cells (length (states_of file)) (symbol_arities file)
unfolding tables_of
tables-length file = length-tables (step_of file) (states_of file) (symbol_arities file)

pub marks-length : (file : List ℕ) → length (model_of file) ≡ cells (length (states_of file)) (predicate_arities file)
unfolding model_of model
marks-length file = length-stage (length (states_of file)) (interpretation_of file) (predicate_arities file) (rules_of file).clauses _

pub verdicts-length : (file : List ℕ) → length (verdicts_of file) ≡ length (rules_of file).queries
unfolding verdicts_of
verdicts-length file = length-map (rules_of file).queries (verdict_of file)

-- Buffers pass the test exactly if they are long enough.
pub long-exact : (file : List ℕ) (before : Buffers) → T (long_enough file before) ↔ LongEnough file before
long-exact file before = (
  λ t.
      let u = both (s && t' && m) v t in
      let w = both (s && t') m u.0 in
      let x = both s t' w.0 in
      record {
        states = leb→le _ _ x.0;
        tables = subst (λ (n : ℕ). n ≤ length before.tables) (tables-length file) (leb→le _ _ x.1);
        marks = subst (λ (n : ℕ). n ≤ length before.marks) (marks-length file) (leb→le _ _ w.1);
        verdicts = subst (λ (n : ℕ). n ≤ length before.verdicts) (verdicts-length file) (leb→le _ _ u.1);
      },
  λ l.
      both_of (s && t' && m) v
      (both_of (s && t') m
      (both_of s t' (le→leb _ _ l.states) (le→leb _ _ (subst (λ (n : ℕ). n ≤ length before.tables) (sym (tables-length file)) l.tables)))
      (le→leb _ _ (subst (λ (n : ℕ). n ≤ length before.marks) (sym (marks-length file)) l.marks)))
      (le→leb _ _ (subst (λ (n : ℕ). n ≤ length before.verdicts) (sym (verdicts-length file)) l.verdicts)),
)
  where
    s : Bool
    s = holds before.states (states_of file)

    t' : Bool
    t' = holds before.tables (tables_of file)

    m : Bool
    m = holds before.marks (model_of file)

    v : Bool
    v = holds before.verdicts (verdicts_of file)

pub lent_exact : (file : List ℕ) (before : Lent) → T (lent_enough file before) ↔ LentEnough file before
lent_exact file before = (
  λ t.
      let w = both (holds before.tables (tables_of file)) (holds before.marks (model_of file)) t in
      record {
        tables = subst (λ (n : ℕ). n ≤ length before.tables) (tables-length file) (leb→le _ _ w.0);
        marks = subst (λ (n : ℕ). n ≤ length before.marks) (marks-length file) (leb→le _ _ w.1);
      },
  λ l.
      both_of (holds before.tables (tables_of file)) (holds before.marks (model_of file))
      (le→leb _ _ (subst (λ (n : ℕ). n ≤ length before.tables) (sym (tables-length file)) l.tables))
      (le→leb _ _ (subst (λ (n : ℕ). n ≤ length before.marks) (sym (marks-length file)) l.marks)),
)

-- a number that is 0, as a test
pub ok-zero : (a : Answer) → T (ok a) ↔ (a.number ≡ 0)
ok-zero a = (eqb→eq a.number 0, λ e. subst (λ (n : ℕ). T (eqb n 0)) (sym e) tt)

pub not-ok : (a : Answer) → a.number ≢ 0 → T (not (ok a))
not-ok a h = not_intro (ok a) (λ t. h ((ok-zero a).0 t))

pub then_zero : (a b : Answer) → ((and_then a b).number ≡ 0) ↔ ((a.number ≡ 0) × (b.number ≡ 0))
then_zero a b = (
  λ e. go (decide (ok a)) e,
  λ w. ap (λ (x : Answer). x.number) (then_next a b w.0) ∙ w.1,
)
  where
    go : T (ok a) ⊎ T (not (ok a)) → (and_then a b).number ≡ 0 → (a.number ≡ 0) × (b.number ≡ 0)
    go (inl t) e = let z = (ok-zero a).0 t in (z, sym (ap (λ (x : Answer). x.number) (then_next a b z)) ∙ e)
    go (inr t) e =
        let z : a.number ≡ 0 = sym (ap (λ (x : Answer). x.number) (cond_no (ok a) b a t)) ∙ e in
        absurd (clash (ok a) ((ok-zero a).1 z) t)

-- one answer after another is a refusal exactly if the first is that refusal, or is none and the second is
pub then_refused : (a b : Answer) (n k : ℕ)
    → n ≢ 0
    → (and_then a b ≡ refused n k) ↔ ((a ≡ refused n k) ⊎ ((a.number ≡ 0) × (b ≡ refused n k)))
then_refused a b n k pos = (λ e. go (decide (ok a)) e, ⊎_elim first second)
  where
    go : T (ok a) ⊎ T (not (ok a)) → and_then a b ≡ refused n k → (a ≡ refused n k) ⊎ ((a.number ≡ 0) × (b ≡ refused n k))
    go (inl t) e = let z = (ok-zero a).0 t in inr (z, sym (then_next a b z) ∙ e)
    go (inr t) e = inl (sym (cond_no (ok a) b a t) ∙ e)

    first : a ≡ refused n k → and_then a b ≡ refused n k
    first e = then_first a b (λ z. pos (sym (ap (λ (x : Answer). x.number) e) ∙ z)) ∙ e

    second : (a.number ≡ 0) × (b ≡ refused n k) → and_then a b ≡ refused n k
    second w = then_next a b w.0 ∙ w.1

-- refused unless a test passes
unless_zero : (test : Bool) (n : ℕ) → n ≢ 0 → ((refuse_if (not test) n 0).number ≡ 0) ↔ T test
unless_zero true n h = (λ e. tt, λ t. refl)
unless_zero false n h = (λ e. absurd (h e), λ t. absurd t)

pub unless_refused : (test : Bool) (number n k : ℕ) → n ≢ 0 → (refuse_if (not test) number 0 ≡ refused n k) ↔ ((n ≡ number) × (k ≡ 0) × (¬ T test))
unless_refused true number n k pos = (λ e. absurd (pos (sym (ap (λ (a : Answer). a.number) e))), λ w. absurd (w.2 tt))
unless_refused false number n k pos = (
  λ e. (sym (ap (λ (a : Answer). a.number) e), sym (ap (λ (a : Answer). a.place) e), λ t. t),
  λ w. λ i. record { number = sym w.0 i; place = sym w.1 i },
)

nine : ◌≢◌ {A = ℕ} 9 0
nine e = omega arith

fourteen : ◌≢◌ {A = ℕ} 14 0
fourteen e = omega arith

-- An analysis hands back 0 exactly if the file is accepted and each buffer is long enough.
pub analysis-zero : (file : List ℕ) (before : Buffers)
    → ((analysis_answer file before).number ≡ 0) ↔ (((file_answer file).number ≡ 0) × T (long_enough file before))
unfolding analysis_answer
analysis-zero file before =
    let short : Answer = refuse_if (not (long_enough file before)) 9 0 in
    let nine-or = unless_zero (long_enough file before) 9 nine in (
      λ e. let w = (then_zero (file_answer file) short).0 e in (w.0, nine-or.0 w.1),
      λ w. (then_zero (file_answer file) short).1 (w.0, nine-or.1 w.1),
    )

-- Writing a sheet does exactly if, besides, the sheet's buffer is long enough.
pub writing-zero : (file : List ℕ) (before : Buffers) (sheet : List ℕ)
    → ((writing_answer file before sheet).number ≡ 0)
    ↔ (((analysis_answer file before).number ≡ 0) × T (holds sheet (encode_sheet (states_of file) (atoms_of file))))
unfolding writing_answer
writing-zero file before sheet =
    let room : Bool = holds sheet (encode_sheet (states_of file) (atoms_of file)) in
    let fourteen-or = unless_zero room 14 fourteen in (
      λ e. let w = (then_zero (analysis_answer file before) (refuse_if (not room) 14 0)).0 e in (w.0, fourteen-or.0 w.1),
      λ w. (then_zero (analysis_answer file before) (refuse_if (not room) 14 0)).1 (w.0, fourteen-or.1 w.1),
    )

-- 1 to 9 of a sheet check are none exactly if the file is accepted and the two buffers are long enough.
pub lent_zero : (file : List ℕ) (before : Lent)
    → ((lent_answer file before).number ≡ 0) ↔ (((file_answer file).number ≡ 0) × T (lent_enough file before))
unfolding lent_answer
lent_zero file before =
    let short : Answer = refuse_if (not (lent_enough file before)) 9 0 in
    let nine-or = unless_zero (lent_enough file before) 9 nine in (
      λ e. let w = (then_zero (file_answer file) short).0 e in (w.0, nine-or.0 w.1),
      λ w. (then_zero (file_answer file) short).1 (w.0, nine-or.1 w.1),
    )

-- A sheet check hands back 0 exactly if so it is, and none of 10 to 13 fits the sheet.
pub check-zero : (file sheet : List ℕ) (before : Lent)
    → ((check_answer file sheet before).number ≡ 0)
    ↔ (((lent_answer file before).number ≡ 0)
    × ((answer_of_sheet (states_of file) (interpretation_of file) (predicate_arities file) (rules_of file).clauses sheet).number ≡ 0))
unfolding check_answer
check-zero file sheet before = then_zero (lent_answer file before) _

-- A refusal with 9 or less has a number below 10.
refuse_below : (test : Bool) → (refuse_if test 9 0).number < 10
refuse_below true = omega arith
refuse_below false = omega arith

then_below : (a b : Answer) (n : ℕ) → a.number < n → b.number < n → (and_then a b).number < n
then_below a b n lta ltb = go (decide (ok a))
  where
    go : T (ok a) ⊎ T (not (ok a)) → (and_then a b).number < n
    go (inl t) = subst (λ (x : Answer). x.number < n) (sym (cond_yes (ok a) b a t)) ltb
    go (inr t) = subst (λ (x : Answer). x.number < n) (sym (cond_no (ok a) b a t)) lta

pub analysis-number : (file : List ℕ) (before : Buffers) → (analysis_answer file before).number < 10
unfolding analysis_answer
analysis-number file before = then_below (file_answer file) _ 10 (let w = file_number file in omega (arith, w)) (refuse_below (not (long_enough file before)))

pub lent_number : (file : List ℕ) (before : Lent) → (lent_answer file before).number < 10
unfolding lent_answer
lent_number file before = then_below (file_answer file) _ 10 (let w = file_number file in omega (arith, w)) (refuse_below (not (lent_enough file before)))

-- A refusal leaves an analysis's buffers untouched, and every count is 0.
pub analysis-refused : (file : List ℕ) (before : Buffers)
    → (analysis_answer file before).number ≢ 0
    → ((analysed file before).after ≡ before)
    × ((analysed file before).states ≡ 0)
    × ((analysed file before).atoms ≡ 0)
    × ((analysed file before).rounds ≡ 0)
unfolding analysed
analysis-refused file before h =
    let t = not-ok (analysis_answer file before) h in
    let a : Bool = ok (analysis_answer file before) in
    (cond_no a (filled file before) before t, cond_no a _ 0 t, cond_no a _ 0 t, cond_no a _ 0 t)

-- With 0 every needed byte is written, and bytes past the needed ones keep their values.
pub analysis-filled : (file : List ℕ) (before : Buffers)
    → (analysis_answer file before).number ≡ 0
    → ((analysed file before).after ≡ filled file before)
    × ((analysed file before).states ≡ length (states_of file))
    × ((analysed file before).atoms ≡ length (atoms_of file))
    × ((analysed file before).rounds ≡ rounds_of file)
unfolding analysed
analysis-filled file before e =
    let t = (ok-zero (analysis_answer file before)).1 e in
    let a : Bool = ok (analysis_answer file before) in
    (cond_yes a (filled file before) before t, cond_yes a _ 0 t, cond_yes a _ 0 t, cond_yes a _ 0 t)

pub analysis_done_lem : (file : List ℕ) (before : Buffers) → (analysis_answer file before).number ≡ 0 → analysed file before ≡ analysis_done file before
unfolding analysed analysis_answer
analysis_done_lem file before e =
    let w = (analysis-zero file before).0 e in
    let long : Bool = long_enough file before in
    let answer : analysis_answer file before ≡ accepted = then_next (file_answer file) (refuse_if (not long) 9 0) w.0 ∙ if_no (not long) 9 0 (not-not_intro long w.1) in
    let f = analysis-filled file before e in
    λ i. record { answer = answer i; states = f.1 i; atoms = f.2 i; rounds = f.3 i; after = f.0 i }

-- With 0 a writing hands back what an analysis does, and the sheet.
pub writing_done : (order : List (List ℕ)) (file : List ℕ) (before : Buffers) (sheet : List ℕ)
    → (writing_answer file before sheet).number ≡ 0
    → without_sheet (written_in order file before sheet) ≡ analysis_done file before
unfolding written_in analysed writing_answer
writing_done order file before sheet e =
    let w = (writing-zero file before sheet).0 e in
    let room : Bool = holds sheet (encode_sheet (states_of file) (atoms_of file)) in
    let answer : writing_answer file before sheet ≡ accepted =
    then_next (analysis_answer file before) (refuse_if (not room) 14 0) w.0 ∙ if_no (not room) 14 0 (not-not_intro room w.1) in
    let t = (ok-zero (writing_answer file before sheet)).1 e in
    let a : Bool = ok (writing_answer file before sheet) in
    let after = (analysis-filled file before w.0).0 in
    λ i. record { answer = answer i; states = cond_yes a (length (states_of file)) 0 t i; atoms = cond_yes a (length (atoms_of file)) 0 t i; rounds = cond_yes a (rounds_of file) 0 t i; after = after i }

-- A refusal of a writing is 14, after an analysis that is refused nothing, or it is the analysis's.
pub writing_cases : (file : List ℕ) (before : Buffers) (sheet : List ℕ)
    → (writing_answer file before sheet).number ≢ 0
    → (((writing_answer file before sheet).number ≡ 14) × ((analysis_answer file before).number ≡ 0))
    ⊎ (((writing_answer file before sheet).number ≢ 14) × ((analysis_answer file before).number ≢ 0))
unfolding writing_answer
writing_cases file before sheet h = go (ℕ_discrete a.number 0)
  where
    a : Answer
    a = analysis_answer file before

    room : Bool
    room = holds sheet (encode_sheet (states_of file) (atoms_of file))

    last : (test : Bool) → (refuse_if (not test) 14 0).number ≢ 0 → (refuse_if (not test) 14 0).number ≡ 14
    last true k = absurd (k refl)
    last false k = refl

    go : Dec (a.number ≡ 0)
        → (((and_then a (refuse_if (not room) 14 0)).number ≡ 14) × (a.number ≡ 0))
        ⊎ (((and_then a (refuse_if (not room) 14 0)).number ≢ 14) × (a.number ≢ 0))
    go (yes z) =
        let e = ap (λ (x : Answer). x.number) (then_next a (refuse_if (not room) 14 0) z) in
        inl (e ∙ last room (λ k. h (e ∙ k)), z)
    go (no n) =
        let e = ap (λ (x : Answer). x.number) (then_first a (refuse_if (not room) 14 0) n) in
        inr (λ k. let q = analysis-number file before in let r = sym e ∙ k in omega arith, n)

-- A refusal of a writing leaves the sheet's buffer untouched, and every count is 0; the other buffers are as after an analysis.
pub writing-refused : (order : List (List ℕ)) (file : List ℕ) (before : Buffers) (sheet : List ℕ)
    → (writing_answer file before sheet).number ≢ 0
    → ((written_in order file before sheet).sheet ≡ sheet)
    × ((written_in order file before sheet).after ≡ (analysed file before).after)
    × ((written_in order file before sheet).states ≡ 0)
    × ((written_in order file before sheet).atoms ≡ 0)
    × ((written_in order file before sheet).rounds ≡ 0)
    × ((written_in order file before sheet).bytes ≡ 0)
unfolding written_in analysed
writing-refused order file before sheet h =
    let t = not-ok (writing_answer file before sheet) h in
    let a : Bool = ok (writing_answer file before sheet) in
    (cond_no a _ sheet t, refl, cond_no a _ 0 t, cond_no a _ 0 t, cond_no a _ 0 t, cond_no a _ 0 t)

-- The number of a sheet check is one of 1 to 9 exactly if these are not ruled out.
pub check_cases : (file sheet : List ℕ) (before : Lent)
    → (((lent_answer file before).number ≢ 0) × (0 < (check_answer file sheet before).number) × ((check_answer file sheet before).number < 10))
    ⊎ (((lent_answer file before).number ≡ 0) × (((check_answer file sheet before).number ≡ 0) ⊎ (9 < (check_answer file sheet before).number)))
unfolding check_answer
check_cases file sheet before = go (ℕ_discrete a.number 0)
  where
    a : Answer
    a = lent_answer file before

    own : Answer
    own = answer_of_sheet (states_of file) (interpretation_of file) (predicate_arities file) (rules_of file).clauses sheet

    go : Dec (a.number ≡ 0)
        → ((a.number ≢ 0) × (0 < (and_then a own).number) × ((and_then a own).number < 10))
        ⊎ ((a.number ≡ 0) × (((and_then a own).number ≡ 0) ⊎ (9 < (and_then a own).number)))
    go (yes z) =
        inr (
          z,
          subst (λ (x : Answer). (x.number ≡ 0) ⊎ (9 < x.number)) (sym (then_next a own z))
              (check-number (states_of file) (interpretation_of file) (predicate_arities file) (rules_of file).clauses sheet),
        )
    go (no n) =
        let e = ap (λ (x : Answer). x.number) (then_first a own n) in
        let q = lent_number file before in
        inl (n, omega (arith, e), omega (arith, e))

-- 1 to 9 leave a sheet check's buffers untouched; with any other answer the tables are the file's and the needed marks zero.
pub check_untouched : (file sheet : List ℕ) (before : Lent) → (lent_answer file before).number ≢ 0 → (checked file sheet before).after ≡ before
unfolding checked
check_untouched file sheet before h = cond_no (ok (lent_answer file before)) _ before (not-ok (lent_answer file before) h)

pub check_done_lem : (file sheet : List ℕ) (before : Lent) → (lent_answer file before).number ≡ 0 → (checked file sheet before).after ≡ check_done file before
unfolding checked
check_done_lem file sheet before e = cond_yes (ok (lent_answer file before)) (check_done file before) before ((ok-zero (lent_answer file before)).1 e)
