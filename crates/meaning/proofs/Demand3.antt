-- Demand 3 is met for every accepted file (specs/Demand3.antt). Assumes nothing.
use Rattle.meaning.proofs.Prelude.{ℕ, ◌≤◌, ◌≡◌, refl, sym, ap, ◌∙◌, subst, ◌↔◌, List, T, eqb, length, length-append, take, drop, take_at}
use Rattle.meaning.proofs.Prelude.{arith}
use Rattle.meaning.proofs.Definitions.{Bytes, Answer, accepted, ok, encode_sheet, InSheet, Valid, answer_of_sheet, rules_of, file_answer}
use Rattle.meaning.proofs.Definitions.{predicate_arities, states_of, interpretation_of, written, Buffers, Written, written_in}
use Rattle.meaning.proofs.Definitions.{writing_answer, WrittenInOrder, ours, Lent, LentEnough, lent_answer, Checked, checked, check_answer}
use Rattle.meaning.proofs.Definitions.{CheckOf, Passes, Admitted, Accepted, Demand3}
use Rattle.meaning.proofs.Lists.{cond_yes}
use Rattle.meaning.proofs.Answers.{then_next}
use Rattle.meaning.proofs.Acceptance.{acceptance_given}
use Rattle.meaning.proofs.Certificates as Certificates
use Rattle.meaning.proofs.Calls.{lent_exact, lent_zero}
use Rattle.meaning.proofs.Exists.{shortest_lent, lent_long}
use Rattle.meaning.proofs.Theorems as theorems

-- the sheet we write, after writing it handed back 0
module _ (file : List ℕ) {before : Buffers} {sheet : List ℕ} {result : Written} (w : WrittenInOrder file before sheet result) (z : result.answer.number ≡ 0) where
  writing-ok : T (ok (writing_answer file before sheet))
  unfolding written_in
  writing-ok = subst (λ (n : ℕ). T (eqb n 0)) (sym (sym (ap (λ (a : Written). a.answer.number) w.is) ∙ z)) tt

  pub bytes_counted : result.bytes ≡ length (encode_sheet (states_of file) w.order)
  unfolding written_in
  bytes_counted =
      ap (λ (a : Written). a.bytes) w.is
      ∙ (cond_yes (ok (writing_answer file before sheet)) _ 0 writing-ok ∙ sym (theorems.written-length file w.order w.each))

  pub ours-is : ours result ≡ encode_sheet (states_of file) w.order
  unfolding written_in
  ours-is =
      ap (take result.bytes) (ap (λ (a : Written). a.sheet) w.is ∙ cond_yes (ok (writing_answer file before sheet)) _ sheet writing-ok)
      ∙ take_at (encode_sheet (states_of file) w.order) (drop (length (encode_sheet (states_of file) w.order)) sheet) result.bytes (sym bytes_counted)

  pub ours-fits : result.bytes ≤ length result.sheet
  unfolding written_in
  ours-fits =
      let sheet_for = encode_sheet (states_of file) w.order in
      let whole = ap (λ (a : Written). length a.sheet) w.is ∙ ap length (cond_yes (ok (writing_answer file before sheet)) (written sheet_for sheet) sheet writing-ok) in
      omega (arith, bytes_counted, whole, length-append sheet_for (drop (length sheet_for) sheet))

module _ (file : List ℕ) (e : file_answer file ≡ accepted) where
  admitted : Admitted file
  admitted = theorems.accepted-is_admitted file e

  abbrev ValidSheet : List ℕ → Type 0
  ValidSheet sheet = Valid (states_of file) (interpretation_of file) (predicate_arities file) (rules_of file).clauses sheet

  answer-is : {sheet : List ℕ} {before : Lent} {result : Checked}
      → CheckOf file sheet before result
      → LentEnough file before
      → result.answer ≡ answer_of_sheet (states_of file) (interpretation_of file) (predicate_arities file) (rules_of file).clauses sheet
  unfolding checked check_answer
  answer-is {sheet} {before} w long =
      ap (λ (k : Checked). k.answer) w.is
      ∙ then_next (lent_answer file before) _ ((lent_zero file before).1 (ap (λ (a : Answer). a.number) e, (lent_exact file before).1 long))

  passes_exactly : (sheet : List ℕ)
      → Bytes sheet
      → {before : Lent} {result : Checked}
      → CheckOf file sheet before result
      → LentEnough file before
      → (result.answer.number ≡ 0) ↔ ValidSheet sheet
  passes_exactly sheet bytes w long =
      let exact = theorems.certificates_are_exact file admitted sheet bytes in
      let zero_is = Certificates.check-zero (states_of file) (interpretation_of file) (predicate_arities file) (rules_of file).clauses sheet in
      let same = answer-is w long in (
        λ z. exact.0 (zero_is (sym (ap (λ (a : Answer). a.number) same) ∙ z)),
        λ v. ap (λ (a : Answer). a.number) (same ∙ exact.1 v),
      )

  passed_valid : (sheet : List ℕ) → Bytes sheet → Passes file sheet → ValidSheet sheet
  passed_valid sheet bytes p = (passes_exactly sheet bytes p.check p.long).0 p.zero

  valid_passes : (sheet : List ℕ) → ValidSheet sheet → Passes file sheet
  valid_passes sheet v =
      let call : CheckOf file sheet (shortest_lent file) (checked file sheet (shortest_lent file)) = record { is = refl } in
      record {
        before = shortest_lent file;
        long = lent_long file;
        result = checked file sheet (shortest_lent file);
        check = call;
        zero =
            ap (λ (a : Answer). a.number)
            (answer-is call (lent_long file)
            ∙ Certificates.valid_accepted (states_of file) (interpretation_of file) (predicate_arities file) (rules_of file).clauses sheet v);
      }

  meets : Demand3 file
  meets =
      record {
        exact = λ sheet bytes {before} {result} w long. passes_exactly sheet bytes w long;
        sound =
            λ sheet bytes p q listed clear.
            theorems.certificates_are_sound file admitted sheet (passed_valid sheet bytes p) q (theorems.queries_are_laid_out file admitted q listed) clear;
        passes =
            λ {before} {sheet} {result} w z.
            subst (Passes file) (sym (ours-is file w z))
            (valid_passes (encode_sheet (states_of file) w.order) (theorems.written-is_valid file admitted w.order w.each));
        least =
            λ {before} {sheet} {result} w z p row inside other bytes passed.
            theorems.written-is-least file admitted w.order w.each p row
            ((Certificates.in_sheet_lem (states_of file) w.order p row).0 (subst (λ (s : List ℕ). InSheet s p row) (ours-is file w z) inside))
            other
            (passed_valid other bytes passed);
      }

pub demand_3 : (file : List ℕ) → Accepted file → Demand3 file
demand_3 file w = meets file ((acceptance_given file).1 w)
