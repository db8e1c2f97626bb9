-- How the writing of a sheet ends: refused with 1 to 8, with 9, with 14, or done. The atoms stand in the order of their cells. Assumes nothing.
use Rattle.meaning.proofs.Prelude.{ℕ, ◌≤◌, ◌<◌, ◌≡◌, sym, ap, ◌∙◌, subst, ◌≢◌, not, List, perm_refl, T, eqb, eqb→eq, length}
use Rattle.meaning.specs.Refusals as meant
use Rattle.meaning.proofs.Definitions.{file_answer, encode_sheet, states_of, rounds_of, atoms_of, written, holds, counted, Buffers, Analysed}
use Rattle.meaning.proofs.Definitions.{OrderOf, analysis_answer, analysed, writing_answer, written_in, WrittenInOrder}
use Rattle.meaning.proofs.Lists.{cond_yes, cond_no, not_intro, not-not_intro}
use Rattle.meaning.proofs.Answers.{then_first, then_next, if_yes, if_no}
use Rattle.meaning.proofs.Calls.{writing-refused}
use Rattle.std.specs.Prelude.{Ok, Err}
use Rattle.answers.specs.declared.Refusal.{Refusal}
use Rattle.answers.specs.declared.Refusal.TheVariants.{SheetBufferTooShort}
use Rattle.answers.specs.Refused.{refusal_answer}
use Rattle.acceptance.proofs.Answering.{refusal_number}
use Rattle.analysis.specs.declared.Counts.{Counts}
use Rattle.analysis.specs.Given.{given}
use Rattle.analysis.proofs.Ends as analysis
use Rattle.analysis.proofs.Done.{count_of_states, count_of_atoms, count_of_rounds}
use Rattle.sheet_writer.specs.Fits.{if_room}
use Rattle.certificate.specs.Given.{wrote}
use Rattle.sheet_writer.proofs.Sheets.{has_room, lacks_room, room-written, room-kept}

-- the sheet of a file, with the atoms in the order of their cells
abbrev pub sheet_for : List ℕ → List ℕ
sheet_for file = encode_sheet (states_of file) (atoms_of file)

in_order : (file : List ℕ) → OrderOf file (atoms_of file)
unfolding atoms_of
in_order file = perm_refl (atoms_of file)

module _ (file : List ℕ) (before : Buffers) (sheet : List ℕ) where
  -- a refusal, with the sheet untouched
  refused-is : (r : Refusal) {after : Buffers}
      → refusal_answer r ≡ writing_answer file before sheet
      → after ≡ (analysed file before).after
      → WrittenInOrder file before sheet (wrote (Err r) after sheet)
  unfolding written_in analysed
  refused-is r e is =
      let h : (writing_answer file before sheet).number ≢ 0 = λ z. refusal_number r (ap (λ (x : meant.Answer). x.number) e ∙ z) in
      let kept = writing-refused (atoms_of file) file before sheet h in
      let none : (n : ℕ) → 0 ≡ counted (writing_answer file before sheet) n =
      λ n. sym (cond_no (meant.ok (writing_answer file before sheet)) n 0 (not_intro (meant.ok (writing_answer file before sheet)) (λ t. h (eqb→eq (writing_answer file before sheet).number 0 t)))) in
      record {
        order = atoms_of file;
        each = in_order file;
        is =
            λ i. record {
              answer = e i;
              states = none (length (states_of file)) i;
              atoms = none (length (atoms_of file)) i;
              rounds = none (rounds_of file) i;
              bytes = none (length (sheet_for file)) i;
              after = is i;
              sheet = sym kept.0 i;
            };
      }

  -- 1 to 9, as the analysis has it
  pub analysis-refused : (r : Refusal) {after : Buffers} → given (Err r) after ≡ analysed file before → WrittenInOrder file before sheet (wrote (Err r) after sheet)
  unfolding analysed writing_answer
  analysis-refused r is =
      let e : refusal_answer r ≡ analysis_answer file before = ap (λ (a : Analysed). a.answer) is in
      let pos : (analysis_answer file before).number ≢ 0 = λ z. refusal_number r (ap (λ (x : meant.Answer). x.number) e ∙ z) in
      refused-is r (e ∙ sym (then_first (analysis_answer file before) (meant.refuse_if (not (holds sheet (sheet_for file))) 14 0) pos)) (ap (λ (a : Analysed). a.after) is)

  -- 1 to 8
  pub file_refused : (r : Refusal) → refusal_answer r ≡ file_answer file → WrittenInOrder file before sheet (wrote (Err r) before sheet)
  file_refused r e = analysis-refused r (analysis.file_refused file before r e)

  -- an analysis without a refusal, and the sheet put if there is room for it
  module _ {counts : Counts} {after : Buffers} {n : ℕ} {sheet' : List ℕ} (is : given (Ok counts) after ≡ analysed file before) (size : n ≡ length (sheet_for file)) (put : sheet' ≡ if_room (sheet_for file) sheet) where
    number_is : (analysis_answer file before).number ≡ 0
    unfolding analysed
    number_is = sym (ap (λ (a : Analysed). a.answer.number) is)

    -- what comes after the analysis decides
    next : writing_answer file before sheet ≡ meant.refuse_if (not (holds sheet (sheet_for file))) 14 0
    unfolding writing_answer
    next = then_next (analysis_answer file before) (meant.refuse_if (not (holds sheet (sheet_for file))) 14 0) number_is

    -- 14
    pub sheet-short : length sheet < n → WrittenInOrder file before sheet (wrote (Err SheetBufferTooShort) after sheet')
    sheet-short short =
        let short-is = lacks_room (sheet_for file) sheet size short in
        let fourteen : writing_answer file before sheet ≡ meant.refused 14 0 = next ∙ if_yes (not (holds sheet (sheet_for file))) 14 0 short-is in
        let same : sheet ≡ sheet' = sym (room-kept (sheet_for file) sheet size short) ∙ sym put in
        subst (λ (l : List ℕ). WrittenInOrder file before sheet (wrote (Err SheetBufferTooShort) after l)) same
        (refused-is SheetBufferTooShort (sym fourteen) (ap (λ (x : Analysed). x.after) is))

    -- 0
    pub done : n ≤ length sheet
        → WrittenInOrder file before sheet (wrote (Ok (record { counts = counts; bytes = n })) after sheet')
    unfolding written_in analysed
    done long =
        let room = has_room (sheet_for file) sheet size long in
        let zero_is : writing_answer file before sheet ≡ meant.accepted = next ∙ if_no (not (holds sheet (sheet_for file))) 14 0 (not-not_intro (holds sheet (sheet_for file)) room) in
        let ok : T (meant.ok (writing_answer file before sheet)) = subst (λ (k : ℕ). T (eqb k 0)) (sym (ap (λ (x : meant.Answer). x.number) zero_is)) tt in
        let all : (k : ℕ) → k ≡ counted (writing_answer file before sheet) k = λ k. sym (cond_yes (meant.ok (writing_answer file before sheet)) k 0 ok) in
        record {
          order = atoms_of file;
          each = in_order file;
          is =
              λ i. record {
                answer = sym zero_is i;
                states = (count_of_states file before after counts is ∙ all (length (states_of file))) i;
                atoms = (count_of_atoms file before after counts is ∙ all (length (atoms_of file))) i;
                rounds = (count_of_rounds file before after counts is ∙ all (rounds_of file)) i;
                bytes = (size ∙ all (length (sheet_for file))) i;
                after = ap (λ (x : Analysed). x.after) is i;
                sheet = (put ∙ (room-written (sheet_for file) sheet size long ∙ sym (cond_yes (meant.ok (writing_answer file before sheet)) (written (sheet_for file) sheet) sheet ok))) i;
              };
        }
