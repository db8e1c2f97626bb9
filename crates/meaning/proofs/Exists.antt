-- What the demands speak of is there: for an accepted file and buffers that are just long enough, an analysis that hands back 0 and the writing of a sheet that
-- does; for every file and sheet, a sheet check with buffers long enough. Assumes nothing.
use Rattle.meaning.proofs.Prelude.{ℕ, ◌≡◌, refl, sym, ap, List, le→leb, length, perm_refl, le_of_eq, le_refl}
use Rattle.meaning.proofs.Definitions.{Answer, encode_sheet, states_of, tables_of, model_of, atoms_of, verdicts_of, Buffers, LongEnough, Analysed, analysis_answer}
use Rattle.meaning.proofs.Definitions.{analysed, AnalysisOf, Written, written_in, WrittenInOrder, Lent, LentEnough, Checked, checked, CheckOf, Accepted}
use Rattle.meaning.proofs.Acceptance.{acceptance_given}
use Rattle.meaning.proofs.Calls.{tables-length, marks-length, verdicts-length, long-exact, analysis-zero, writing-zero}

-- buffers that are just long enough, for an analysis and for a sheet check
pub shortest_buffers : List ℕ → Buffers
shortest_buffers file = record { states = states_of file; tables = tables_of file; marks = model_of file; verdicts = verdicts_of file }

pub shortest_lent : List ℕ → Lent
shortest_lent file = record { tables = tables_of file; marks = model_of file }

shortest_long : (file : List ℕ) → LongEnough file (shortest_buffers file)
unfolding shortest_buffers
shortest_long file =
    record {
      states = le_refl _;
      tables = le_of_eq (sym (tables-length file));
      marks = le_of_eq (sym (marks-length file));
      verdicts = le_of_eq (sym (verdicts-length file));
    }

pub lent_long : (file : List ℕ) → LentEnough file (shortest_lent file)
unfolding shortest_lent
lent_long file = record { tables = le_of_eq (sym (tables-length file)); marks = le_of_eq (sym (marks-length file)) }

shortest_zero : (file : List ℕ) → Accepted file → (analysis_answer file (shortest_buffers file)).number ≡ 0
shortest_zero file w =
    (analysis-zero file (shortest_buffers file)).1
    (ap (λ (a : Answer). a.number) ((acceptance_given file).1 w), (long-exact file (shortest_buffers file)).1 (shortest_long file))

pub analysis_exists : (file : List ℕ)
    → Accepted file
    → (before : Buffers) × ((result : Analysed) × AnalysisOf file before result × (result.answer.number ≡ 0))
unfolding analysed
analysis_exists file w = (shortest_buffers file, (analysed file (shortest_buffers file), record { is = refl }, shortest_zero file w))

pub writing_exists : (file : List ℕ)
    → Accepted file
    → (before : Buffers) × (sheet : List ℕ) × ((result : Written) × WrittenInOrder file before sheet result × (result.answer.number ≡ 0))
unfolding written_in atoms_of
writing_exists file w =
    let before = shortest_buffers file in
    let sheet = encode_sheet (states_of file) (atoms_of file) in (
      before,
      sheet,
      (
        written_in (atoms_of file) file before sheet,
        record { order = atoms_of file; each = perm_refl (atoms_of file); is = refl },
        (writing-zero file before sheet).1 (shortest_zero file w, le→leb (length sheet) (length sheet) (le_refl _)),
      ),
    )

pub check_exists : (file sheet : List ℕ) → (before : Lent) × LentEnough file before × ((result : Checked) × CheckOf file sheet before result)
check_exists file sheet = (shortest_lent file, lent_long file, (checked file sheet (shortest_lent file), record { is = refl }))
