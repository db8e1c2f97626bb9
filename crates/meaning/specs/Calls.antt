-- The three public calls (01, "What is handed back"): number, place, counts and every byte of every lent buffer afterwards, as a function
-- of the file, the sheet and the buffers before. Of a written sheet the order of the atoms is left free, and named as such.
use Rattle.std.specs.Prelude.{ℕ, ◌≤◌, ◌≡◌, Bool, cond, not, ◌&&◌, List, ◌++◌, map, leb, length, take, drop, replicate}
use Rattle.meaning.specs.Syntax.{Query}
use Rattle.meaning.specs.Limits.{most_states}
use Rattle.meaning.specs.Legal.{Legal, arities}
use Rattle.meaning.specs.Types.{step, bit}
use Rattle.meaning.specs.States.{cell_of, tables}
use Rattle.meaning.specs.Cells.{cells}
use Rattle.meaning.specs.Refusals.{Answer, accepted, ok, and_then, refuse_if}
use Rattle.meaning.specs.Files.{rules_of, states_for, file_answer}
use Rattle.meaning.specs.Clauses.{marked, rounds, model, is_open}
use Rattle.meaning.specs.Certificates.{encode_sheet, answer_of_sheet, marked_atoms, IsOrder}

-- what is worked out of a file, for the rules that it says
module _ (file : List ℕ) where
  unfoldable pub symbol_arities : List ℕ
  symbol_arities = arities (rules_of file).symbols

  unfoldable pub predicate_arities : List ℕ
  predicate_arities = arities (rules_of file).predicates

  unfoldable pub states_of : List ℕ
  states_of = states_for symbol_arities (length (rules_of file).types) (rules_of file).productions

  unfoldable pub step_of : ℕ → List ℕ → ℕ
  step_of = step (rules_of file).productions (length (rules_of file).types)

  unfoldable pub interpretation_of : ℕ → List ℕ → ℕ
  interpretation_of = cell_of step_of states_of

  unfoldable pub tables_of : List ℕ
  tables_of = tables step_of states_of symbol_arities

  unfoldable pub rounds_of : ℕ
  rounds_of = rounds (length states_of) interpretation_of predicate_arities (rules_of file).clauses

  -- the model, as marks: 1 for in the model, else 0
  unfoldable pub model_of : List ℕ
  model_of = model (length states_of) interpretation_of predicate_arities (rules_of file).clauses

  unfoldable pub atoms_of : List (List ℕ)
  atoms_of = marked_atoms (length states_of) predicate_arities model_of

  -- a byte per query, 0 CLEAR, 1 OPEN
  unfoldable pub verdict_of : Query → ℕ
  verdict_of q = bit (is_open states_of (length states_of) interpretation_of (marked (length states_of) predicate_arities model_of) q)

  unfoldable pub verdicts_of : List ℕ
  verdicts_of = map verdict_of (rules_of file).queries

-- what is known of an accepted file
pub record Admitted (file : List ℕ) : Type 0 where
  pub legal : Legal (rules_of file)
  pub few : length (states_of file) ≤ most_states

-- every count is 0 with a refusal
abbrev pub counted : Answer → ℕ → ℕ
counted a n = cond (ok a) n 0

-- a buffer with the needed bytes written; bytes past them keep their values
abbrev pub written : List ℕ → List ℕ → List ℕ
written needed before = needed ++ drop (length needed) before

abbrev pub holds : List ℕ → List ℕ → Bool
holds before needed = leb (length needed) (length before)

-- what an analysis is lent: a 16-bit place for each state, a byte for each table cell, each domain atom and each query
pub record Buffers : Type 0 where
  pub states : List ℕ
  pub tables : List ℕ
  pub marks : List ℕ
  pub verdicts : List ℕ

abbrev pub filled : List ℕ → Buffers → Buffers
filled file before =
    record {
      states = written (states_of file) before.states;
      tables = written (tables_of file) before.tables;
      marks = written (model_of file) before.marks;
      verdicts = written (verdicts_of file) before.verdicts;
    }

abbrev pub long_enough : List ℕ → Buffers → Bool
long_enough file before =
    holds before.states (states_of file)
    && holds before.tables (tables_of file)
    && holds before.marks (model_of file)
    && holds before.verdicts (verdicts_of file)

-- the same as a fact
pub record LongEnough (file : List ℕ) (before : Buffers) : Type 0 where
  pub states : length (states_of file) ≤ length before.states
  pub tables : cells (length (states_of file)) (symbol_arities file) ≤ length before.tables
  pub marks : cells (length (states_of file)) (predicate_arities file) ≤ length before.marks
  pub verdicts : length (rules_of file).queries ≤ length before.verdicts

-- 1 to 8, then 9: a buffer is shorter than needed
unfoldable pub analysis_answer : List ℕ → Buffers → Answer
analysis_answer file before = and_then (file_answer file) (refuse_if (not (long_enough file before)) 9 0)

pub record Analysed : Type 0 where
  pub answer : Answer
  pub states : ℕ
  pub atoms : ℕ
  pub rounds : ℕ
  pub after : Buffers

unfoldable pub analysed : List ℕ → Buffers → Analysed
analysed file before =
    record {
      answer = analysis_answer file before;
      states = counted (analysis_answer file before) (length (states_of file));
      atoms = counted (analysis_answer file before) (length (atoms_of file));
      rounds = counted (analysis_answer file before) (rounds_of file);
      after = cond (ok (analysis_answer file before)) (filled file before) before;
    }

-- what an analysis hands back with 0
abbrev pub analysis_done : List ℕ → Buffers → Analysed
analysis_done file before =
    record {
      answer = accepted;
      states = length (states_of file);
      atoms = length (atoms_of file);
      rounds = rounds_of file;
      after = filled file before;
    }

-- The contract of an analysis: `result` is what it hands back.
pub record AnalysisOf (file : List ℕ) (before : Buffers) (result : Analysed) : Type 0 where
  pub is : result ≡ analysed file before

-- the answer to writing a sheet: as to an analysis, then 14: the sheet's buffer is too short
unfoldable pub writing_answer : List ℕ → Buffers → List ℕ → Answer
writing_answer file before sheet =
    and_then (analysis_answer file before) (refuse_if (not (holds sheet (encode_sheet (states_of file) (atoms_of file)))) 14 0)

pub record Written : Type 0 where
  pub answer : Answer
  pub states : ℕ
  pub atoms : ℕ
  pub rounds : ℕ
  pub bytes : ℕ
  pub after : Buffers
  pub sheet : List ℕ

-- an order of the model's atoms: each once, no other
abbrev pub OrderOf : List ℕ → List (List ℕ) → Type 0
OrderOf file order = IsOrder (length (states_of file)) (predicate_arities file) (model_of file) order

-- writing a sheet, with the atoms in some order; with 14 the buffers other than the sheet are as for 0
unfoldable pub written_in : List (List ℕ) → List ℕ → Buffers → List ℕ → Written
written_in order file before sheet =
    record {
      answer = writing_answer file before sheet;
      states = counted (writing_answer file before sheet) (length (states_of file));
      atoms = counted (writing_answer file before sheet) (length (atoms_of file));
      rounds = counted (writing_answer file before sheet) (rounds_of file);
      bytes = counted (writing_answer file before sheet) (length (encode_sheet (states_of file) (atoms_of file)));
      after = cond (ok (analysis_answer file before)) (filled file before) before;
      sheet = cond (ok (writing_answer file before sheet)) (written (encode_sheet (states_of file) order) sheet) sheet;
    }

-- The contract of writing a sheet: `result` is what it hands back, but for the one answer left free (01: "the order of the atoms is open"). The atoms
-- of the model stand in some order, each once and no other.
pub record WrittenInOrder (file : List ℕ) (before : Buffers) (sheet : List ℕ) (result : Written) : Type 0 where
  pub order : List (List ℕ)
  pub each : OrderOf file order
  pub is : result ≡ written_in order file before sheet

-- what writing a sheet hands back besides the sheet and its bytes
abbrev pub without_sheet : Written → Analysed
without_sheet r = record { answer = r.answer; states = r.states; atoms = r.atoms; rounds = r.rounds; after = r.after }

-- the sheet we write: the first bytes of the sheet's buffer after writing a sheet hands back 0, as many as it counts
abbrev pub ours : Written → List ℕ
ours result = take result.bytes result.sheet

-- what a sheet check is lent: table cells and marks
pub record Lent : Type 0 where
  pub tables : List ℕ
  pub marks : List ℕ

abbrev pub lent_enough : List ℕ → Lent → Bool
lent_enough file before = holds before.tables (tables_of file) && holds before.marks (model_of file)

-- the same as a fact
pub record LentEnough (file : List ℕ) (before : Lent) : Type 0 where
  pub tables : cells (length (states_of file)) (symbol_arities file) ≤ length before.tables
  pub marks : cells (length (states_of file)) (predicate_arities file) ≤ length before.marks

-- 1 to 8, then 9
unfoldable pub lent_answer : List ℕ → Lent → Answer
lent_answer file before = and_then (file_answer file) (refuse_if (not (lent_enough file before)) 9 0)

-- then 10 to 13
unfoldable pub check_answer : List ℕ → List ℕ → Lent → Answer
check_answer file sheet before =
    and_then (lent_answer file before)
    (answer_of_sheet (states_of file) (interpretation_of file) (predicate_arities file) (rules_of file).clauses sheet)

pub record Checked : Type 0 where
  pub answer : Answer
  pub after : Lent

-- with 0 and 10 to 13 the needed table cells hold the file's tables, and the needed marks are zero
abbrev pub check_done : List ℕ → Lent → Lent
check_done file before =
    record {
      tables = written (tables_of file) before.tables;
      marks = written (replicate (length (model_of file)) 0) before.marks;
    }

unfoldable pub checked : List ℕ → List ℕ → Lent → Checked
checked file sheet before =
    record {
      answer = check_answer file sheet before;
      after = cond (ok (lent_answer file before)) (check_done file before) before;
    }

-- The contract of a sheet check: `result` is what it hands back.
pub record CheckOf (file sheet : List ℕ) (before : Lent) (result : Checked) : Type 0 where
  pub is : result ≡ checked file sheet before

-- 01: a sheet passes for an accepted file if the sheet check, with buffers long enough, hands back 0
pub record Passes (file sheet : List ℕ) : Type 0 where
  pub before : Lent
  pub long : LentEnough file before
  pub result : Checked
  pub check : CheckOf file sheet before result
  pub zero : result.answer.number ≡ 0
