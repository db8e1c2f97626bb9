-- Demand 1, each field under the user's own sentence; `demand_1` (proofs/Demand1.antt) proves it of every file.
use Rattle.std.specs.Prelude.{ℕ, ◌<◌, ◌≡◌, ◌⊎◌, ◌↔◌, ◌≢◌, List}
use Rattle.meaning.specs.Fields.{Bytes}
use Rattle.meaning.specs.Refusals.{refused}
use Rattle.meaning.specs.Calls.{Buffers, Analysed, LongEnough, AnalysisOf, analysis_done, filled, Written, WrittenInOrder, without_sheet, Lent, Checked, CheckOf, check_done}
use Rattle.meaning.specs.Given.{Acceptable, GivenAnalysis, GivenWriting, GivenCheck}

pub record Demand1 (file : List ℕ) : Type 0 where
  -- "Every rule file laid out and within the limits of document 01, with lent buffers long enough, gets its states, tables, model and verdicts, and every
  -- call ends." (That every call ends is part of what it is for a function to be proved.)
  pub accepts : Bytes file
      → {before : Buffers} {result : Analysed}
      → AnalysisOf file before result
      → (result.answer.number ≡ 0) ↔ (Acceptable file × LongEnough file before)
  pub fills : {before : Buffers} {result : Analysed}
      → AnalysisOf file before result
      → result.answer.number ≡ 0
      → result ≡ analysis_done file before
  -- (so it does when its sheet is written: demand 3 is about the sheet)
  pub writes : {before : Buffers} {sheet : List ℕ} {result : Written}
      → WrittenInOrder file before sheet result
      → result.answer.number ≡ 0
      → without_sheet result ≡ analysis_done file before
  -- "Every other file, sheet or buffer is refused with the number and place fixed there,
  pub analysis_refuses : {before : Buffers} {result : Analysed}
      → AnalysisOf file before result
      → (n k : ℕ)
      → n ≢ 0
      → (result.answer ≡ refused n k) ↔ GivenAnalysis file before n k
  pub writing_refuses : {before : Buffers} {sheet : List ℕ} {result : Written}
      → WrittenInOrder file before sheet result
      → (n k : ℕ)
      → n ≢ 0
      → (result.answer ≡ refused n k) ↔ GivenWriting file before sheet n k
  pub check_refuses : (sheet : List ℕ)
      → Bytes sheet
      → {before : Lent} {result : Checked}
      → CheckOf file sheet before result
      → (n k : ℕ)
      → n ≢ 0
      → (result.answer ≡ refused n k) ↔ GivenCheck file sheet before n k
  -- and the lent buffers then hold what is fixed there."
  pub analysis_leaves : {before : Buffers} {result : Analysed}
      → AnalysisOf file before result
      → result.answer.number ≢ 0
      → (result.after ≡ before) × (result.states ≡ 0) × (result.atoms ≡ 0) × (result.rounds ≡ 0)
  pub writing_leaves : {before : Buffers} {sheet : List ℕ} {result : Written}
      → WrittenInOrder file before sheet result
      → result.answer.number ≢ 0
      → (result.sheet ≡ sheet)
      × (result.answer.number ≡ 14 → result.after ≡ filled file before)
      × (result.answer.number ≢ 14 → result.after ≡ before)
      × (result.states ≡ 0)
      × (result.atoms ≡ 0)
      × (result.rounds ≡ 0)
      × (result.bytes ≡ 0)
  pub check_leaves : {sheet : List ℕ} {before : Lent} {result : Checked}
      → CheckOf file sheet before result
      → (0 < result.answer.number → result.answer.number < 10 → result.after ≡ before)
      × ((result.answer.number ≡ 0) ⊎ (9 < result.answer.number) → result.after ≡ check_done file before)
