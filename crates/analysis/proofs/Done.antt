-- What an analysis has handed back without a refusal: `r` and the buffers `after` are those of a call with the buffers `before`, which its contract ties to the file.
-- Assumes nothing.
use Rattle.meaning.proofs.Prelude.{ℕ, ◌≡◌, refl, sym, ap, ◌∙◌, List, length}
use Rattle.meaning.proofs.Definitions.{accepted, file_answer, states_of, model_of, rounds_of, atoms_of, verdicts_of, written, Buffers, Analysed}
use Rattle.meaning.proofs.Definitions.{analysis_done, analysed}
use Rattle.meaning.proofs.Demand1.{demand_1, accepted-analysis}
use Rattle.std.specs.Prelude.{Ok}
use Rattle.analysis.specs.declared.Counts.{Counts}
use Rattle.analysis.specs.Given.{given, Filled}
use Rattle.byte_runs.proofs.Written.{written_again}

module _ (file : List ℕ) (before after : Buffers) (r : Counts) (is : given (Ok r) after ≡ analysed file before) where
  done_is : given (Ok r) after ≡ analysis_done file before
  done_is = (demand_1 file).fills (record { is = is }) refl

  pub accepted-is : file_answer file ≡ accepted
  accepted-is = accepted-analysis file (record { is = is }) refl

  pub count_of_states : r.states ≡ length (states_of file)
  count_of_states = ap (λ (a : Analysed). a.states) done_is

  pub count_of_atoms : r.atoms ≡ length (atoms_of file)
  count_of_atoms = ap (λ (a : Analysed). a.atoms) done_is

  pub count_of_rounds : r.rounds ≡ rounds_of file
  count_of_rounds = ap (λ (a : Analysed). a.rounds) done_is

  -- writing the needed bytes again would change nothing
  again : {l : List ℕ} (needed before : List ℕ) → l ≡ written needed before → l ≡ written needed l
  again needed before e = e ∙ (sym (written_again needed before) ∙ ap (written needed) (sym e))

  pub holds-states : after.states ≡ written (states_of file) after.states
  holds-states = again (states_of file) before.states (ap (λ (a : Analysed). a.after.states) done_is)

  pub holds-marks : after.marks ≡ written (model_of file) after.marks
  holds-marks = again (model_of file) before.marks (ap (λ (a : Analysed). a.after.marks) done_is)

  pub holds-verdicts : after.verdicts ≡ written (verdicts_of file) after.verdicts
  holds-verdicts = again (verdicts_of file) before.verdicts (ap (λ (a : Analysed). a.after.verdicts) done_is)

  -- the buffers and counts, as a listing is made from them
  pub filled_is : Filled file r.states after.states after.marks after.verdicts × (r.atoms ≡ length (atoms_of file)) × (r.rounds ≡ rounds_of file)
  filled_is = (
    record { answer = accepted-is; count = count_of_states; states_are = holds-states; marks_are = holds-marks; verdicts_are = holds-verdicts },
    count_of_atoms,
    count_of_rounds,
  )
