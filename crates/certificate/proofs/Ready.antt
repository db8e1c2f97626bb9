-- After an analysis without a refusal: what the sheet is put from, and that it gives the file's sheet. Assumes nothing.
use Rattle.meaning.proofs.Prelude.{ℕ, ◌≤◌, ◌≡◌, sym, ap, ◌∙◌, subst, List, length, take, length-take-le}
use Rattle.meaning.proofs.Definitions.{All, cells, model_of, atoms_of, written}
use Rattle.std.specs.Prelude.{Option}
use Rattle.declarations.specs.declared.Known.{Known}
use Rattle.declarations.specs.Tests.{known_predicates}
use Rattle.parser.proofs.Limits.{predicates_known, states-some}
use Rattle.byte_runs.proofs.Written.{holds-room, holds-first}
use Rattle.acceptance.specs.Accepted.{IsAccepted}
use Rattle.acceptance.proofs.Asked.{few-states, preds-asked, mark-cells}
use Rattle.acceptance.proofs.Handed.{narrow-predicates}
use Rattle.sheet_writer.specs.Fits.{sheet_of, if_room, fit_of}
use Rattle.certificate.proofs.Ends.{sheet_for}

-- the analysis of an accepted file, and as many marks as the cells of its predicates
module _ {file : List ℕ} {known : Known} {found : List ℕ} (h : IsAccepted file known found) {marks : List ℕ} (held : marks ≡ written (model_of file) marks) {preds : List ℕ} (e : preds ≡ known_predicates known) {size : ℕ} (cut : size ≡ cells (length found) preds) where
  marks-size : size ≡ length (model_of file)
  marks-size = cut ∙ mark-cells h e

  -- the marks of the model stand in front
  pub marks_fit : size ≤ length marks
  marks_fit = holds-room (model_of file) marks held marks-size

  pub marks-long : size ≡ length (take size marks)
  marks-long = sym (length-take-le size marks marks_fit)

  pub sheet-asked : (1 ≤ length found) × (length found ≤ 16) × (length preds ≤ 16) × All (λ n. n ≤ 3) preds × (length (take size marks) ≡ cells (length found) preds)
  sheet-asked = (
    subst (λ (l : List ℕ). 1 ≤ length l) (sym h.states_are) (states-some file h.answer),
    few-states h,
    (preds-asked h e).1,
    subst (All (λ n. n ≤ 3)) (sym e) (narrow-predicates file known h.answer h.knows),
    sym marks-long ∙ cut,
  )

  -- what is put is the file's sheet
  sheet-is : sheet_of found preds (take size marks) ≡ sheet_for file
  unfolding atoms_of
  sheet-is =
      let arities = e ∙ predicates_known file h.answer known h.knows in
      let model = holds-first (model_of file) marks held marks-size in
      λ i. sheet_of (h.states_are i) (arities i) (model i)

  pub put_is : (sheet : List ℕ) {r : Option ℕ} {sheet' : List ℕ}
      → (r ≡ fit_of (sheet_of found preds (take size marks)) sheet) × (sheet' ≡ if_room (sheet_of found preds (take size marks)) sheet)
      → (r ≡ fit_of (sheet_for file) sheet) × (sheet' ≡ if_room (sheet_for file) sheet)
  put_is sheet w = (w.0 ∙ ap (λ (l : List ℕ). fit_of l sheet) sheet-is, w.1 ∙ ap (λ (l : List ℕ). if_room l sheet) sheet-is)
