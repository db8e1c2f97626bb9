-- The parts of the filled buffers that hold an accepted file's states, model and verdicts. Assumes nothing.
use Rattle.meaning.proofs.Prelude.{ℕ, ◌≤◌, ◌≡◌, refl, sym, ap, ◌∙◌, subst, List, lit≤, length, get_or}
use Rattle.meaning.proofs.Definitions.{cells, states_of, model_of, verdicts_of}
use Rattle.declarations.specs.declared.Known.{Known}
use Rattle.declarations.specs.Known.{Knows, fields_read}
use Rattle.declarations.specs.Tests.{known_predicates}
use Rattle.acceptance.specs.Accepted.{IsAccepted}
use Rattle.acceptance.proofs.Asked.{FewAndNarrow, predicates-counted, queries-counted, preds-within, mark-cells}
use Rattle.analysis.specs.Given.{Filled}

module _ {file : List ℕ} {m : ℕ} {states marks verdicts : List ℕ} (f : Filled file m states marks verdicts) {known : Known} (knows : Knows known (fields_read file)) where
  accepted : IsAccepted file known (states_of file)
  accepted = record { answer = f.answer; knows = knows; states_are = refl }

  pub preds-counted : get_or known.counts 4 0 ≤ 16
  preds-counted = predicates-counted accepted

  module _ {preds : List ℕ} (e : preds ≡ known_predicates known) where
    pub preds-shown : FewAndNarrow 32 m preds
    preds-shown = subst (λ (n : ℕ). FewAndNarrow 32 n preds) (sym f.count) (preds-within accepted e 32 (lit≤ tt))

    pub marks-size : {size : ℕ} → size ≡ cells m preds → size ≡ length (model_of file)
    marks-size is = is ∙ (ap (λ (n : ℕ). cells n preds) f.count ∙ mark-cells accepted e)

  pub verdicts-size : {n : ℕ} → n ≡ get_or known.counts 6 0 → n ≡ length (verdicts_of file)
  verdicts-size e = e ∙ queries-counted accepted
