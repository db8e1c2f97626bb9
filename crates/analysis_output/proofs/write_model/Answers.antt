-- `analysis_output::write_model` meets its contract: the model is worked out in a part of the marks that has as many as there are domain atoms. Assumes nothing.
use Rattle.meaning.proofs.Prelude.{ℕ, sym, ap, ◌∙◌, subst, ap₂, List, ◌++◌, lit≤, length, drop, length-take-le, le_trans, arith}
use Rattle.meaning.proofs.Definitions.{model, rounds, look_up}
use Rattle.meaning.specs.Certificates.{marked_atoms}
use Rattle.evaluation.specs.Search.{clauses_in, AllShown}
use Rattle.evaluation.proofs.Definitions.{Modelling}
use Rattle.acceptance.proofs.Handing.{few-states, few-preds, narrow-preds, fit_preds, handed_modelling, handed_clauses, handed_model, handed_rounds, handed_size, handed_atoms}
use Rattle.analysis_output.proofs.Contents.{section-is}
use Rattle.analysis_output.proofs.write_model.Goals as goal

pub cells_of-size-requires : goal.cells_of-size-requires
cells_of-size-requires c = let h = c.requires.handed.0.handed in (few-states h, le_trans (few-preds h) (lit≤ tt), fit_preds h)

pub slice_bounds-part-end : goal.slice_bounds-part-end
slice_bounds-part-end c = omega (arith, c.cells_of-size.ensures, handed_size c.requires.handed.0.handed, c.requires.handed.1)

pub slice_bounds-part-end-2 : goal.slice_bounds-part-end-2
slice_bounds-part-end-2 c = sym (length-take-le c.cells_of-size.result c.args.marks.now (omega (arith, c.cells_of-size.ensures, handed_size c.requires.handed.0.handed, c.requires.handed.1)))

pub run-rounds-requires-clause-modelling : goal.run-rounds-requires-clause-modelling
run-rounds-requires-clause-modelling c = let f = c.args.handed.now in
    let h = c.requires.handed.0.handed in
    let e = c.section-clauses.ensures in
    let same = section-is f.accepted.file.now f.accepted.known.now 5 (λ i. (e.0 i).now) e.1 e.2 in (
      subst (Modelling f.automaton.m f.automaton.arities.now f.automaton.starts.now f.automaton.tables.now f.predicates.arities.now f.predicates.segments.now) (sym same) (handed_modelling h),
      ap length same ∙ handed_clauses h ∙ sym e.2,
      length-take-le c.cells_of-size.result c.args.marks.now (omega (arith, c.cells_of-size.ensures, handed_size h, c.requires.handed.1)) ∙ c.cells_of-size.ensures,
    )

pub count_all-atoms-requires : goal.count_all-atoms-requires
count_all-atoms-requires c = let h = c.requires.handed.0.handed in (
  few-states h,
  narrow-preds h,
  c.run-rounds.auto.marks ∙ length-take-le c.cells_of-size.result c.args.marks.now (omega (arith, c.cells_of-size.ensures, handed_size h, c.requires.handed.1)) ∙ c.cells_of-size.ensures,
)

pub returns : goal.returns
returns c = let f = c.args.handed.now in
    let h = c.requires.handed.0.handed in
    let e = c.section-clauses.ensures in
    let same = section-is f.accepted.file.now f.accepted.known.now 5 (λ i. (e.0 i).now) e.1 e.2 in
    let run = c.run-rounds in
    let means = look_up f.automaton.m f.automaton.arities.now f.automaton.tables.now in
    let preds = f.predicates.arities.now in
    let is = run.ensures.model ∙ ap (λ (cs : List (List ℕ)). model f.automaton.m means preds (clauses_in f.automaton.arities.now preds cs)) same ∙ handed_model h in record {
      model = (
        ap₂ (λ (l : List ℕ) (k : ℕ). l ++ drop k c.args.marks.now) is (c.cells_of-size.ensures ∙ handed_size h),
        c.count_all-atoms.ensures ∙ ap (λ (l : List ℕ). length (marked_atoms f.automaton.m preds l)) is ∙ handed_atoms h,
        run.ensures.rounds ∙ ap (λ (cs : List (List ℕ)). rounds f.automaton.m means preds (clauses_in f.automaton.arities.now preds cs)) same ∙ handed_rounds h,
      );
      shown = subst (λ (l : List ℕ). AllShown f.automaton.m preds l run.new.masks) is run.ensures.shown;
    }
