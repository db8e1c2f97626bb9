-- `analysis_output::write_open` meets its contract: the verdicts over the model are the file's. Assumes nothing.
use Rattle.meaning.proofs.Prelude.{ℕ, sym, ap, ◌∙◌, subst, ap₂, List, ◌++◌, map, lit≤, length, take, drop, length-take-le, le_trans, arith}
use Rattle.fields.specs.Found.{contents_from}
use Rattle.evaluation.specs.Plans.{Short}
use Rattle.evaluation.specs.Asking.{Asking}
use Rattle.acceptance.specs.Handed.{Queries, verdict_in}
use Rattle.acceptance.proofs.Handing.{few-states, few-preds, fit_preds, handed_asking, handed_queries, handed_short, handed_count, handed_needed, handed_verdicts, marks-room, marks_are_lem}
use Rattle.analysis_output.proofs.Contents.{section-is}
use Rattle.analysis_output.proofs.write_open.Goals as goal

pub cells_of-size-requires : goal.cells_of-size-requires
cells_of-size-requires c = let h = c.requires.handed.0.handed in (few-states h, le_trans (few-preds h) (lit≤ tt), fit_preds h)

pub slice_bounds-write_verdicts-end : goal.slice_bounds-write_verdicts-end
slice_bounds-write_verdicts-end c = let size = c.cells_of-size in
    sym (length-take-le size.result c.args.marks.now (marks-room c.requires.handed.0.handed c.requires.handed.1 size.ensures))

pub write_verdicts-requires : goal.write_verdicts-requires
write_verdicts-requires c = let f = c.args.handed.now in
    let p = c.requires.handed in
    let h = p.0.handed in
    let size = c.cells_of-size in
    let s = c.section-queries.result in
    let e = c.section-queries.ensures in
    let same = section-is f.accepted.file.now f.accepted.known.now 6 (λ i. (e.0 i).now) e.1 e.2 in record {
      asking = (
        subst (λ (types : ℕ). Asking types f.automaton.m f.accepted.states.now f.automaton.arities.now f.automaton.starts.now f.automaton.tables.now f.predicates.arities.now f.predicates.segments.now c.args.masks.now (take size.result c.args.marks.now))
            (sym c.count.ensures)
            (handed_asking h f.accepted.states.now c.args.masks.now (take size.result c.args.marks.now) p.0.states_are (marks_are_lem h p.1 size.ensures) c.requires.all_shown.0 c.requires.all_shown.1),
        omega (arith, e.2, handed_needed h, p.2),
      );
      queries = (
        ap length same ∙ handed_count h ∙ sym e.2,
        subst (λ (types : ℕ). Queries types f.automaton.arities.now f.predicates.arities.now (contents_from s.count (drop s.from s.bytes.now))) (sym c.count.ensures) (subst (Queries _ f.automaton.arities.now f.predicates.arities.now) (sym same) (handed_queries h)),
        subst Short (sym same) (handed_short h),
      );
    }

pub returns : goal.returns
returns c = let f = c.args.handed.now in
    let p = c.requires.handed in
    let h = p.0.handed in
    let size = c.cells_of-size in
    let e = c.section-queries.ensures in
    let same = section-is f.accepted.file.now f.accepted.known.now 6 (λ i. (e.0 i).now) e.1 e.2 in
    c.write_verdicts.ensures
    ∙ ap₂ (λ (l : List ℕ) (n : ℕ). l ++ drop n c.args.verdicts.now)
    (ap₂ (λ (types : ℕ) (cs : List (List ℕ)). map (verdict_in types f.automaton.m f.accepted.states.now f.automaton.arities.now f.automaton.tables.now f.predicates.arities.now (take size.result c.args.marks.now)) cs) c.count.ensures same
    ∙ handed_verdicts h f.accepted.states.now (take size.result c.args.marks.now) p.0.states_are (marks_are_lem h p.1 size.ensures))
    (e.2 ∙ sym (handed_needed h))
