-- `listing_answer::findings` meets its contract: the parts of the buffers hold the file's states, model and verdicts. Assumes nothing.
use Rattle.meaning.proofs.Prelude.{sym, ◌∙◌, length-take-le}
use Rattle.meaning.specs.Calls.{states_of, model_of, verdicts_of}
use Rattle.byte_runs.proofs.Written.{holds-room, holds-first}
use Rattle.analysis.proofs.Shown.{preds-counted, preds-shown, marks-size, verdicts-size}
use Rattle.listing_answer.proofs.findings.Goals as goal

pub predicates-requires : goal.predicates-requires
predicates-requires c = preds-counted c.requires.filled.0 c.requires.filled.1

pub cells_of-size-requires : goal.cells_of-size-requires
cells_of-size-requires c = preds-shown c.requires.filled.0 c.requires.filled.1 c.predicates.ensures

pub returns-clause-results : goal.returns-clause-results
returns-clause-results c =
    let f = c.requires.filled.0 in
    let file = c.args.file.now in
    let knows = c.requires.filled.1 in (
      record {
        answer = f.answer;
        states_are_lem = holds-first (states_of file) c.args.states.now f.states_are f.count;
        marks_are_lem = holds-first (model_of file) c.args.marks.now f.marks_are (marks-size f knows c.predicates.ensures c.cells_of-size.ensures);
        verdicts_are_lem = holds-first (verdicts_of file) c.args.verdicts.now f.verdicts_are (verdicts-size f knows (c.from-queries.ensures ∙ c.count.ensures));
      },
      knows,
    )

pub slice_bounds-result-end-2 : goal.slice_bounds-result-end-2
slice_bounds-result-end-2 c =
    let f = c.requires.filled.0 in
    sym (length-take-le c.cells_of-size.result c.args.marks.now (holds-room (model_of c.args.file.now) c.args.marks.now f.marks_are (marks-size f c.requires.filled.1 c.predicates.ensures c.cells_of-size.ensures)))

pub slice_bounds-result-end-3 : goal.slice_bounds-result-end-3
slice_bounds-result-end-3 c =
    let f = c.requires.filled.0 in
    sym (length-take-le c.from-queries.result c.args.verdicts.now (holds-room (verdicts_of c.args.file.now) c.args.verdicts.now f.verdicts_are (verdicts-size f c.requires.filled.1 (c.from-queries.ensures ∙ c.count.ensures))))
