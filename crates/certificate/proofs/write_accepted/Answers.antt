-- `certificate::write_accepted` meets its contract, with the atoms in the order of their cells. Assumes nothing.
use Rattle.meaning.proofs.Prelude.{◌≡◌, refl, lit≤, arith}
use Rattle.meaning.proofs.Definitions.{model_of, written, Buffers}
use Rattle.std.proofs.lemmas.Result.{err_from_is_err_and}
use Rattle.acceptance.proofs.Asked.{predicates-counted, preds-within}
use Rattle.analysis.proofs.Done.{holds-marks}
use Rattle.sheet_writer.proofs.Sheets.{fit_whole, fit_short}
use Rattle.certificate.proofs.Ends.{sheet_for, analysis-refused, sheet-short, done}
use Rattle.certificate.proofs.Ready.{marks_fit, marks-long, sheet-asked, put_is}
use Rattle.certificate.proofs.write_accepted.Goals as goal
use Rattle.certificate.proofs.write_accepted.Goals.{In_ok-counts}

pub returns-in_err-counts : goal.returns-in_err-counts
returns-in_err-counts c = let before : Buffers = record { states = c.args.states.now; tables = c.args.tables.now; marks = c.args.marks.now; verdicts = c.args.verdicts.now } in
    let p = err_from_is_err_and c.from_residual.result c.from_residual.ensures.1 in
    rw (p.1, p.2) (analysis-refused c.args.accepted.now.file.now before c.args.sheet.now c.in_err-counts.field-0.0 c.in_err-counts.ensures)

pub predicates-preds-requires : goal.predicates-preds-requires
predicates-preds-requires c = predicates-counted c.requires

pub cells_of-size-requires : goal.cells_of-size-requires
cells_of-size-requires c = preds-within c.requires c.predicates-preds.ensures 32 (lit≤ tt)

-- the model in the marks
held : (c : In_ok-counts) → c.analyse_accepted.new.marks ≡ written (model_of c.args.accepted.now.file.now) c.analyse_accepted.new.marks
held c =
    let before : Buffers = record { states = c.args.states.now; tables = c.args.tables.now; marks = c.args.marks.now; verdicts = c.args.verdicts.now } in
    let new = c.analyse_accepted.new in
    holds-marks c.args.accepted.now.file.now before (record { states = new.states; tables = new.tables; marks = new.marks; verdicts = new.verdicts }) c.in_ok-counts.counts c.in_ok-counts.ensures

pub slice_bounds-put_sheet-end : goal.slice_bounds-put_sheet-end
slice_bounds-put_sheet-end c = marks_fit c.requires (held (goal.at.slice_bounds-put_sheet-end c).In_ok-counts) c.predicates-preds.ensures c.cells_of-size.ensures

pub slice_bounds-put_sheet-end-2 : goal.slice_bounds-put_sheet-end-2
slice_bounds-put_sheet-end-2 c = marks-long c.requires (held (goal.at.slice_bounds-put_sheet-end-2 c).In_ok-counts) c.predicates-preds.ensures c.cells_of-size.ensures

pub put_sheet-requires : goal.put_sheet-requires
put_sheet-requires c = sheet-asked c.requires (held (goal.at.put_sheet-requires c).In_ok-counts) c.predicates-preds.ensures c.cells_of-size.ensures

pub returns-in_default : goal.returns-in_default
returns-in_default c = let before : Buffers = record { states = c.args.states.now; tables = c.args.tables.now; marks = c.args.marks.now; verdicts = c.args.verdicts.now } in
    let put = put_is c.requires (held (goal.at.returns-in_default c).In_ok-counts) c.predicates-preds.ensures c.cells_of-size.ensures c.args.sheet.now c.put_sheet.ensures in
    sheet-short c.args.accepted.now.file.now before c.args.sheet.now c.in_ok-counts.ensures refl put.1 (fit_short (sheet_for c.args.accepted.now.file.now) c.args.sheet.now put.0 c.in_default.is)

pub returns : goal.returns
returns c = let before : Buffers = record { states = c.args.states.now; tables = c.args.tables.now; marks = c.args.marks.now; verdicts = c.args.verdicts.now } in
    let put = put_is c.requires (held (goal.at.returns c).In_ok-counts) c.predicates-preds.ensures c.cells_of-size.ensures c.args.sheet.now c.put_sheet.ensures in
    let whole = fit_whole (sheet_for c.args.accepted.now.file.now) c.args.sheet.now put.0 c.in-Some.is in
    done c.args.accepted.now.file.now before c.args.sheet.now c.in_ok-counts.ensures whole.0 put.1 (omega (arith, whole))
