-- `sheet_check::check` meets its contract. Assumes nothing.
use Rattle.std.proofs.lemmas.Result.{err_from_is_err_and}
use Rattle.acceptance.proofs.Kept.{states-few, kept, refused-with}
use Rattle.sheet_check.proofs.Ends.{file_refused}
use Rattle.sheet_check.proofs.check.Goals as goal

pub returns-in_err-found : goal.returns-in_err-found
returns-in_err-found c = let p = err_from_is_err_and c.from_residual.result c.from_residual.ensures.1 in
    rw (p.1, p.2) (file_refused c.args.file.now c.args.sheet.now (record { tables = c.args.tables.now; marks = c.args.marks.now }) c.in_err-found.field-0.0 (refused-with c.args.file.now c.accept-acceptance.result c.accept-acceptance.ensures c.in_err-found.was))

pub as_slice-requires : goal.as_slice-requires
as_slice-requires c = states-few c.args.file.now c.accept-acceptance.result c.accept-acceptance.ensures c.in_ok-found.was

pub check_accepted-requires : goal.check_accepted-requires
check_accepted-requires c = kept c.args.file.now c.accept-acceptance.result c.accept-acceptance.ensures c.in_ok-found.was c.as_slice.ensures
