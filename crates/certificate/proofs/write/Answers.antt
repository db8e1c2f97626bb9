-- `certificate::write` meets its contract. Assumes nothing.
use Rattle.std.proofs.lemmas.Result.{err_from_is_err_and}
use Rattle.meaning.specs.Calls.{Buffers}
use Rattle.acceptance.proofs.Kept.{states-few, kept, refused-with}
use Rattle.certificate.proofs.Ends.{file_refused}
use Rattle.certificate.proofs.write.Goals as goal

pub returns-in_err-found : goal.returns-in_err-found
returns-in_err-found c = let before : Buffers = record { states = c.args.states.now; tables = c.args.tables.now; marks = c.args.marks.now; verdicts = c.args.verdicts.now } in
    let p = err_from_is_err_and c.from_residual.result c.from_residual.ensures.1 in
    rw (p.1, p.2) (file_refused c.args.file.now before c.args.sheet.now c.in_err-found.field-0.0 (refused-with c.args.file.now c.accept-acceptance.result c.accept-acceptance.ensures c.in_err-found.was))

pub as_slice-requires : goal.as_slice-requires
as_slice-requires c = states-few c.args.file.now c.accept-acceptance.result c.accept-acceptance.ensures c.in_ok-found.was

pub write_accepted-requires : goal.write_accepted-requires
write_accepted-requires c = kept c.args.file.now c.accept-acceptance.result c.accept-acceptance.ensures c.in_ok-found.was c.as_slice.ensures
