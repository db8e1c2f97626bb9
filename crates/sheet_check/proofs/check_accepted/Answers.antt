-- `sheet_check::check_accepted` meets its contract: the lengths are looked at before anything is written. Assumes nothing.
use Rattle.meaning.proofs.Prelude.{sym, ◌∙◌}
use Rattle.meaning.proofs.Lists.{T_of}
use Rattle.meaning.specs.Calls.{Lent}
use Rattle.acceptance.proofs.Asked.{symbols-counted, predicates-counted, lengths-asked}
use Rattle.sheet_check.proofs.Ends.{too_short, done, enough-is, room}
use Rattle.sheet_check.proofs.check_accepted.Goals as goal

pub symbols-requires : goal.symbols-requires
symbols-requires c = symbols-counted c.requires

pub predicates-requires : goal.predicates-requires
predicates-requires c = predicates-counted c.requires

pub lent_enough-enough-requires : goal.lent_enough-enough-requires
lent_enough-enough-requires c = lengths-asked c.requires c.symbols.ensures c.predicates.ensures

pub returns-then-not-enough : goal.returns-then-not-enough
returns-then-not-enough c = let before : Lent = record { tables = c.args.tables.now; marks = c.args.marks.now } in
    let test = c.lent_enough-enough.ensures ∙ enough-is c.args.accepted.now.file.now c.args.sheet.now before c.requires c.symbols.ensures c.predicates.ensures in
    too_short c.args.accepted.now.file.now c.args.sheet.now before c.requires.answer (sym test ∙ c.if-not-enough.true)

pub check_sheet-requires-clause-file_in_bounds : goal.check_sheet-requires-clause-file_in_bounds
check_sheet-requires-clause-file_in_bounds c = let before : Lent = record { tables = c.args.tables.now; marks = c.args.marks.now } in
    let test = c.lent_enough-enough.ensures ∙ enough-is c.args.accepted.now.file.now c.args.sheet.now before c.requires c.symbols.ensures c.predicates.ensures in
    room c.args.accepted.now.file.now c.args.sheet.now before (T_of _ (sym test ∙ c.if-not-enough.false))

pub returns : goal.returns
returns c = let before : Lent = record { tables = c.args.tables.now; marks = c.args.marks.now } in
    let test = c.lent_enough-enough.ensures ∙ enough-is c.args.accepted.now.file.now c.args.sheet.now before c.requires c.symbols.ensures c.predicates.ensures in
    let ends = c.check_sheet.ensures in
    done c.args.accepted.now.file.now c.args.sheet.now before c.requires.answer (sym test ∙ c.if-not-enough.false) c.check_sheet.result ends.answer ends.tables ends.marks
