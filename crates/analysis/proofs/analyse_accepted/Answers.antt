-- `analysis::analyse_accepted` meets its contract: the lengths are looked at before anything is written. Assumes nothing.
use Rattle.meaning.proofs.Prelude.{sym, ◌∙◌}
use Rattle.meaning.proofs.Definitions.{Buffers}
use Rattle.meaning.proofs.Lists.{T_of}
use Rattle.acceptance.proofs.Asked.{symbols-counted, predicates-counted, lengths-asked}
use Rattle.analysis.proofs.Ends.{too_short, done, enough-is, room}
use Rattle.analysis.proofs.analyse_accepted.Goals as goal

pub symbols-requires : goal.symbols-requires
symbols-requires c = symbols-counted c.requires

pub predicates-requires : goal.predicates-requires
predicates-requires c = predicates-counted c.requires

pub long_enough-enough-requires : goal.long_enough-enough-requires
long_enough-enough-requires c = lengths-asked c.requires c.symbols.ensures c.predicates.ensures

pub returns-then-not-enough : goal.returns-then-not-enough
returns-then-not-enough c = let before : Buffers = record { states = c.args.states.now; tables = c.args.tables.now; marks = c.args.marks.now; verdicts = c.args.verdicts.now } in
    let test = c.long_enough-enough.ensures ∙ enough-is c.args.accepted.now.file.now before c.requires c.symbols.ensures c.predicates.ensures c.count.ensures in
    too_short c.args.accepted.now.file.now before c.requires.answer (sym test ∙ c.if-not-enough.true)

pub fill_buffers-requires-clause-file_in_bounds : goal.fill_buffers-requires-clause-file_in_bounds
fill_buffers-requires-clause-file_in_bounds c = let before : Buffers = record { states = c.args.states.now; tables = c.args.tables.now; marks = c.args.marks.now; verdicts = c.args.verdicts.now } in
    let test = c.long_enough-enough.ensures ∙ enough-is c.args.accepted.now.file.now before c.requires c.symbols.ensures c.predicates.ensures c.count.ensures in
    room c.args.accepted.now.file.now before (T_of _ (sym test ∙ c.if-not-enough.false))

pub returns : goal.returns
returns c = let before : Buffers = record { states = c.args.states.now; tables = c.args.tables.now; marks = c.args.marks.now; verdicts = c.args.verdicts.now } in
    let test = c.long_enough-enough.ensures ∙ enough-is c.args.accepted.now.file.now before c.requires c.symbols.ensures c.predicates.ensures c.count.ensures in
    c.fill_buffers.ensures ∙ done c.args.accepted.now.file.now before c.requires.answer (sym test ∙ c.if-not-enough.false)
