-- `sheet_check::check_sheet` meets its contract: what is handed on once the tables are written. Assumes nothing.
use Rattle.meaning.proofs.Prelude.{◌≤◌, ◌≡◌, sym, ◌∙◌, lit≤, length, length-take-le, arith}
use Rattle.meaning.proofs.Definitions.{model_of}
use Rattle.acceptance.proofs.Asked.{symbols-counted, predicates-counted, symbols-asked, preds-within, mark-cells, handed}
use Rattle.sheet_check.proofs.Ends.{zeros_written}
use Rattle.sheet_check.proofs.check_sheet.Goals as goal
use Rattle.sheet_check.proofs.check_sheet.Goals.{After-write_file_tables}

pub symbols-symbols-requires : goal.symbols-symbols-requires
symbols-symbols-requires c = symbols-counted c.requires.file_value

pub predicates-preds-requires : goal.predicates-preds-requires
predicates-preds-requires c = predicates-counted c.requires.file_value

pub starts_of-starts-requires : goal.starts_of-starts-requires
starts_of-starts-requires c = symbols-asked c.requires.file_value c.symbols-symbols.ensures

pub starts_of-segments-requires : goal.starts_of-segments-requires
starts_of-segments-requires c = preds-within c.requires.file_value c.predicates-preds.ensures 24 (lit≤ tt)

pub cells_of-size-requires : goal.cells_of-size-requires
cells_of-size-requires c = preds-within c.requires.file_value c.predicates-preds.ensures 32 (lit≤ tt)

pub write_file_tables-requires : goal.write_file_tables-requires
write_file_tables-requires c = (c.requires.file_value, c.requires.file_in_bounds.0)

-- the part of the marks is as long as the model
size_is : (c : After-write_file_tables) → c.cells_of-size.result ≡ length (model_of c.args.accepted.now.file.now)
size_is c = c.cells_of-size.ensures ∙ mark-cells c.requires.file_value c.predicates-preds.ensures

size_room : (c : After-write_file_tables) → c.cells_of-size.result ≤ length c.args.marks.now
size_room c = omega (arith, size_is c, c.requires.file_in_bounds.1)

pub slice_bounds-judge_cleanly-end : goal.slice_bounds-judge_cleanly-end
slice_bounds-judge_cleanly-end c = size_room (goal.at.slice_bounds-judge_cleanly-end c).After-write_file_tables

pub slice_bounds-judge_cleanly-end-2 : goal.slice_bounds-judge_cleanly-end-2
slice_bounds-judge_cleanly-end-2 c = sym (length-take-le c.cells_of-size.result c.args.marks.now (size_room (goal.at.slice_bounds-judge_cleanly-end-2 c).After-write_file_tables))

pub judge_cleanly-requires : goal.judge_cleanly-requires
judge_cleanly-requires c = let h = c.requires.file_value in (
  record {
    handed = handed h c.args.tables.now c.symbols-symbols.ensures c.predicates-preds.ensures c.starts_of-starts.ensures c.starts_of-segments.ensures c.write_file_tables.ensures;
    states_are = h.states_are;
  },
  length-take-le c.cells_of-size.result c.args.marks.now (size_room (goal.at.judge_cleanly-requires c).After-write_file_tables) ∙ c.cells_of-size.ensures,
)

pub returns : goal.returns
returns c = let done = c.judge_cleanly.ensures in record {
  answer = done.answer;
  tables = c.write_file_tables.ensures;
  marks = zeros_written c.args.marks.now done.marks c.cells_of-size.ensures (size_is (goal.at.returns c).After-write_file_tables);
}
