-- `analysis::fill_buffers` meets its contract. Assumes nothing.
use Rattle.meaning.proofs.Prelude.{lit≤}
use Rattle.acceptance.proofs.Asked.{symbols-counted, predicates-counted, symbols-asked, preds-within, handed}
use Rattle.analysis.proofs.fill_buffers.Goals as goal

pub symbols-symbols-requires : goal.symbols-symbols-requires
symbols-symbols-requires c = symbols-counted c.requires.file_value

pub predicates-preds-requires : goal.predicates-preds-requires
predicates-preds-requires c = predicates-counted c.requires.file_value

pub starts_of-starts-requires : goal.starts_of-starts-requires
starts_of-starts-requires c = symbols-asked c.requires.file_value c.symbols-symbols.ensures

pub starts_of-segments-requires : goal.starts_of-segments-requires
starts_of-segments-requires c = preds-within c.requires.file_value c.predicates-preds.ensures 24 (lit≤ tt)

pub write_file_tables-requires : goal.write_file_tables-requires
write_file_tables-requires c = (c.requires.file_value, c.requires.file_in_bounds.1)

pub write_results-counted-requires : goal.write_results-counted-requires
write_results-counted-requires c = let h = c.requires.file_value in (
  record {
    handed = handed h c.args.tables.now c.symbols-symbols.ensures c.predicates-preds.ensures c.starts_of-starts.ensures c.starts_of-segments.ensures c.write_file_tables.ensures;
    states_are = h.states_are;
  },
  c.requires.file_in_bounds.2,
  c.requires.file_in_bounds.3,
)
