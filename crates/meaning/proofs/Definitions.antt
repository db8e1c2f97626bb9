-- The definitions of specs/ that proofs use, for one import. Contracts name the files of specs/ themselves. Assumes nothing.
pub use Rattle.meaning.specs.Lists.{All, Rising, all_of, any_below, any_of, joined, lowest, nonzero, ones, padded, same, table}
pub use Rattle.meaning.specs.Syntax.{Atom, Clause, Condition, Named, Production, Query, Rules, Term, Terms, Tree, Trees, ◌▸◌, ◌▹◌, app, end}
pub use Rattle.meaning.specs.Syntax.{free, is_of, leaf, node, not_of, term_count, tree_count, var}
pub use Rattle.meaning.specs.Limits.{Kind, atom_tag, clause, first_variable, free_byte, most_body, most_content, most_file_bytes, most_name, most_of}
pub use Rattle.meaning.specs.Limits.{most_predicate_arity, most_states, most_symbol_arity, most_variables, predicate, production, query, state_tag}
pub use Rattle.meaning.specs.Limits.{symbol, tag_of, type}
unfoldable pub use Rattle.meaning.specs.Fields.{fields, first_field}
pub use Rattle.meaning.specs.Fields.{Bytes, Field, Front, contents_of, cut, empty, encode_field, fields_within, front, front_of, on_front, short}
pub use Rattle.meaning.specs.Fields.{whole, word}
unfoldable pub use Rattle.meaning.specs.Contents.{term_within, terms_within, read_atom, read_atoms, read_clause, read_conditions, read_query, read_term, read_terms}
pub use Rattle.meaning.specs.Contents.{Read, ◌>>=◌, complete, declared, is_name, is_named, is_production, is_some, name_byte, provided}
pub use Rattle.meaning.specs.Contents.{read_condition}
unfoldable pub use Rattle.meaning.specs.Refusals.{first_refused, refusal}
pub use Rattle.meaning.specs.Refusals.{Answer, accepted, and_then, arities_in, contents, first_byte, is_cut, is_refused, kind_of, laid_out}
pub use Rattle.meaning.specs.Refusals.{laid_out_after, last_tag, malformed, name_taken, names_in, no_constant, ok, refuse_if, refused, test_kind}
pub use Rattle.meaning.specs.Refusals.{too_many, types_in, wrong_tag}
unfoldable pub use Rattle.meaning.specs.Encoding.{encode_rules}
pub use Rattle.meaning.specs.Encoding.{contents_for, encode_atom, encode_clause, encode_condition, encode_kind, encode_named, encode_production}
pub use Rattle.meaning.specs.Encoding.{encode_query, encode_term, encode_terms, kinds}
pub use Rattle.meaning.specs.Legal.{Declared, Legal, NoneTwice, WellAtom, WellClause, WellCondition, WellProduction, WellQuery, WellTerm}
pub use Rattle.meaning.specs.Legal.{WellTerms, arities, names}
unfoldable pub use Rattle.meaning.specs.Types.{signature, step}
pub use Rattle.meaning.specs.Types.{AreGround, IsGround, IsTypeSet, OfType, OfTypes, SameTypes, Sym, allowed, bit, fits, has, numbered, types_of}
pub use Rattle.meaning.specs.Types.{types_ofs}
pub use Rattle.meaning.specs.Cells.{cell, cells, row_of, start}
unfoldable pub use Rattle.meaning.specs.States.{cell_of, determinise, tables}
pub use Rattle.meaning.specs.States.{MoreStates, grow, index_of, insert_all, insert_rising, look_up, reached, saturate, sets_at, tables_from}
unfoldable pub use Rattle.meaning.specs.Files.{file_answer, read_answer, rules_in, rules_of, states_for}
pub use Rattle.meaning.specs.Files.{answer_at, named, production_of, read_all}
unfoldable pub use Rattle.meaning.specs.Clauses.{brings, is_open, model, next, rounds, stage}
pub use Rattle.meaning.specs.Clauses.{AtomSet, Brought, Closed, InstanceIn, IsAtom, IsValuation, Open, Stage, brings_under, instance_in, marked}
pub use Rattle.meaning.specs.Clauses.{meets, meets_all, place, term_state, term_states}
pub use Rattle.meaning.specs.Ground.{Derivable, GroundClosed, GroundIn, GroundMeets, GroundMeetsAll, GroundSet, IsSubstitution, NoneDerivable}
pub use Rattle.meaning.specs.Ground.{ground, grounds}
unfoldable pub use Rattle.meaning.specs.Certificates.{check_fields, encode_sheet, marked_atoms, answer_of_sheet, violated}
pub use Rattle.meaning.specs.Certificates.{Carries, GivenSheet, InSheet, IsOrder, IsSheetAtom, LaidOut, LowestViolation, Valid, Violation}
pub use Rattle.meaning.specs.Certificates.{among, atoms_from, differ, is_atom_content, misplaced, refused_at, state_bytes, states_in, violated_at}
pub use Rattle.meaning.specs.Certificates.{wrong_atom}
unfoldable pub use Rattle.meaning.specs.Calls.{analysed, analysis_answer, atoms_of, check_answer, checked, interpretation_of, lent_answer, model_of}
unfoldable pub use Rattle.meaning.specs.Calls.{predicate_arities, rounds_of, states_of, step_of, symbol_arities, tables_of, verdict_of, verdicts_of}
unfoldable pub use Rattle.meaning.specs.Calls.{writing_answer, written_in}
pub use Rattle.meaning.specs.Calls.{Admitted, Analysed, AnalysisOf, Buffers, CheckOf, Checked, Lent, LentEnough, LongEnough, OrderOf, Passes}
pub use Rattle.meaning.specs.Calls.{Written, WrittenInOrder, analysis_done, check_done, counted, filled, holds, lent_enough, long_enough, ours}
pub use Rattle.meaning.specs.Calls.{without_sheet, written}
pub use Rattle.meaning.specs.Given.{Acceptable, Accepted, FirstFits, FirstOf, FirstRefusal, Given, GivenAnalysis, GivenCheck, GivenReading}
pub use Rattle.meaning.specs.Given.{GivenWriting, HasConstant, NoneFits, NoneOf, NoneRefused}
pub use Rattle.meaning.specs.Demand1.{Demand1}
pub use Rattle.meaning.specs.Demand2.{AreStatesOf, Demand2, InEveryClosed, IsStateOf, OpenIn, Settled, interpret_in, mark_in, sets_in}
pub use Rattle.meaning.specs.Demand3.{Demand3}
