-- `acceptance::write_file_tables` meets its contract: what is known of the file is what its tables ask for. Assumes nothing.
use Rattle.meaning.proofs.Prelude.{ℕ, ◌≤◌, sym, ap₂, ◌∙◌, subst, List, length}
use Rattle.meaning.proofs.Definitions.{most_states, cells}
use Rattle.declarations.specs.Tests.{known_types}
use Rattle.parser.proofs.Limits.{accepted-read, accepted-few}
use Rattle.acceptance.proofs.Ready.{symbols-counted, tables-length, asked, tables_asked}
use Rattle.acceptance.proofs.write_file_tables.Goals as goal

pub symbols-requires : goal.symbols-requires
symbols-requires c = let a = c.args.accepted.now in
    let h = c.requires.0 in
    symbols-counted a.file.now a.known.now (accepted-read a.file.now h.answer) h.knows

pub write_tables-requires : goal.write_tables-requires
write_tables-requires c = let a = c.args.accepted.now in
    let h = c.requires.0 in
    let read = accepted-read a.file.now h.answer in
    let s = c.section-section.ensures in record {
      states_len_bound = (
        subst (λ (l : List ℕ). length l ≤ most_states) (sym h.states_are) (accepted-few a.file.now h.answer),
        subst (λ (k : ℕ). k ≤ length c.args.buffer.now)
            (tables-length a.file.now a.known.now read h.knows ∙ ap₂ (λ (l ss : List ℕ). cells (length l) ss) (sym h.states_are) (sym c.symbols.ensures))
            c.requires.1,
      );
      by_index = (_, asked a.file.now a.known.now read h.knows (λ i. (s.0 i).now) s.1 s.2 c.symbols.ensures);
    }

pub returns : goal.returns
returns c = let a = c.args.accepted.now in
    let h = c.requires.0 in
    let read = accepted-read a.file.now h.answer in
    let s = c.section-section.ensures in
    c.write_tables.ensures (known_types a.known.now) (asked a.file.now a.known.now read h.knows (λ i. (s.0 i).now) s.1 s.2 c.symbols.ensures)
    ∙ tables_asked a.file.now a.known.now read h.knows (λ i. (s.0 i).now) s.1 s.2 c.symbols.ensures c.args.buffer.now h.states_are
