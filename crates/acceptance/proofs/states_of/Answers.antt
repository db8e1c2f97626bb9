-- `acceptance::states_of` meets its contract: what is known of the file is what determinising asks for. Assumes nothing.
use Rattle.meaning.proofs.Prelude.{◌≡◌, sym, ap, ◌∙◌, length}
use Rattle.meaning.proofs.Definitions.{refused, fields, states_of, accepted, read_answer}
use Rattle.std.proofs.lemmas.Result.{err_from_is_err_and}
use Rattle.answers.specs.Refused.{answered}
use Rattle.declarations.specs.Tests.{known_types}
use Rattle.states.proofs.Packed.{known_is, packed-answer}
use Rattle.states.specs.Packed.{packed}
use Rattle.acceptance.proofs.Ready.{symbols-counted, asked, states_asked, field_count_lem}
use Rattle.acceptance.proofs.Answering.{refused-answer, read_answer_lem}
use Rattle.acceptance.proofs.states_of.Goals as goal
use Rattle.acceptance.proofs.states_of.Goals.{In_ok-reading}

pub returns-in_err-reading : goal.returns-in_err-reading
returns-in_err-reading c = let p = err_from_is_err_and c.from_residual.result c.from_residual.ensures.1 in
    rw (p.1, p.2) (record { answer = refused-answer c.args.file.now c.in_err-reading.field-0.0 (sym (ap answered c.in_err-reading.was) ∙ c.requires.0); states = tt })

-- nothing is refused by reading
read : (c : In_ok-reading) → read_answer c.args.file.now ≡ accepted
read c = sym c.requires.0 ∙ ap answered c.in_ok-reading.was

pub symbols-requires : goal.symbols-requires
symbols-requires c = symbols-counted c.args.file.now c.args.reading.now.known (read (goal.at.symbols-requires c).In_ok-reading) c.requires.1

pub determinise-requires : goal.determinise-requires
determinise-requires c = let s = c.section-section.ensures in
    (_, asked c.args.file.now c.args.reading.now.known (read (goal.at.determinise-requires c).In_ok-reading) c.requires.1 (λ i. (s.0 i).now) s.1 s.2 c.symbols.ensures)

pub returns-in-Ok : goal.returns-in-Ok
returns-in-Ok c = let s = c.section-section.ensures in
    let file = c.args.file.now in
    let known = c.args.reading.now.known in
    let r = read (goal.at.returns-in-Ok c).In_ok-reading in
    let e = (c.in-Ok.ensures (known_types known) (asked file known r c.requires.1 (λ i. (s.0 i).now) s.1 s.2 c.symbols.ensures)).0 ∙ ap packed (states_asked file known r c.requires.1 (λ i. (s.0 i).now) s.1 s.2 c.symbols.ensures) in
    let k = known_is (states_of file) e in record {
      answer = packed-answer (states_of file) e (length (fields file)) ∙ sym (read_answer_lem file r);
      states = λ i. record { count = k.0 i; sets = k.2 i };
    }

pub returns-in-Err : goal.returns-in-Err
returns-in-Err c = let s = c.section-section.ensures in
    let file = c.args.file.now in
    let known = c.args.reading.now.known in
    let r = read (goal.at.returns-in-Err c).In_ok-reading in
    let e = (c.in-Err.ensures (known_types known) (asked file known r c.requires.1 (λ i. (s.0 i).now) s.1 s.2 c.symbols.ensures)).0 ∙ ap packed (states_asked file known r c.requires.1 (λ i. (s.0 i).now) s.1 s.2 c.symbols.ensures) in record {
      answer = ap (refused 8) (c.field_count.ensures ∙ field_count_lem file known r c.requires.1) ∙ packed-answer (states_of file) e (length (fields file)) ∙ sym (read_answer_lem file r);
      states = tt;
    }
