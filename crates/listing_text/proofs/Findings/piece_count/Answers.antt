-- `listing_text::Findings::piece_count` meets its contract. Assumes nothing.
use Rattle.meaning.proofs.Prelude.{ap, length, arith}
use Rattle.meaning.proofs.Calls.{verdicts-length}
use Rattle.listing_text.proofs.Numbers.{pieces_are}
use Rattle.parser.proofs.Limits.{accepted-few}
use Rattle.listing_text.proofs.Found.{marks-few}
use Rattle.listing_text.proofs.Findings.piece_count.Goals as goal

pub returns : goal.returns
returns c = λ file r. omega (arith, pieces_are file, ap length r.states_are_lem, ap length r.marks_are_lem, ap length r.verdicts_are_lem, verdicts-length file)

pub overflow_add-result-2 : goal.overflow_add-result-2
overflow_add-result-2 c =
    let file = c.requires.0 in
    let r = c.requires.1 in
    omega (arith, ap length r.states_are_lem, accepted-few file r.answer, ap length r.marks_are_lem, marks-few file r.answer)

pub overflow_add-result-3 : goal.overflow_add-result-3
overflow_add-result-3 c =
    let file = c.requires.0 in
    let r = c.requires.1 in
    omega (arith, ap length r.states_are_lem, accepted-few file r.answer, ap length r.marks_are_lem, marks-few file r.answer)
