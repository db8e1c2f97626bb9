-- `listing_answer::answer` meets its contract: the line that is put is that of the analysis' own answer. Assumes nothing.
use Rattle.meaning.proofs.Prelude.{ℕ, sym, ap, ◌∙◌, subst, List}
use Rattle.meaning.specs.Refusals.{refused}
use Rattle.meaning.specs.Calls.{Buffers}
use Rattle.byte_runs.specs.Pasted.{Put}
use Rattle.listing_text.specs.Lines.{refusal_text, refused_line}
use Rattle.std.specs.Prelude.{Ok, Err}
use Rattle.listing_answer.proofs.Texts.{answer-is, no_text, line_text, put_nothing}
use Rattle.listing_answer.proofs.answer.Goals as goal

pub returns-in-Ok : goal.returns-in-Ok
returns-in-Ok c =
    let new = c.analyse.new in
    let before : Buffers = record { states = c.args.states.now; tables = c.args.tables.now; marks = c.args.marks.now; verdicts = c.args.verdicts.now } in
    let after : Buffers = record { states = new.states; tables = new.tables; marks = new.marks; verdicts = new.verdicts } in
    let is = answer-is c.args.file.now before after (Ok c.in-Ok.counts) c.in-Ok.ensures in
    record { analysis = c.in-Ok.ensures; line = put_nothing c.args.out.now _ (ap refusal_text (sym is) ∙ no_text) }

pub returns-in-Err : goal.returns-in-Err
returns-in-Err c =
    let new = c.analyse.new in
    let before : Buffers = record { states = c.args.states.now; tables = c.args.tables.now; marks = c.args.marks.now; verdicts = c.args.verdicts.now } in
    let after : Buffers = record { states = new.states; tables = new.tables; marks = new.marks; verdicts = new.verdicts } in
    let is = answer-is c.args.file.now before after (Err c.in-Err.refusal) c.in-Err.ensures in
    let put = c.put_refusal-text in
    let line = (λ i. refused_line (refused (c.number-number.ensures i) (c.place-place.ensures i))) ∙ (sym (line_text c.in-Err.refusal) ∙ ap refusal_text is) in
    record { analysis = c.in-Err.ensures; line = subst (λ (l : List ℕ). Put c.args.out.now 0 l put.new.out put.result) line put.ensures.0 }
