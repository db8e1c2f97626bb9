-- The goals that are not found.
use Rattle.meaning.proofs.Prelude.{◌+◌, get_or, drop, arith}
use Rattle.meaning.proofs.Definitions.{state_tag, encode_field, state_bytes}
use Rattle.byte_runs.proofs.Putting.{left_start, left_room, left_next, left_end}
use Rattle.sheet_writer.specs.Parts.{state_fields}
use Rattle.sheet_writer.proofs.Fields.{states-next, states-end, states-length}
use Rattle.sheet_writer.proofs.put_state_fields.Goals as goal

pub loop-state-init : goal.loop-state-init
loop-state-init c = let a = c.args in
    left_start a.sheet.now 0 (state_fields a.states.now) (omega (arith, states-length a.states.now))

pub put_state_field-at-requires : goal.put_state_field-at-requires
put_state_field-at-requires c = let a = c.args in
    let l = c.loop-state in
    left_room a.sheet.now 0 (state_fields a.states.now) l.sheet l.at (encode_field state_tag (state_bytes (get_or a.states.now l.state-index 0))) (state_fields (drop (l.state-index + 1) a.states.now))
    (states-next a.states.now l.state-index (omega arith)) l.invariant

pub loop-state-preserved : goal.loop-state-preserved
loop-state-preserved c = let a = c.args in
    let l = c.loop-state in
    left_next a.sheet.now 0 (state_fields a.states.now) l.sheet l.at (encode_field state_tag (state_bytes (get_or a.states.now l.state-index 0))) (state_fields (drop (l.state-index + 1) a.states.now))
    (states-next a.states.now l.state-index (omega arith)) l.invariant c.put_state_field-at.ensures

pub returns : goal.returns
returns c = let a = c.args in
    let l = c.loop-state in
    let w = left_end a.sheet.now 0 (state_fields a.states.now) l.sheet l.at (states-end a.states.now l.state-index (omega arith)) l.invariant in
    (w.0, omega (arith, w.1, states-length a.states.now))
