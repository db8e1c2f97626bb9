-- The goals that are not found.
use Rattle.meaning.proofs.Prelude.{◌+◌, [], ◌∷◌, drop, arith}
use Rattle.byte_runs.proofs.Putting.{left_start, left_room, left_next, left_end}
use Rattle.listing_text.specs.Lines.{space, number_after, row_text}
use Rattle.listing_text.proofs.Texts.{row_next, row-end}
use Rattle.listing_text.proofs.put_row.Goals as goal

pub loop-state-init : goal.loop-state-init
loop-state-init c = let a = c.args in
    left_start a.out.now a.at (row_text a.row.now) c.requires

pub put_number-next-requires : goal.put_number-next-requires
put_number-next-requires c = let a = c.args in
    let l = c.loop-state in
    left_room a.out.now a.at (row_text a.row.now) l.out l.next (number_after (space ∷ []) c.from.result) (row_text (drop (l.state-index + 1) a.row.now))
    (row_next a.row.now l.state-index c.from.ensures (omega arith)) l.invariant

pub loop-state-preserved : goal.loop-state-preserved
loop-state-preserved c = let a = c.args in
    let l = c.loop-state in
    left_next a.out.now a.at (row_text a.row.now) l.out l.next (number_after (space ∷ []) c.from.result) (row_text (drop (l.state-index + 1) a.row.now))
    (row_next a.row.now l.state-index c.from.ensures (omega arith)) l.invariant c.put_number-next.ensures

pub returns : goal.returns
returns c = let a = c.args in
    let l = c.loop-state in
    left_end a.out.now a.at (row_text a.row.now) l.out l.next (row-end a.row.now l.state-index (omega arith)) l.invariant
