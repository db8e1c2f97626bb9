-- `listing_text::put_count` meets its contract. Assumes nothing.
use Rattle.meaning.proofs.Prelude.{[], ◌∷◌, arith}
use Rattle.byte_runs.proofs.Putting.{put_first, put_room, put_then}
use Rattle.listing_text.specs.Lines.{line_end, number_after, count_line}
use Rattle.listing_text.proofs.put_count.Goals as goal

pub put_number-next-requires : goal.put_number-next-requires
unfolding count_line
put_number-next-requires c = let a = c.args in
    put_first a.out.now a.at (number_after a.word.now a.n) (line_end ∷ []) c.requires

pub put_byte-requires : goal.put_byte-requires
unfolding count_line
put_byte-requires c = let a = c.args in
    omega (arith, put_room a.out.now a.at (number_after a.word.now a.n) (line_end ∷ []) c.requires c.put_number-next.ensures)

pub returns : goal.returns
unfolding count_line
returns c = let a = c.args in
    put_then a.out.now a.at (number_after a.word.now a.n) (line_end ∷ []) c.requires c.put_number-next.ensures c.put_byte.ensures
