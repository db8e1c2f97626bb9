-- `listing_text::put_counts` meets its contract. Assumes nothing.
use Rattle.byte_runs.proofs.Putting.{put_first, put_room, put_then}
use Rattle.listing_text.specs.Lines.{number_after, count_line, counts_line}
use Rattle.listing_text.proofs.put_counts.Goals as goal

pub put_number-next-requires : goal.put_number-next-requires
unfolding counts_line
put_number-next-requires c = let a = c.args in
    put_first a.out.now a.at (number_after a.first.now a.a) (count_line a.second.now a.b) c.requires

pub put_count-requires : goal.put_count-requires
unfolding counts_line
put_count-requires c = let a = c.args in
    put_room a.out.now a.at (number_after a.first.now a.a) (count_line a.second.now a.b) c.requires c.put_number-next.ensures

pub returns : goal.returns
unfolding counts_line
returns c = let a = c.args in
    put_then a.out.now a.at (number_after a.first.now a.a) (count_line a.second.now a.b) c.requires c.put_number-next.ensures c.put_count.ensures
