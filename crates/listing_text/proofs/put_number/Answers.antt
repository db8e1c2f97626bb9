-- `listing_text::put_number` meets its contract. Assumes nothing.
use Rattle.text.specs.Decimal.{decimal}
use Rattle.byte_runs.proofs.Putting.{put_first, put_room, put_then}
use Rattle.listing_text.specs.Lines.{number_after}
use Rattle.listing_text.proofs.put_number.Goals as goal

pub put_bytes-next-requires : goal.put_bytes-next-requires
unfolding number_after
put_bytes-next-requires c = let a = c.args in
    put_first a.out.now a.at a.word.now (decimal a.n) c.requires

pub put_decimal-requires : goal.put_decimal-requires
unfolding number_after
put_decimal-requires c = let a = c.args in
    put_room a.out.now a.at a.word.now (decimal a.n) c.requires c.put_bytes-next.ensures

pub returns : goal.returns
unfolding number_after
returns c = let a = c.args in
    put_then a.out.now a.at a.word.now (decimal a.n) c.requires c.put_bytes-next.ensures c.put_decimal.ensures
