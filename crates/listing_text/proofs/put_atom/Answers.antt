-- `listing_text::put_atom` meets its contract. Assumes nothing.
use Rattle.listing_text.specs.Lines.{row_text, named_text}
use Rattle.listing_text.proofs.Putting.{line_first, line_second, line-last, line_put}
use Rattle.listing_text.proofs.put_atom.Goals as goal

pub put_bytes-from-requires : goal.put_bytes-from-requires
unfolding named_text
put_bytes-from-requires c = let a = c.args in
    line_first a.out.now a.at a.name.now (row_text a.row.now) c.requires

pub put_row-to-requires : goal.put_row-to-requires
unfolding named_text
put_row-to-requires c = let a = c.args in
    line_second a.out.now a.at a.name.now (row_text a.row.now) c.requires c.put_bytes-from.ensures

pub put_byte-requires : goal.put_byte-requires
unfolding named_text
put_byte-requires c = let a = c.args in
    line-last a.out.now a.at a.name.now (row_text a.row.now) c.requires c.put_bytes-from.ensures c.put_row-to.ensures

pub returns : goal.returns
unfolding named_text
returns c = let a = c.args in
    line_put a.out.now a.at a.name.now (row_text a.row.now) c.requires c.put_bytes-from.ensures c.put_row-to.ensures c.put_byte.ensures
