-- `listing_text::put_query` meets its contract. Assumes nothing.
use Rattle.meaning.proofs.Prelude.{cond, eqb}
use Rattle.text.specs.Decimal.{decimal}
use Rattle.listing_text.specs.Lines.{open_word, clear_word, query_text}
use Rattle.listing_text.proofs.Putting.{line_first, line_second, line-last, line_put}
use Rattle.listing_text.proofs.put_query.Goals as goal

pub put_decimal-from-requires : goal.put_decimal-from-requires
unfolding query_text
put_decimal-from-requires c = let a = c.args in
    line_first a.out.now a.at (decimal a.i) (cond (eqb a.verdict 0) clear_word open_word) c.requires

pub put_verdict-to-requires : goal.put_verdict-to-requires
unfolding query_text
put_verdict-to-requires c = let a = c.args in
    line_second a.out.now a.at (decimal a.i) (cond (eqb a.verdict 0) clear_word open_word) c.requires c.put_decimal-from.ensures

pub put_byte-requires : goal.put_byte-requires
unfolding query_text
put_byte-requires c = let a = c.args in
    line-last a.out.now a.at (decimal a.i) (cond (eqb a.verdict 0) clear_word open_word) c.requires c.put_decimal-from.ensures c.put_verdict-to.ensures

pub returns : goal.returns
unfolding query_text
returns c = let a = c.args in
    line_put a.out.now a.at (decimal a.i) (cond (eqb a.verdict 0) clear_word open_word) c.requires c.put_decimal-from.ensures c.put_verdict-to.ensures c.put_byte.ensures
