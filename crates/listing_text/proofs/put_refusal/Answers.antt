-- `listing_text::put_refusal` meets its contract. Assumes nothing.
use Rattle.meaning.proofs.Prelude.{lit≤, arith}
use Rattle.listing_text.specs.Lines.{refused_word, at_word, refused_line}
use Rattle.listing_text.proofs.Sizes.{counts-short}
use Rattle.listing_text.proofs.put_refusal.Goals as goal

pub put_counts-requires : goal.put_counts-requires
put_counts-requires c = let a = c.args in
    omega (arith, counts-short refused_word a.number at_word a.place (lit≤ tt) (lit≤ tt) (omega arith) (omega arith))

pub returns : goal.returns
unfolding refused_line
returns c = let a = c.args in
    let put = c.put_counts in
    (put.ensures, omega (arith, put.ensures.1, counts-short refused_word a.number at_word a.place (lit≤ tt) (lit≤ tt) (omega arith) (omega arith)))
