-- `listing_text::Findings::put_queries` meets its contract. Assumes nothing.
use Rattle.meaning.proofs.Prelude.{◌-◌, lit≤, length, get_or, arith}
use Rattle.listing_text.specs.Lines.{queries_word}
use Rattle.listing_text.proofs.Sizes.{count-short, query-short}
use Rattle.listing_text.proofs.Putting.{put_short}
use Rattle.listing_text.proofs.AtHand.{queries-first, queries-later}
use Rattle.listing_text.proofs.Findings.put_queries.Goals as goal

pub returns-then-i-eq0 : goal.returns-then-i-eq0
returns-then-i-eq0 c = let a = c.args in
    put_short a.out.now a.at (queries-first a.self.now.verdicts.now a.i c.if-i-eq0.true) (count-short queries_word (length a.self.now.verdicts.now) (lit≤ tt) (omega arith)) c.put_count.ensures

pub returns : goal.returns
returns c = let a = c.args in
    put_short a.out.now a.at (queries-later a.self.now.verdicts.now a.i c.if-i-eq0.false) (query-short (a.i - 1) (get_or a.self.now.verdicts.now (a.i - 1) 0) (omega arith)) c.put_query.ensures

pub put_count-requires : goal.put_count-requires
put_count-requires c = let a = c.args in omega (arith, count-short queries_word (length a.self.now.verdicts.now) (lit≤ tt) (omega arith))

pub put_query-requires : goal.put_query-requires
put_query-requires c = let a = c.args in omega (arith, query-short (a.i - 1) (get_or a.self.now.verdicts.now (a.i - 1) 0) (omega arith))
