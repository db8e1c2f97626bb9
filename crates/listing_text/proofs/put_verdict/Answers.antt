-- `listing_text::put_verdict` meets its contract. Assumes nothing.
use Rattle.meaning.proofs.Prelude.{◌+◌, ◌≤◌, sym, subst, List, length}
use Rattle.byte_runs.specs.Pasted.{Put}
use Rattle.listing_text.proofs.Texts.{clear-is, open_is}
use Rattle.listing_text.proofs.put_verdict.Goals as goal

pub put_bytes-requires : goal.put_bytes-requires
put_bytes-requires c = let a = c.args in
    subst (λ (l : List _). a.at + length l ≤ length a.out.now) (clear-is a.verdict c.if-verdict-eq0.true) c.requires

pub returns-then-verdict-eq0 : goal.returns-then-verdict-eq0
returns-then-verdict-eq0 c = let a = c.args in
    let p = c.put_bytes in
    subst (λ (l : List _). Put a.out.now a.at l p.new.out p.result) (sym (clear-is a.verdict c.if-verdict-eq0.true)) p.ensures

pub put_bytes-requires-else-verdict-eq0 : goal.put_bytes-requires-else-verdict-eq0
put_bytes-requires-else-verdict-eq0 c = let a = c.args in
    subst (λ (l : List _). a.at + length l ≤ length a.out.now) (open_is a.verdict c.if-verdict-eq0.false) c.requires

pub returns-else-verdict-eq0 : goal.returns-else-verdict-eq0
returns-else-verdict-eq0 c = let a = c.args in
    let p = c.put_bytes-else-verdict-eq0 in
    subst (λ (l : List _). Put a.out.now a.at l p.new.out p.result) (sym (open_is a.verdict c.if-verdict-eq0.false)) p.ensures
