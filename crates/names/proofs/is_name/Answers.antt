-- `names::is_name` meets its contract: by the length, and then the chain over its bytes. Assumes nothing.
use Rattle.meaning.proofs.Prelude.{◌≤◌, sym, ◌∙◌, length, arith}
use Rattle.std.proofs.Common.{rules}
use Rattle.std.proofs.lemmas.Iterator.{YieldsList-from_slice}
use Rattle.std.proofs.lemmas.Iterator.Search.{all_from_yields_List}
use borrow.Author.Tests.{tests}
use Rattle.byte_runs.proofs.Tests.{list_all-is}
use Rattle.meaning.proofs.Definitions.{name_byte}
use Rattle.names.proofs.Contents.{name_all}
use Rattle.names.proofs.is_name.Goals as goal

pub returns : goal.returns
returns c = let s = c.args.s.now in
    let some : 1 ≤ length s = search (rules, tests) in
    all_from_yields_List name_byte _ _ _ c.all.ensures.ran (YieldsList-from_slice s cc) (λ x b q k. search (rules, tests))
    ∙ list_all-is name_byte s
    ∙ sym (name_all s some (omega arith))
