-- `byte_runs::all_below` meets its contract: the library's test of all members is `all_of`. Assumes nothing.
use Rattle.std.proofs.lemmas.Iterator.{YieldsList-from_slice}
use Rattle.std.proofs.lemmas.Iterator.Search.{all_from_yields_List}
use borrow.Author.Tests.{tests}
use Rattle.meaning.proofs.Prelude.{◌∙◌, ltb, rules}
use Rattle.byte_runs.proofs.Tests.{list_all-is}
use Rattle.byte_runs.proofs.all_below.Goals as goal

pub returns : goal.returns
returns c =
    all_from_yields_List (λ x. ltb x c.args.m) _ _ c.all.result c.all.ensures.ran (YieldsList-from_slice c.args.s.now cc) (λ x b q k. search (rules, tests))
    ∙ list_all-is (λ x. ltb x c.args.m) c.args.s.now
