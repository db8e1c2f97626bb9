-- `states::find` meets its contract: the place that the library finds, or the length. Assumes nothing.
use Rattle.meaning.proofs.Prelude.{refl, ◌∙◌, eqb}
use Rattle.std.proofs.Common.{rules}
use Rattle.std.proofs.lemmas.Iterator.{YieldsList-from_slice}
use Rattle.std.proofs.lemmas.Iterator.Search.{position_from_yields_List}
use borrow.Author.Tests.{tests}
use Rattle.meaning.specs.States.{index_of}
use Rattle.states.proofs.Places.{first_found}
use Rattle.states.proofs.find.Goals as goal

pub returns : goal.returns
returns c = let a = c.args in
    c.unwrap_or.ensures
    ∙ first_found (eqb a.set) (index_of a.set) refl (λ x xs. refl) a.states.now
    (position_from_yields_List (eqb a.set) _ _ _ c.position.ensures.ran (YieldsList-from_slice a.states.now cc) (λ x b q k. search (rules, tests)))
