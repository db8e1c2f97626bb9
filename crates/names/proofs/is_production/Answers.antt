-- `names::is_production` meets its contract: each way out is one test of the definition, and at the last it is the chain over the part from 2 on.
-- Assumes nothing.
use Rattle.meaning.proofs.Prelude.{ℕ, ◌≡◌, sym, ap, ◌∙◌, drop, get_or, ltb, length, length-drop, ◌-◌, arith}
use Rattle.std.proofs.lemmas.Iterator.{YieldsList-from_slice}
use Rattle.std.proofs.lemmas.Iterator.Search.{all_from_yields_List}
use Rattle.std.proofs.Common.{rules}
use borrow.Author.Tests.{tests}
use Rattle.byte_runs.proofs.Tests.{list_all-is}
use Rattle.meaning.proofs.Loops.{part-rest}
use Rattle.names.proofs.Contents.{production-arguments}
use Rattle.names.proofs.is_production.Goals as goal

pub returns : goal.returns
returns c = let a = c.args in
    let s = a.s.now in
    let found = c.in-Some.ensures.lookup.3 in
    let arity : c.from-2.result ≡ get_or a.arities.now (get_or s 1 0) 0 =
    c.from-2.ensures ∙ (found.1 0 ∙ ap (λ (f : ℕ). get_or a.arities.now f 0) c.from.ensures) in
    let number : c.from-2.result ≡ length s - 2 = c.if-from-arguments.false ∙ (ap length (part-rest 2 s) ∙ length-drop 2 s) in
    all_from_yields_List (λ t. ltb t a.types) _ _ _ c.all.ensures.ran (YieldsList-from_slice (drop 2 s) (c.iter.ensures.rest ∙ part-rest 2 s)) (λ x b q k. search (rules, tests))
    ∙ list_all-is (λ t. ltb t a.types) (drop 2 s)
    ∙ sym (production-arguments a.types a.arities.now s c.in-len2-up.len_at_least (omega arith) (omega (arith, found.0)) (sym arity ∙ number))
