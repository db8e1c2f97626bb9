-- The goals that are not found.
use Rattle.meaning.proofs.Prelude.{ℕ, ◌≤◌, ◌<◌, sym, ap, ◌∙◌, subst, List, [], T, length, drop, length-set, arith}
use Rattle.meaning.proofs.Definitions.{most_content, bit, is_some, read_query}
use Rattle.meaning.proofs.Lists.{All-get_or}
use Rattle.fields.specs.Found.{contents_from}
use Rattle.analysis_output.proofs.Contents.{content-is, read_on}
use Rattle.analysis_output.proofs.write_verdicts.Goals as goal

pub is_open-open-requires : goal.is_open-open-requires
is_open-open-requires c = let a = c.args in
    let q = c.requires in
    let s = a.section.now in
    let loop = c.loop-i in
    let contents = contents_from s.count (drop s.from s.bytes.now) in
    let lt : loop.i < s.count = omega (arith, c.loop-i-test.true, c.from-i-end.ensures) in
    let here = content-is _ _ _ _ _ lt q.asking.1 loop.invariant.1 c.content_at-query.ensures.result_value in
    let at : loop.i < length contents = omega (arith, lt, q.queries.0) in
    (q.asking.0, subst (λ (l : List ℕ). T (is_some (read_query a.types a.automaton.now.arities.now a.predicates.now.arities.now l))) (sym here) (All-get_or _ contents [] q.queries.1 loop.i at), subst (λ (l : List ℕ). length l ≤ most_content) (sym here) (All-get_or (λ (l : List ℕ). length l ≤ most_content) contents [] q.queries.2 loop.i at))

pub loop-i-preserved : goal.loop-i-preserved
loop-i-preserved c = let loop = c.loop-i in
    let lt : loop.i < c.args.section.now.count = omega (arith, c.loop-i-test.true, c.from-i-end.ensures) in
    (length-set loop.verdicts loop.i _ ∙ loop.invariant.0, read_on _ _ _ _ _ lt c.requires.asking.1 loop.invariant.1 c.content_at-query.ensures.result_value (c.from.ensures ∙ ap bit c.is_open-open.ensures) c.next_at-at.ensures)
