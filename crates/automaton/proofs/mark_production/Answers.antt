-- `automaton::mark_production` meets its contract: the segment of the symbol starts where it should, and has room for all rows. Assumes nothing.
use Rattle.meaning.proofs.Prelude.{ℕ, ap, ◌∙◌, get_or}
use Rattle.meaning.proofs.Loops.{part-rest}
use Rattle.automaton.specs.Sets.{added}
use Rattle.automaton.proofs.Turns.{production_markable, production-marked}
use Rattle.automaton.proofs.mark_production.Goals as goal

pub mark_rows-requires : goal.mark_rows-requires
mark_rows-requires c = let a = c.args in
    rw (part-rest 2 a.content.now)
    (production_markable a.states.now a.arities.now a.sets.now a.content.now c.requires.0 c.requires.2 c.from.ensures c.start_of-start.ensures)

pub returns : goal.returns
returns c = let a = c.args in
    production-marked a.states.now a.arities.now a.sets.now a.content.now c.requires.0 c.requires.2 c.from.ensures c.start_of-start.ensures
    (c.with-target.ensures ∙ ap (λ (s : ℕ). added s (get_or a.content.now 0 0)) c.none.ensures)
    (rw (part-rest 2 a.content.now) at c.mark_rows.ensures)
