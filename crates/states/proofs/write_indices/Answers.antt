-- The goals that are not found.
use Rattle.meaning.proofs.Prelude.{ℕ, ◌∙◌, ap₂, List, get_or, set, arith}
use Rattle.states.proofs.Places.{index_le}
use Rattle.states.proofs.Tables.{indices-none, indices-next}
use Rattle.states.proofs.write_indices.Goals as goal

pub loop-i-init : goal.loop-i-init
loop-i-init c = let a = c.args in
    indices-none a.states.now a.sets.now a.tables.now

pub overflow_cast-tables : goal.overflow_cast-tables
overflow_cast-tables c = let a = c.args in
    omega (arith, c.find.ensures, index_le (get_or a.sets.now c.loop-i.i 0) a.states.now)

pub loop-i-preserved : goal.loop-i-preserved
loop-i-preserved c = let a = c.args in
    let loop = c.loop-i in
    ap₂ (λ (l : List ℕ) (d : ℕ). set l loop.i d) loop.invariant c.find.ensures
    ∙ indices-next a.states.now a.sets.now a.tables.now loop.i (omega arith) (omega arith)
