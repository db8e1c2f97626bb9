-- `states::write_tables` meets its contract: the tables are the numbers of the sets at the buffer's front. Assumes nothing.
use Rattle.meaning.proofs.Prelude.{ℕ, sym, ◌∙◌, ap₂, List, ◌++◌, drop, arith}
use Rattle.states.proofs.Filling.{filled_of, small, fillable, front_fits, front_length, front-tables}
use Rattle.states.proofs.write_tables.Goals as goal

pub fill-requires : goal.fill-requires
fill-requires c = let a = c.args in
    let pre = c.requires in
    let given = pre.by_index.1 in
    record {
      fillable = fillable a.arities.now pre.by_index.0 given.limited a.states.now pre.states_len_bound.0;
      by_index = (pre.by_index.0, given.limited.bits, given.productions);
    }

pub cells_of-all-requires : goal.cells_of-all-requires
cells_of-all-requires c = let pre = c.requires in
    let limited = pre.by_index.1.limited in
    (pre.states_len_bound.0, omega (arith, limited.symbols), small c.args.arities.now pre.by_index.0 limited)

pub returns : goal.returns
returns c types given = let filled = filled_of c.args.states.now c.fill.ensures c.cells_of-all.ensures given in
    c.write_indices.ensures
    ∙ ap₂
    (λ (l : List ℕ) (n : ℕ). l ++ drop n c.args.buffer.now)
    (front-tables filled)
    (front_length filled ∙ c.cells_of-all.ensures)

pub slice_bounds-sets-end : goal.slice_bounds-sets-end
slice_bounds-sets-end c = let given = c.requires.by_index.1 in
    let filled = filled_of c.args.states.now c.fill.ensures c.cells_of-all.ensures given in
    front_fits filled

pub slice_bounds-write_indices-end : goal.slice_bounds-write_indices-end
slice_bounds-write_indices-end c = let given = c.requires.by_index.1 in
    let filled = filled_of c.args.states.now c.fill.ensures c.cells_of-all.ensures given in
    sym (front_length filled)
