-- `sheet_atoms::mark_atom` meets its contract: an atom is put into its predicate's part of the marks exactly if it is free there. Assumes nothing.
use Rattle.meaning.proofs.Prelude.{refl, arith}
use Rattle.sheet_atoms.proofs.Atoms.{row-short, states_below, part-inside, cell-inside, part-marked}
use Rattle.sheet_atoms.proofs.mark_atom.Goals as goal

pub overflow_add-e : goal.overflow_add-e
overflow_add-e c = let a = c.args in
    let h = c.requires in
    omega (arith, part-inside a.m a.predicates.now.arities.now a.predicates.now.segments.now a.content.now a.marks.now h c.from-p.ensures refl c.power.ensures)

pub slice_bounds-replace-end : goal.slice_bounds-replace-end
slice_bounds-replace-end c = let a = c.args in
    let h = c.requires in
    part-inside a.m a.predicates.now.arities.now a.predicates.now.segments.now a.content.now a.marks.now h c.from-p.ensures refl c.power.ensures

pub cell_of-requires : goal.cell_of-requires
cell_of-requires c = let a = c.args in
    let h = c.requires in
    (h.1.states, row-short a.m a.predicates.now.arities.now a.predicates.now.segments.now a.content.now a.marks.now h, states_below a.m a.predicates.now.arities.now a.predicates.now.segments.now a.content.now a.marks.now h c.all_below.ensures c.if-not-all_below.false)

pub replace-requires : goal.replace-requires
replace-requires c = let a = c.args in
    let h = c.requires in
    cell-inside a.m a.predicates.now.arities.now a.predicates.now.segments.now a.content.now a.marks.now h c.from-p.ensures refl c.power.ensures c.cell_of.ensures c.all_below.ensures c.if-not-all_below.false

pub returns : goal.returns
returns c = let a = c.args in
    let h = c.requires in
    let done = c.replace.ensures in
    part-marked a.m a.predicates.now.arities.now a.predicates.now.segments.now a.content.now a.marks.now h c.from-p.ensures refl c.power.ensures c.cell_of.ensures c.all_below.ensures c.if-not-all_below.false done.0 done.1
