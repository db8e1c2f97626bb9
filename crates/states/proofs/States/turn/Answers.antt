-- `states::States::turn` meets its contract: the buffer's front is what the symbols give, and it is put among the sets found. Assumes nothing.
use Rattle.meaning.proofs.Prelude.{ℕ, ◌≡◌, sym, ap, ◌∙◌, take, length, List, arith}
use Rattle.meaning.proofs.Definitions.{step, signature, insert_all, grow}
use Rattle.states.specs.Asked.{productions_at}
use Rattle.meaning.specs.Cells.{cells}
use Rattle.states.specs.Packed.{packed}
use Rattle.states.proofs.Filling.{filled_of, small, fillable, front_fits, front_length, front-grow}
use Rattle.states.proofs.Packed.{length_held}
use Rattle.states.proofs.States.turn.Goals as goal

pub fill-requires : goal.fill-requires
fill-requires c = let pre = c.requires in
    let given = pre.by_index.1 in
    record {
      fillable = fillable c.args.arities.now pre.by_index.0 given.limited c.as_slice.result.now (omega (arith, ap length c.as_slice.ensures, length_held pre.holds, pre.holds.few));
      by_index = (pre.by_index.0, given.limited.bits, given.productions);
    }

pub cells_of-all-requires : goal.cells_of-all-requires
cells_of-all-requires c = let pre = c.requires in
    let limited = pre.by_index.1.limited in
    (pre.holds.few, omega (arith, limited.symbols), small c.args.arities.now pre.by_index.0 limited)

pub slice_bounds-sets-end : goal.slice_bounds-sets-end
slice_bounds-sets-end c = let self = c.args.self in
    let shown : c.as_slice.result.now ≡ take self.count self.sets = c.as_slice.ensures in
    let counts = c.cells_of-all.ensures ∙ ap (λ (m : ℕ). cells m c.args.arities.now) (sym (ap length shown ∙ length_held c.requires.holds)) in
    front_fits (filled_of c.as_slice.result.now c.fill.ensures counts c.requires.by_index.1)

pub slice_bounds-put_all-end : goal.slice_bounds-put_all-end
slice_bounds-put_all-end c = let self = c.args.self in
    let shown : c.as_slice.result.now ≡ take self.count self.sets = c.as_slice.ensures in
    let counts = c.cells_of-all.ensures ∙ ap (λ (m : ℕ). cells m c.args.arities.now) (sym (ap length shown ∙ length_held c.requires.holds)) in
    sym (front_length (filled_of c.as_slice.result.now c.fill.ensures counts c.requires.by_index.1))

pub returns : goal.returns
returns c types given = let self = c.args.self in
    let shown : c.as_slice.result.now ≡ take self.count self.sets = c.as_slice.ensures in
    let counts = c.cells_of-all.ensures ∙ ap (λ (m : ℕ). cells m c.args.arities.now) (sym (ap length shown ∙ length_held c.requires.holds)) in
    let filled = filled_of c.as_slice.result.now c.fill.ensures counts given in
    let section = c.args.section.now in
    let st = step (productions_at section.bytes.now section.from section.count) types in
    c.put_all.ensures
    ∙ ap (λ (l : List ℕ). packed (insert_all (take c.cells_of-all.result c.fill.new.sets) l)) (sym shown)
    ∙ ap packed (front-grow filled)
    ∙ ap (λ (l : List ℕ). packed (grow st (signature c.args.arities.now) l)) shown
