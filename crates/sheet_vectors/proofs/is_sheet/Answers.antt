-- Without a refusal the first bytes of the buffer are a sheet that may be written.
use Rattle.std.proofs.Common.{refl, sym, ◌∙◌}
use Rattle.std.proofs.lemmas.Bool.Decides.{Decides-eqb}
use Rattle.std.proofs.lemmas.Slice.Eq.{slice_eq-Decides}
use Rattle.meaning.proofs.Prelude.{length-take-le}
use Rattle.meaning.proofs.Demand3.{ours-is, ours-fits}
use Rattle.sheet_vectors.proofs.is_sheet.Goals as goal

pub slice_bounds-sheet-end : goal.slice_bounds-sheet-end
slice_bounds-sheet-end c = ours-fits c.args.file.now c.in-Ok.ensures refl

pub slice_bounds-eq-end : goal.slice_bounds-eq-end
slice_bounds-eq-end c = sym (length-take-le _ _ (ours-fits c.args.file.now c.in-Ok.ensures refl))

pub returns-in-Ok : goal.returns-in-Ok
returns-in-Ok c = λ e.
    let w = c.in-Ok.ensures in
    (w.order, w.each, sym ((slice_eq-Decides Decides-eqb _ _ _ c.eq.ensures).0 e) ∙ ours-is c.args.file.now w refl)
