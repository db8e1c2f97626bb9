-- The segment that a place lies in is found by passing segments. Assumes nothing.
use Rattle.meaning.proofs.Prelude.{ℕ, ◌+◌, ◌≤◌, ◌-◌, ◌<◌, ◌^◌, ◌≡◌, ap, ◌∙◌, List, length, get_or, arith}
use Rattle.meaning.specs.Cells.{start, cells}
use Rattle.cells.proofs.Segments.{start-next, start_all}

-- a segment is passed: the next one starts before the place
pub place-next : (m : ℕ) (arities : List ℕ) (j p cell size : ℕ)
    → p < length arities
    → size ≡ m ^ get_or arities p 0
    → j ≡ start m arities p + cell
    → size ≤ cell
    → j ≡ start m arities (p + 1) + (cell - size)
place-next m arities j p cell size before is at past = omega (arith, start-next m arities p before)

-- no place lies past the last
pub no_segment : (m : ℕ) (arities : List ℕ) {j : ℕ} (p : ℕ) (cell : ℕ) → p ≡ length arities → j ≡ start m arities p + cell → j < cells m arities → ⊥
no_segment m arities p cell e at inside = omega (arith, ap (start m arities) e ∙ start_all m arities)
