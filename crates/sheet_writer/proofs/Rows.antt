-- The row of a cell, in an array of four. Assumes nothing.
use Rattle.meaning.proofs.Prelude.{ℕ, ◌-◌, ◌≡◌, sym, ap, ◌∙◌, List, ◌++◌, take, replicate, take_at}
use Rattle.meaning.specs.Cells.{row_of}
use Rattle.meaning.proofs.Cells.{length-row_of}

-- the first places of the array are the row
pub row-part : (m n c k : ℕ) (row : List ℕ) → row ≡ row_of m n c ++ replicate (4 - n) 0 → k ≡ n → take k row ≡ row_of m n c
row-part m n c k row e h = ap (take k) e ∙ take_at (row_of m n c) (replicate (4 - n) 0) k (length-row_of m n c ∙ sym h)
