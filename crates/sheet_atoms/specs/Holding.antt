-- Marks that hold the atoms of a sheet, each as new.
use Rattle.std.specs.Prelude.{ℕ, ◌≤◌, ◌<◌, ◌≡◌, ◌⊎◌, Bool, cond, ◌&&◌, List, eqb, ltb, length, get_or, drop}
use Rattle.meaning.specs.Lists.{All, all_of}
use Rattle.meaning.specs.Cells.{start, cells}
use Rattle.meaning.specs.Clauses.{IsAtom, place}
use Rattle.meaning.specs.Certificates.{among}

-- at most 16 predicates of arity at most 3, and where the segment of each starts in the marks
pub record Segmented (m : ℕ) (preds segments : List ℕ) : Type 0 where
  pub states : m ≤ 16
  pub few : length preds ≤ 16
  pub narrow : All (λ n. n ≤ 3) preds
  pub enough : length preds ≤ length segments
  pub each : (p : ℕ) → p < length preds → get_or segments p 0 ≡ start m preds p

-- an atom's content with states below m and no mark
abbrev pub is_free : ℕ → List ℕ → List ℕ → List ℕ → Bool
is_free m preds marks content =
    all_of (λ d. ltb d m) (drop 1 content) && eqb (get_or marks (place m preds (get_or content 0 0) (drop 1 content)) 0) 0

-- marks that hold some atoms and no other, each as new
pub record Holding (m : ℕ) (preds : List ℕ) (atoms : List (List ℕ)) (marks : List ℕ) : Type 0 where
  pub size : length marks ≡ cells m preds
  pub new : (i : ℕ) → (get_or marks i 0 ≡ 0) ⊎ (get_or marks i 0 ≡ 2)
  pub each : (p : ℕ) (row : List ℕ) → IsAtom m preds p row → get_or marks (place m preds p row) 0 ≡ cond (among atoms p row) 2 0
