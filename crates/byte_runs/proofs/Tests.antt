-- Tests of the library's over a list, and those of the definitions here. Assumes nothing.
use Rattle.std.specs.List.{list_all}
use Rattle.meaning.proofs.Prelude.{ℕ, ◌≡◌, refl, ap, Bool, ◌&&◌, List, [], ◌∷◌}
use Rattle.meaning.specs.Lists.{all_of}

pub list_all-is : (f : ℕ → Bool) (l : List ℕ) → list_all f l ≡ all_of f l
list_all-is f [] = refl
list_all-is f (x ∷ l) = ap (λ (b : Bool). f x && b) (list_all-is f l)
