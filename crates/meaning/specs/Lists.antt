-- Lists, and tests and facts over lists and numbers. A test is a Bool and computes; `T test` is the fact that it passes.
use Rattle.std.specs.Prelude.{ℕ, zero, suc, ◌+◌, ◌-◌, ◌<◌, Bool, true, false, cond, not, ◌&&◌, ◌||◌, List, [], ◌∷◌, ◌++◌, T, eqb, length, get_or, replicate}
use Rattle.std.proofs.Math.Option.{Option, none, some}

module _ {A : Type 0} where
  -- some member passes
  abbrev pub any_of : (A → Bool) → List A → Bool
  any_of f [] = false
  any_of f (x ∷ xs) = f x || any_of f xs

  -- every member passes
  abbrev pub all_of : (A → Bool) → List A → Bool
  all_of f [] = true
  all_of f (x ∷ xs) = f x && all_of f xs

  -- a fact of every member
  abbrev pub All : (A → Type 0) → List A → Type 0
  All P [] = Unit
  All P (x ∷ xs) = P x × All P xs

  -- the lists one after the other
  abbrev pub joined : List (List A) → List A
  joined [] = []
  joined (l ∷ ls) = l ++ joined ls

  -- the values at 0 to n - 1
  abbrev pub table : ℕ → (ℕ → A) → List A
  table zero f = []
  table (suc n) f = f 0 ∷ table n (λ i. f (suc i))

-- the numbers in n places, with zeros behind them
abbrev pub padded : ℕ → List ℕ → List ℕ
padded n l = l ++ replicate (n - length l) 0

-- some number below n passes
abbrev pub any_below : ℕ → (ℕ → Bool) → Bool
any_below zero f = false
any_below (suc n) f = any_below n f || f n

-- the lowest number below n that passes: 01's "lowest place"
abbrev pub lowest : ℕ → (ℕ → Bool) → Option ℕ
lowest zero f = none
lowest (suc n) f = elim (lowest n f) [ none ↦ cond (f n) (some n) none | some i ↦ some i ]

-- the same as a fact: k is the lowest number below n that passes; and no number below n passes
pub record LowestBelow (n : ℕ) (f : ℕ → Bool) (k : ℕ) : Type 0 where
  pub inside : k < n
  pub here : T (f k)
  pub lower : (j : ℕ) → j < k → T (not (f j))

abbrev pub NoneBelow : ℕ → (ℕ → Bool) → Type 0
NoneBelow n f = (j : ℕ) → j < n → T (not (f j))

-- strictly rising
abbrev pub Rising : List ℕ → Type 0
Rising l = (i j : ℕ) → i < j → j < length l → get_or l i 0 < get_or l j 0

-- how many numbers of a list are not 0; how many are 1
abbrev pub nonzero : List ℕ → ℕ
nonzero [] = 0
nonzero (zero ∷ xs) = nonzero xs
nonzero (suc x ∷ xs) = suc (nonzero xs)

abbrev pub ones : List ℕ → ℕ
ones [] = 0
ones (x ∷ xs) = cond (eqb x 1) 1 0 + ones xs

-- the same numbers in the same order
abbrev pub same : List ℕ → List ℕ → Bool
same [] [] = true
same [] (y ∷ ys) = false
same (x ∷ xs) [] = false
same (x ∷ xs) (y ∷ ys) = eqb x y && same xs ys
