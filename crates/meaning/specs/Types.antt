-- Sets of types as numbers, and the types of a ground term (01, "States, stages, verdicts").
use Rattle.std.specs.Prelude.{ℕ, zero, suc, ◌+◌, ◌*◌, ◌/◌, ◌%◌, ◌≡◌, ◌↔◌, Bool, true, false, ◌&&◌, T, eqb}
use mathlib.Core.List.{List, [], ◌∷◌, Memᴰ}
use Rattle.meaning.specs.Lists.{any_of}
use Rattle.meaning.specs.Syntax.{Tree, Trees, node, leaf, ◌▹◌, tree_count, Production}

-- type t is in the set: bit t of the number
abbrev pub has : ℕ → ℕ → Bool
has s zero = eqb (s % 2) 1
has s (suc t) = has (s / 2) t

abbrev pub bit : Bool → ℕ
bit true = 1
bit false = 0

-- the set of the types below n that pass a test
abbrev pub set_of : ℕ → (ℕ → Bool) → ℕ
set_of zero test = 0
set_of (suc n) test = bit (test 0) + 2 * set_of n (λ t. test (suc t))

-- a symbol that ground terms are built from
pub record Sym : Type 0 where
  pub symbol : ℕ
  pub arity : ℕ

abbrev pub numbered : ℕ → List ℕ → List Sym
numbered i [] = []
numbered i (n ∷ ns) = record { symbol = i; arity = n } ∷ numbered (suc i) ns

-- Ground terms are built from the declared symbols.
unfoldable pub signature : List ℕ → List Sym
signature arities = numbered 0 arities

abbrev pub allowed : List ℕ → ℕ → ℕ → Bool
allowed arities f n = any_of (λ (s : Sym). eqb s.symbol f && eqb s.arity n) (signature arities)

module _ (arities : List ℕ) where
  abbrev mutual
    pub IsGround : Tree → Type 0
    IsGround (node f ts) = T (allowed arities f (tree_count ts)) × AreGround ts

    pub AreGround : Trees → Type 0
    AreGround leaf = Unit
    AreGround (t ▹ ts) = IsGround t × AreGround ts

module _ (productions : List Production) where
  -- f(t1, .., tn) is of type q exactly if a production q, f, q1, .., qn exists with each ti of type qi
  abbrev mutual
    pub OfType : Tree → ℕ → Type 0
    OfType (node f ts) q =
        (p : Production) × Memᴰ p productions × (p.target ≡ q) × (p.symbol ≡ f) × OfTypes ts p.arguments

    pub OfTypes : Trees → List ℕ → Type 0
    OfTypes leaf [] = Unit
    OfTypes leaf (q ∷ qs) = ⊥
    OfTypes (t ▹ ts) [] = ⊥
    OfTypes (t ▹ ts) (q ∷ qs) = OfType t q × OfTypes ts qs

  -- a set of types is exactly the set of a ground term
  abbrev pub IsTypeSet : Tree → ℕ → Type 0
  IsTypeSet t s = (q : ℕ) → T (has s q) ↔ OfType t q

  -- two ground terms have the same set of types
  abbrev pub SameTypes : Tree → Tree → Type 0
  SameTypes t u = (q : ℕ) → OfType t q ↔ OfType u q

-- each set of the row holds the type at its place
abbrev pub fits : List ℕ → List ℕ → Bool
fits [] [] = true
fits [] (q ∷ qs) = false
fits (s ∷ row) [] = false
fits (s ∷ row) (q ∷ qs) = has s q && fits row qs

module _ (productions : List Production) (types : ℕ) where
  -- a symbol over a row of sets: all q that have a production q, f, q1, .., qn with each qi in the set at its place
  unfoldable pub step : ℕ → List ℕ → ℕ
  step f row =
      set_of types (λ q. any_of (λ (p : Production). eqb p.target q && eqb p.symbol f && fits row p.arguments) productions)

  -- the set of a ground term's types
  abbrev mutual
    pub types_of : Tree → ℕ
    types_of (node f ts) = step f (types_ofs ts)

    pub types_ofs : Trees → List ℕ
    types_ofs leaf = []
    types_ofs (t ▹ ts) = types_of t ∷ types_ofs ts
