-- Ground instances and derivability, word for word as in 01, with no word of states.
use Rattle.std.specs.Prelude.{ℕ, suc, ◌<◌, length}
use mathlib.Core.List.{List, [], ◌∷◌, Memᴰ}
use Rattle.meaning.specs.Lists.{All}
use Rattle.meaning.specs.Syntax.{Term, Terms, var, app, end, ◌▸◌, Tree, Trees, node, leaf, ◌▹◌, Production, Atom, Clause, Condition, is_of, not_of, free, Query}
use Rattle.meaning.specs.Types.{IsGround, OfType}

-- a set of ground atoms
abbrev pub GroundSet : Type 1
GroundSet = ℕ → Trees → Type 0

-- a ground instance gives every variable a ground term, the same in all its places
module _ (σ : ℕ → Tree) where
  abbrev mutual
    pub ground : Term → Tree
    ground (var i) = σ i
    ground (app f ts) = node f (grounds ts)

    pub grounds : Terms → Trees
    grounds end = leaf
    grounds (t ▸ ts) = ground t ▹ grounds ts

  abbrev pub GroundIn : GroundSet → Atom → Type 0
  GroundIn S a = S a.predicate (grounds a.arguments)

-- every variable is given a ground term, of any height, unused and head-only ones included
abbrev pub IsSubstitution : List ℕ → ℕ → (ℕ → Tree) → Type 0
IsSubstitution arities variables σ = (i : ℕ) → i < variables → IsGround arities (σ i)

-- closed under the ground instances of the clauses: with all body atoms of one, the set holds the head too
abbrev pub GroundClosed : List ℕ → List Clause → GroundSet → Type 0
GroundClosed arities clauses S =
    (c : Clause)
    → Memᴰ c clauses
    → (σ : ℕ → Tree)
    → IsSubstitution arities c.variables σ
    → All (GroundIn σ S) c.body
    → GroundIn σ S c.head

-- a ground atom is derivable if it lies in every closed set of ground atoms
abbrev pub Derivable : List ℕ → List Clause → ℕ → Trees → Type 1
Derivable arities clauses p ts = (S : GroundSet) → GroundClosed arities clauses S → S p ts

-- condition t is met by a ground term of type t, 128 + t by any other, 255 by all
abbrev pub GroundMeets : List Production → Condition → Tree → Type 0
GroundMeets productions (is_of q) t = OfType productions t q
GroundMeets productions (not_of q) t = ¬ OfType productions t q
GroundMeets productions free t = Unit

-- each condition by the term of its variable, the first of which is variable i
abbrev pub GroundMeetsAll : List Production → List Condition → (ℕ → Tree) → ℕ → Type 0
GroundMeetsAll productions [] σ i = Unit
GroundMeetsAll productions (c ∷ cs) σ i = GroundMeets productions c (σ i) × GroundMeetsAll productions cs σ (suc i)

-- what CLEAR claims: no ground instance of the query that meets its conditions is derivable
abbrev pub NoneDerivable : List ℕ → List Production → List Clause → Query → Type 1
NoneDerivable arities productions clauses q =
    (σ : ℕ → Tree)
    → IsSubstitution arities (length q.conditions) σ
    → GroundMeetsAll productions q.conditions σ 0
    → ¬ Derivable arities clauses q.atom.predicate (grounds σ q.atom.arguments)
