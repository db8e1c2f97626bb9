-- Two interpretations that agree on declared symbols over states give the same instances, stages, model, verdicts and violations. Assumes nothing.
use Rattle.meaning.proofs.Prelude.{ℕ, ◌<◌, zero, suc, ◌^◌, ◌≡◌, refl, sym, ap, ◌∙◌, subst, ap₂, Bool, not, ◌&&◌, ◌||◌, option_get_or, List, []}
use Rattle.meaning.proofs.Prelude.{◌∷◌, eqb, length, arith}
use Rattle.meaning.proofs.Definitions.{all_of, any_below, All, same, lowest, table, Term, Terms, var, app, end, ◌▸◌, Atom, Clause, Query}
use Rattle.meaning.proofs.Definitions.{Declared, WellTerm, WellTerms, WellAtom, WellClause, WellQuery, bit, row_of, cells, IsValuation}
use Rattle.meaning.proofs.Definitions.{term_state, term_states, instance_in, place, brings_under, marked, brings, next, stage, rounds, model}
use Rattle.meaning.proofs.Definitions.{meets_all, is_open, among, violated, violated_at}
use Rattle.meaning.proofs.Setting.{InRange}
use Rattle.meaning.proofs.Stages.{states-lt, length-states_of}
use Rattle.meaning.proofs.Cells.{valuation_of_number}

-- tests that agree below a number
below_same : (n : ℕ) (f g : ℕ → Bool) → ((i : ℕ) → i < n → f i ≡ g i) → any_below n f ≡ any_below n g
below_same zero f g h = refl
below_same (suc n) f g h = ap₂ (λ (a b : Bool). a || b) (below_same n f g (λ i lt. h i (omega (arith, lt)))) (h n (omega arith))

module _ (arities : List ℕ) (m : ℕ) (I J : ℕ → List ℕ → ℕ) (range : InRange arities m I)
    (agree : (f : ℕ) (row : List ℕ) → Declared arities f (length row) → All (λ d. d < m) row → I f row ≡ J f row) where
  module _ (variables : ℕ) (ν : List ℕ) (val : IsValuation m variables ν) where
    mutual
      pub state-same : (t : Term) → WellTerm arities variables t → term_state I ν t ≡ term_state J ν t
      state-same (var i) h = refl
      state-same (app f ts) h =
          agree f (term_states I ν ts) (subst (λ (n : ℕ). Declared arities f n) (sym (length-states_of I ν ts)) h.0) (states-lt arities m I range variables ν val ts h.1)
          ∙ ap (J f) (states-same ts h.1)

      pub states-same : (ts : Terms) → WellTerms arities variables ts → term_states I ν ts ≡ term_states J ν ts
      states-same end h = refl
      states-same (t ▸ ts) h = ap₂ (λ (d : ℕ) (row : List ℕ). d ∷ row) (state-same t h.0) (states-same ts h.1)

    module _ (preds : List ℕ) (S : ℕ → List ℕ → Bool) where
      pub instance_same : (a : Atom) → WellAtom arities variables preds a → instance_in I ν S a ≡ instance_in J ν S a
      instance_same a h = ap (S a.predicate) (states-same a.arguments h.1)

      pub body_same : (body : List Atom) → All (WellAtom arities variables preds) body → all_of (instance_in I ν S) body ≡ all_of (instance_in J ν S) body
      body_same [] h = refl
      body_same (a ∷ body) h = ap₂ (λ (x y : Bool). x && y) (instance_same a h.0) (body_same body h.1)

  module _ (preds : List ℕ) where
    clause-same : (S : ℕ → List ℕ → Bool) (i : ℕ) (c : Clause)
        → WellClause arities preds c
        → (ν : List ℕ) → IsValuation m c.variables ν → brings_under m I preds S i c ν ≡ brings_under m J preds S i c ν
    clause-same S i c h ν val =
        ap₂ (λ (row : List ℕ) (b : Bool). eqb (place m preds c.head.predicate row) i && b)
        (states-same c.variables ν val c.head.arguments h.2.1)
        (body_same c.variables ν val preds S c.body h.3)

    brings-same : (clauses : List Clause) → All (WellClause arities preds) clauses → (S : ℕ → List ℕ → Bool) (i : ℕ) → brings m I preds clauses S i ≡ brings m J preds clauses S i
    unfolding brings
    brings-same [] h S i = refl
    brings-same (c ∷ clauses) h S i =
        ap₂ (λ (a b : Bool). a || b)
        (below_same (m ^ c.variables) _ _ (λ n lt. clause-same S i c h.0 (row_of m c.variables n) (valuation_of_number m c.variables n lt)))
        (brings-same clauses h.1 S i)

    module _ (clauses : List Clause) (well : All (WellClause arities preds) clauses) where
      next-same : (marks : List ℕ) → next m I preds clauses marks ≡ next m J preds clauses marks
      unfolding next
      next-same marks = λ j. table (cells m preds) (λ i. bit (brings-same clauses well (marked m preds marks) i j))

      pub stage-same : (k : ℕ) → stage m I preds clauses k ≡ stage m J preds clauses k
      unfolding stage
      stage-same zero = refl
      stage-same (suc k) = next-same (stage m I preds clauses k) ∙ ap (next m J preds clauses) (stage-same k)

      pub rounds-same : rounds m I preds clauses ≡ rounds m J preds clauses
      unfolding rounds
      rounds-same = λ j. option_get_or (lowest (suc (cells m preds)) (λ k. same (stage-same (suc k) j) (stage-same k j))) 0

      pub model-same : model m I preds clauses ≡ model m J preds clauses
      unfolding model
      model-same = stage-same (rounds m I preds clauses) ∙ ap (stage m J preds clauses) rounds-same

    pub open_same : (types : ℕ) (sets : List ℕ) (S : ℕ → List ℕ → Bool) (q : Query) → WellQuery types arities preds q → is_open sets m I S q ≡ is_open sets m J S q
    unfolding is_open
    open_same types sets S q h =
        below_same (m ^ length q.conditions) _ _ (λ n lt.
        ap (λ (b : Bool). meets_all sets q.conditions (row_of m (length q.conditions) n) && b)
        (instance_same (length q.conditions) (row_of m (length q.conditions) n) (valuation_of_number m (length q.conditions) n lt) preds S q.atom h.2))

    violated-same : (atoms : List (List ℕ)) (c : Clause) → WellClause arities preds c → violated m I atoms c ≡ violated m J atoms c
    unfolding violated
    violated-same atoms c h =
        below_same (m ^ c.variables) _ _ (λ n lt.
        let ν = row_of m c.variables n in
        let val = valuation_of_number m c.variables n lt in
        ap₂ (λ (a b : Bool). a && not b) (body_same c.variables ν val preds (among atoms) c.body h.3) (instance_same c.variables ν val preds (among atoms) c.head h.2))

    pub violated_at-same : (atoms : List (List ℕ)) (clauses : List Clause)
        → All (WellClause arities preds) clauses
        → (i : ℕ)
        → violated_at m I atoms clauses i ≡ violated_at m J atoms clauses i
    violated_at-same atoms [] well i = refl
    violated_at-same atoms (c ∷ clauses) well zero = violated-same atoms c well.0
    violated_at-same atoms (c ∷ clauses) well (suc i) = violated_at-same atoms clauses well.1 i
