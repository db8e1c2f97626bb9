-- Soundness: what is derivable lies, by its terms' states, in every closed set of domain atoms; so a query that is not OPEN in one closed
-- set has no derivable ground instance that meets its conditions. Assumes nothing.
use Rattle.meaning.proofs.Prelude.{ℕ, ◌<◌, suc, suc-le-suc, ◌≡◌, refl, sym, ap, ◌∙◌, subst, ap₂, ◌↔◌, List, [], ◌∷◌, Memᴰ, T, length}
use Rattle.meaning.proofs.Prelude.{get_or, zero-lt-suc}
use Rattle.meaning.proofs.Definitions.{All, table, Term, Terms, var, app, end, ◌▸◌, term_count, Tree, Trees, tree_count, Production, Atom}
use Rattle.meaning.proofs.Definitions.{Clause, Condition, is_of, not_of, free, Query, Declared, WellTerm, WellTerms, WellAtom, WellClause}
use Rattle.meaning.proofs.Definitions.{WellQuery, has, allowed, IsGround, AreGround, GroundSet, ground, grounds, GroundIn, IsSubstitution}
use Rattle.meaning.proofs.Definitions.{GroundClosed, Derivable, GroundMeets, GroundMeetsAll, NoneDerivable, AtomSet, IsValuation, term_state}
use Rattle.meaning.proofs.Definitions.{term_states, InstanceIn, Closed, meets, meets_all, Open}
use Rattle.meaning.proofs.Lists.{clash, both, both_of, not_intro, All-find, All-give, length-table, get_or-table, table-mem}
use Rattle.meaning.proofs.Setting.{each_state, Homomorphism}

-- the valuation of a substitution: each variable has the state of its term
abbrev pub valuation : (Tree → ℕ) → ℕ → (ℕ → Tree) → List ℕ
valuation st v σ = table v (λ i. st (σ i))

-- the ground atoms whose terms' states are in a set of domain atoms
abbrev pub abstraction : (Tree → ℕ) → AtomSet → GroundSet
abstraction st S p ts = S p (each_state st ts)

-- a ground instance of a list has as many terms as the list
pub count-ground : (σ : ℕ → Tree) (ts : Terms) → tree_count (grounds σ ts) ≡ term_count ts
count-ground σ end = refl
count-ground σ (t ▸ ts) = ap suc (count-ground σ ts)

-- conditions from the second variable on are conditions under the substitution that starts there
meets_shift : (productions : List Production) (cs : List Condition) (σ : ℕ → Tree) (i : ℕ)
    → GroundMeetsAll productions cs σ (suc i) ↔ GroundMeetsAll productions cs (λ j. σ (suc j)) i
meets_shift productions [] σ i = (λ h. tt, λ h. tt)
meets_shift productions (c ∷ cs) σ i =
    let later = meets_shift productions cs σ (suc i) in (λ h. (h.0, later.0 h.1), λ h. (h.0, later.1 h.1))

-- a ground instance of a term is a ground term
module _
    (arities : List ℕ)
    (allow : (f n : ℕ) → Declared arities f n → T (allowed arities f n))
    (v : ℕ)
    (σ : ℕ → Tree)
    (given : IsSubstitution arities v σ)
  where
    mutual
      pub ground-is-ground : (t : Term) → WellTerm arities v t → IsGround arities (ground σ t)
      ground-is-ground (var i) w = given i w
      ground-is-ground (app f ts) w = (
        subst (λ (n : ℕ). T (allowed arities f n)) (sym (count-ground σ ts)) (allow f (term_count ts) w.0),
        grounds_are_ground ts w.1,
      )

      pub grounds_are_ground : (ts : Terms) → WellTerms arities v ts → AreGround arities (grounds σ ts)
      grounds_are_ground end w = tt
      grounds_are_ground (t ▸ ts) w = (ground-is-ground t w.0, grounds_are_ground ts w.1)

module _
    (arities preds : List ℕ)
    (productions : List Production)
    (sets : List ℕ)
    (interpret : ℕ → List ℕ → ℕ)
    (st : Tree → ℕ)
    (hom : Homomorphism arities productions sets interpret st)
    (allow : (f n : ℕ) → Declared arities f n → T (allowed arities f n))
  where
    -- the states of a substitution's terms are a valuation
    pub is-valuation : (v : ℕ) (σ : ℕ → Tree) → IsSubstitution arities v σ → IsValuation (length sets) v (valuation st v σ)
    is-valuation v σ given = (length-table v (λ i. st (σ i)), All-give (valuation st v σ) below)
      where
        below : (d : ℕ) → Memᴰ d (valuation st v σ) → d < length sets
        below d at =
            let w = table-mem v (λ i. st (σ i)) d at in
            subst (λ (k : ℕ). k < length sets) (sym w.2) (hom.below (σ w.0) (given w.0 w.1))

    -- the state of a ground instance is the state of the term under the substitution's valuation
    module _ (v : ℕ) (σ : ℕ → Tree) (given : IsSubstitution arities v σ) where
      mutual
        pub state-ground : (t : Term) → WellTerm arities v t → st (ground σ t) ≡ term_state interpret (valuation st v σ) t
        state-ground (var i) w = sym (get_or-table v (λ j. st (σ j)) 0 i w)
        state-ground (app f ts) w =
            hom.along f (grounds σ ts) (ground-is-ground arities allow v σ given (app f ts) w) ∙ ap (interpret f) (states-ground ts w.1)

        pub states-ground : (ts : Terms) → WellTerms arities v ts → each_state st (grounds σ ts) ≡ term_states interpret (valuation st v σ) ts
        states-ground end w = refl
        states-ground (t ▸ ts) w = ap₂ (λ (d : ℕ) (row : List ℕ). d ∷ row) (state-ground t w.0) (states-ground ts w.1)

      -- so a ground atom is in a set by its states exactly if the atom's instance is
      pub instance_of_ground : (S : AtomSet) (a : Atom)
          → WellAtom arities v preds a
          → GroundIn σ (abstraction st S) a
          → InstanceIn interpret (valuation st v σ) S a
      instance_of_ground S a w h = subst (S a.predicate) (states-ground a.arguments w.1) h

      pub ground_of_instance : (S : AtomSet) (a : Atom)
          → WellAtom arities v preds a
          → InstanceIn interpret (valuation st v σ) S a
          → GroundIn σ (abstraction st S) a
      ground_of_instance S a w h = subst (S a.predicate) (sym (states-ground a.arguments w.1)) h

    module _
        (clauses : List Clause)
        (well : All (WellClause arities preds) clauses)
        (S : AtomSet)
        (closed : Closed (length sets) interpret clauses S)
      where
        -- the ground atoms whose states are in a closed set are a closed set of ground atoms
        pub abstraction-closed : GroundClosed arities clauses (abstraction st S)
        abstraction-closed c at σ given body =
            ground_of_instance v σ given S c.head fine.2
            (closed c at (valuation st v σ) (is-valuation v σ given) (All-give c.body body_instance))
          where
            v : ℕ
            v = c.variables

            fine : WellClause arities preds c
            fine = All-find (WellClause arities preds) clauses well c at

            body_instance : (a : Atom) → Memᴰ a c.body → InstanceIn interpret (valuation st v σ) S a
            body_instance a k =
                instance_of_ground v σ given S a
                (All-find (WellAtom arities v preds) c.body fine.3 a k)
                (All-find (GroundIn σ (abstraction st S)) c.body body a k)

        -- what is derivable is, by its states, in every closed set
        pub derivable_in : (p : ℕ) (ts : Trees) → Derivable arities clauses p ts → S p (each_state st ts)
        derivable_in p ts derivable = derivable (abstraction st S) abstraction-closed

    -- a ground term meets a condition exactly if its state does
    pub meets-exact : (c : Condition) (t : Tree) → IsGround arities t → GroundMeets productions c t ↔ T (meets sets c (st t))
    meets-exact (is_of q) t g = ((hom.exact t g q).1, (hom.exact t g q).0)
    meets-exact (not_of q) t g = (
      λ h. not_intro (has (get_or sets (st t) 0) q) (λ k. h ((hom.exact t g q).0 k)),
      λ k h. clash (has (get_or sets (st t) 0) q) ((hom.exact t g q).1 h) k,
    )
    meets-exact free t g = (λ h. tt, λ k. tt)

    -- a substitution meets the conditions of a query exactly if its valuation does
    pub meets_all_exact : (cs : List Condition) (σ : ℕ → Tree)
        → IsSubstitution arities (length cs) σ
        → GroundMeetsAll productions cs σ 0 ↔ T (meets_all sets cs (valuation st (length cs) σ))
    meets_all_exact [] σ given = (λ h. tt, λ t. tt)
    meets_all_exact (c ∷ cs) σ given =
        let first = meets-exact c (σ 0) (given 0 (zero-lt-suc (length cs))) in
        let later = meets_all_exact cs (λ i. σ (suc i)) (λ i lt. given (suc i) (suc-le-suc lt)) in
        let a = meets sets c (st (σ 0)) in
        let b = meets_all sets cs (valuation st (length cs) (λ i. σ (suc i))) in
        let shift = meets_shift productions cs σ 0 in (
          λ h. both_of a b (first.0 h.0) (later.0 (shift.0 h.1)),
          λ t. let w = both a b t in (first.1 w.0, shift.1 (later.1 w.1)),
        )

    -- a query that is not OPEN in some closed set has no derivable ground instance that meets its conditions
    pub clear-sound : (types : ℕ) (clauses : List Clause)
        → All (WellClause arities preds) clauses
        → (q : Query)
        → WellQuery types arities preds q
        → (S : AtomSet)
        → Closed (length sets) interpret clauses S
        → ¬ Open sets (length sets) interpret S q
        → NoneDerivable arities productions clauses q
    clear-sound types clauses well q wq S closed clear σ given met derivable =
        let v = length q.conditions in
        clear (
          valuation st v σ,
          is-valuation v σ given,
          (meets_all_exact q.conditions σ given).0 met,
          instance_of_ground v σ given S q.atom wq.2
              (derivable_in clauses well S closed q.atom.predicate (grounds σ q.atom.arguments) derivable),
        )
