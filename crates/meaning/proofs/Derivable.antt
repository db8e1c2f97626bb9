-- Derivability is neither empty nor out of reach of the conditions: what a ground instance of a clause brings from derivable atoms is derivable, whatever ground terms
-- it gives to the variables; of rule set E, p(z), p(s(s(z))) and so on are, at every height; and NoneDerivable is false of a query with a derivable instance that meets
-- its conditions. Assumes nothing.
use Rattle.meaning.proofs.Prelude.{ℕ, ◌<◌, zero, suc, ◌≡◌, refl, sym, subst, List, [], ◌∷◌, Memᴰ, mem_head, mem_tail}
use Rattle.meaning.proofs.Prelude.{mem_not-nil, mem-eq_of_singleton, ltb, T, lit<, ltb→lt, length, not-suc-le-zero}
use Rattle.meaning.proofs.Prelude.{le_of_suc-le-suc}
use Rattle.meaning.proofs.Definitions.{all_of, Tree, node, leaf, ◌▹◌, Production, Atom, Clause, is_of, not_of, free, Query, Rules, arities}
use Rattle.meaning.proofs.Definitions.{signature, step, IsGround, OfType, grounds, IsSubstitution, Derivable, GroundMeetsAll, NoneDerivable}
use Rattle.meaning.proofs.Definitions.{Bytes, fields, term_within, read_terms, read_atom, read_atoms, read_clause, read_conditions, read_query}
use Rattle.meaning.proofs.Definitions.{rules_in, rules_of}
use Rattle.meaning.proofs.Lists.{All-map, All-give, all_facts}
use Rattle.meaning.proofs.Types.{types-exact}
use Rattle.meaning.proofs.Cases.{E, rules_e, even_odd_rules, X, Y, z, s, p, p₂, clause, query, name, to}

-- The derivable atoms are closed under the ground instances of the clauses, for any ground terms, of any height.
pub derivable_step : (symbols : List ℕ) (clauses : List Clause) (c : Clause)
    → Memᴰ c clauses
    → (σ : ℕ → Tree)
    → ((i : ℕ) → i < c.variables → IsGround symbols (σ i))
    → ((a : Atom) → Memᴰ a c.body → Derivable symbols clauses a.predicate (grounds σ a.arguments))
    → Derivable symbols clauses c.head.predicate (grounds σ c.head.arguments)
derivable_step symbols clauses c listed σ given body S closed = closed c listed σ given (All-give c.body (λ a at. body a at S closed))

-- A derivable ground instance that meets the conditions refutes NoneDerivable, whatever ground terms it gives to the variables.
pub refuted : (symbols : List ℕ) (productions : List Production) (clauses : List Clause) (q : Query) (σ : ℕ → Tree)
    → ((i : ℕ) → i < length q.conditions → IsGround symbols (σ i))
    → GroundMeetsAll productions q.conditions σ 0
    → Derivable symbols clauses q.atom.predicate (grounds σ q.atom.arguments)
    → ¬ NoneDerivable symbols productions clauses q
refuted symbols productions clauses q σ given met derivable none = none σ given met derivable

-- the ground terms z, s(z), s(s(z))
abbrev zero' : Tree
zero' = node 0 leaf

abbrev next : Tree → Tree
next t = node 1 (t ▹ leaf)

-- E's bytes say the rules that its words say
pub rules_of_E : rules_of E ≡ rules_e
unfolding E rules_e even_odd_rules X z s p clause query name to fields term_within read_terms read_atom read_atoms read_clause read_conditions read_query rules_in rules_of
rules_of_E = refl

-- numbers that are bytes, computed
bytes_by : (l : List ℕ) → T (all_of (λ b. ltb b 256) l) → Bytes l
bytes_by l t = All-map l (λ b lt. ltb→lt b 256 lt) (all_facts (λ b. ltb b 256) l t)

pub bytes_of_E : Bytes E
unfolding E
bytes_of_E = bytes_by E tt

-- E's symbols, with the terms that they build
abbrev symbols_e : List ℕ
symbols_e = arities rules_e.symbols

ground-zero : IsGround symbols_e zero'
unfolding rules_e even_odd_rules name signature
ground-zero = (tt, tt)

ground-next : (t : Tree) → IsGround symbols_e t → IsGround symbols_e (next t)
unfolding rules_e even_odd_rules name signature
ground-next t g = (tt, (g, tt))

-- p(z): the clause without a body
pub zero_derivable : Derivable symbols_e rules_e.clauses 0 (zero' ▹ leaf)
unfolding rules_e even_odd_rules clause p z
zero_derivable =
    derivable_step symbols_e rules_e.clauses (clause 0 (p z) []) (mem_head refl) (λ i. zero') (λ i lt. ground-zero) (λ a at. absurd (mem_not-nil at))

-- p(s(s(t))) from p(t): the other clause, with X given t; so p(s(..s(z)..)) for every even number of s, and no height is left out
abbrev evens : ℕ → Tree
evens zero = zero'
evens (suc n) = next (next (evens n))

ground-evens : (n : ℕ) → IsGround symbols_e (evens n)
ground-evens zero = ground-zero
ground-evens (suc n) = ground-next (next (evens n)) (ground-next (evens n) (ground-evens n))

pub evens_derivable : (n : ℕ) → Derivable symbols_e rules_e.clauses 0 (evens n ▹ leaf)
unfolding rules_e even_odd_rules clause p s X
evens_derivable zero = zero_derivable
evens_derivable (suc n) =
    derivable_step symbols_e rules_e.clauses (clause 1 (p (s (s X))) (p X ∷ [])) (mem_tail (mem_head refl)) (λ i. evens n) (λ i lt. ground-evens n) (λ a at.
    subst (λ (b : Atom). Derivable symbols_e rules_e.clauses b.predicate (grounds (λ i. evens n) b.arguments)) (sym (mem-eq_of_singleton at)) (evens_derivable n))

pub two_derivable : Derivable symbols_e rules_e.clauses 0 (next (next zero') ▹ leaf)
two_derivable = evens_derivable (suc zero)

-- the types of s(s(z)) and z
not_odd : ¬ OfType rules_e.productions (next (next zero')) 1
unfolding rules_e even_odd_rules to step
not_odd h = (types-exact rules_e.productions 2 (lit< tt, (lit< tt, (lit< tt, tt))) (next (next zero')) 1).1 h

-- E's query p(X), X not odd, is OPEN, and not without reason: p(s(s(z))) is derivable and meets its condition.
pub open_of_E : ¬ NoneDerivable symbols_e rules_e.productions rules_e.clauses (query (not_of 1 ∷ []) (p X))
unfolding query p X
open_of_E none = none (λ i. next (next zero')) (λ i lt. ground-next (next zero') (ground-next zero' ground-zero)) (not_odd, tt) two_derivable

-- Two variables may be given different terms, and those past the count anything: p(X, Y) holds of all X and Y, and is asked with X free and Y even.
unfoldable pub rules_two : Rules
rules_two = even_odd_rules (name 0x70 2 ∷ []) (clause 2 (p₂ X Y) [] ∷ []) []

pairs : ℕ → Tree
pairs zero = next zero'
pairs (suc zero) = zero'
pairs (suc (suc i)) = node 7 leaf

pairs_given : IsSubstitution (arities rules_two.symbols) 2 pairs
unfolding rules_two even_odd_rules name signature pairs
pairs_given zero lt = (tt, ((tt, tt), tt))
pairs_given (suc zero) lt = (tt, tt)
pairs_given (suc (suc i)) lt = absurd (not-suc-le-zero (le_of_suc-le-suc (le_of_suc-le-suc lt)))

pub open_of_two : ¬ NoneDerivable (arities rules_two.symbols) rules_two.productions rules_two.clauses (query (free ∷ is_of 0 ∷ []) (p₂ X Y))
unfolding rules_two even_odd_rules clause query p₂ X Y to pairs
open_of_two none =
    none pairs pairs_given (tt, ((to 0 0 [], mem_head refl, refl, refl, tt), tt))
    (derivable_step (arities rules_two.symbols) rules_two.clauses (clause 2 (p₂ X Y) []) (mem_head refl) pairs pairs_given (λ a at. absurd (mem_not-nil at)))
