-- The types of a ground term are exactly those that 01 gives it, and what the symbols of ground terms are. Above this file `step` is known only
-- by step-lt and through types_of, and `signature` only by listed-allowed and allowed-listed. Assumes nothing.
use Rattle.meaning.proofs.Prelude.{ℕ, ◌+◌, ◌<◌, zero, suc, ◌^◌, suc-le-suc, ◌≡◌, sym, ap, ◌∙◌, subst, ⊎_elim, ◌↔◌, Bool, ◌&&◌, List, [], ◌∷◌}
use Rattle.meaning.proofs.Prelude.{Memᴰ, mem_head, mem_tail, mem_cast, mem_not-nil, mem_cases-cons, ltb, T, eqb}
use Rattle.meaning.proofs.Prelude.{eqb→eq, eqb_refl, lt→ltb, length, get_or, not-suc-le-zero, le_of_suc-le-suc, zero-add, add-zero, suc-add}
use Rattle.meaning.proofs.Prelude.{add-suc, zero-lt-suc, eq-eqb}
use Rattle.meaning.proofs.Definitions.{any_of, All, Tree, Trees, node, leaf, ◌▹◌, Production, Declared, has, Sym, numbered, signature, allowed}
use Rattle.meaning.proofs.Definitions.{OfType, OfTypes, IsTypeSet, SameTypes, fits, step, types_of, types_ofs}
use Rattle.meaning.proofs.Lists.{T_of, bool_ext, both, both_of, any_find, any_give, All-find}
use Rattle.meaning.proofs.Sets.{has-set_of, set_of-lt, set_same}

-- a production gives a symbol over a row of sets a type
abbrev Gives : ℕ → List ℕ → ℕ → Production → Type 0
Gives f row q p = (p.target ≡ q) × (p.symbol ≡ f) × T (fits row p.arguments)

abbrev gives : ℕ → List ℕ → ℕ → Production → Bool
gives f row q p = eqb p.target q && eqb p.symbol f && fits row p.arguments

gives_fact : (f : ℕ) (row : List ℕ) (q : ℕ) (p : Production) → T (gives f row q p) → Gives f row q p
gives_fact f row q p t =
    let u = both (eqb p.target q && eqb p.symbol f) (fits row p.arguments) t in
    let v = both (eqb p.target q) (eqb p.symbol f) u.0 in
    (eqb→eq p.target q v.0, eqb→eq p.symbol f v.1, u.1)

fact_gives : (f : ℕ) (row : List ℕ) (q : ℕ) (p : Production) → Gives f row q p → T (gives f row q p)
fact_gives f row q p h =
    both_of
    (eqb p.target q && eqb p.symbol f)
    (fits row p.arguments)
    (both_of
    (eqb p.target q)
    (eqb p.symbol f)
    (T_of (eqb p.target q) (eq-eqb p.target q h.0))
    (T_of (eqb p.symbol f) (eq-eqb p.symbol f h.1)))
    h.2

module _ (productions : List Production) (types : ℕ) where
  -- what `step` holds
  pub step-lt : (f : ℕ) (row : List ℕ) → step productions types f row < 2 ^ types
  unfolding step
  step-lt f row = set_of-lt types (λ q. any_of (gives f row q) productions)

  step-has : (f : ℕ) (row : List ℕ) (q : ℕ) → has (step productions types f row) q ≡ (ltb q types && any_of (gives f row q) productions)
  unfolding step
  step-has f row q = has-set_of types (λ q. any_of (gives f row q) productions) q

  step_find : (f : ℕ) (row : List ℕ) (q : ℕ) → T (has (step productions types f row) q) → (p : Production) × Memᴰ p productions × Gives f row q p
  step_find f row q t =
      let w = any_find (gives f row q) productions (both (ltb q types) (any_of (gives f row q) productions) (subst T (step-has f row q) t)).1 in
      (w.0, w.1, gives_fact f row q w.0 w.2)

  step_give :
      (f : ℕ) (row : List ℕ) (q : ℕ) (p : Production)
      → q < types
      → Memᴰ p productions
      → Gives f row q p
      → T (has (step productions types f row) q)
  step_give f row q p lt m h =
      subst
      T
      (sym (step-has f row q))
      (both_of (ltb q types) (any_of (gives f row q) productions) (lt→ltb q types lt) (any_give (gives f row q) productions p m (fact_gives f row q p h)))

  -- the types of a ground term
  pub types-lt : (t : Tree) → types_of productions types t < 2 ^ types
  types-lt (node f ts) = step-lt f (types_ofs productions types ts)

  mutual
    types_find : (t : Tree) (q : ℕ) → T (has (types_of productions types t) q) → OfType productions t q
    types_find (node f ts) q h =
        let w = step_find f (types_ofs productions types ts) q h in
        (w.0, w.1, w.2.0, w.2.1, fits_find ts w.0.arguments w.2.2)

    fits_find : (ts : Trees) (qs : List ℕ) → T (fits (types_ofs productions types ts) qs) → OfTypes productions ts qs
    fits_find leaf [] h = tt
    fits_find leaf (q ∷ qs) h = h
    fits_find (t ▹ ts) [] h = h
    fits_find (t ▹ ts) (q ∷ qs) h =
        let w = both (has (types_of productions types t) q) (fits (types_ofs productions types ts) qs) h in
        (types_find t q w.0, fits_find ts qs w.1)

  module _ (within : All (λ (p : Production). p.target < types) productions) where
    mutual
      types_give : (t : Tree) (q : ℕ) → OfType productions t q → T (has (types_of productions types t) q)
      types_give (node f ts) q h =
          step_give
          f
          (types_ofs productions types ts)
          q
          h.0
          (subst (λ (n : ℕ). n < types) h.2 (All-find (λ (p : Production). p.target < types) productions within h.0 h.1))
          h.1
          (h.2, h.3, fits_give ts h.0.arguments h.4)

      fits_give : (ts : Trees) (qs : List ℕ) → OfTypes productions ts qs → T (fits (types_ofs productions types ts) qs)
      fits_give leaf [] h = tt
      fits_give leaf (q ∷ qs) h = h
      fits_give (t ▹ ts) [] h = h
      fits_give (t ▹ ts) (q ∷ qs) h =
          both_of (has (types_of productions types t) q) (fits (types_ofs productions types ts) qs) (types_give t q h.0) (fits_give ts qs h.1)

    pub types-exact : (t : Tree) (q : ℕ) → T (has (types_of productions types t) q) ↔ OfType productions t q
    types-exact t q = (types_find t q, types_give t q)

    -- the set of a term's types is that set alone
    pub type-set-exact : (t : Tree) (s : ℕ) → (types_of productions types t ≡ s) ↔ IsTypeSet productions t s
    type-set-exact t s = (
      λ e. subst (IsTypeSet productions t) e (types-exact t),
      λ h.
          set_same (types_of productions types t) s
          (λ q. bool_ext (has (types_of productions types t) q) (has s q) (λ k. (h q).1 (types_find t q k)) (λ k. types_give t q ((h q).0 k))),
    )

    -- terms with the same types have the same set
    pub same-types-exact : (t u : Tree) → (types_of productions types t ≡ types_of productions types u) ↔ SameTypes productions t u
    same-types-exact t u = (
      λ e q. (
        λ h. types_find u q (subst (λ (s : ℕ). T (has s q)) e (types_give t q h)),
        λ h. types_find t q (subst (λ (s : ℕ). T (has s q)) (sym e) (types_give u q h)),
      ),
      λ h. (type-set-exact t (types_of productions types u)).1 (λ q. (λ k. (h q).1 (types_find u q k), λ k. types_give u q ((h q).0 k))),
    )

-- a symbol with its arity
abbrev pub symbol_of : ℕ → ℕ → Sym
symbol_of f n = record { symbol = f; arity = n }

-- ground terms may be built from exactly the symbols of the signature
module _ (arities : List ℕ) where
  abbrev is_symbol : ℕ → ℕ → Sym → Bool
  is_symbol f n s = eqb s.symbol f && eqb s.arity n

  pub allowed-listed : (f n : ℕ) → T (allowed arities f n) → Memᴰ (symbol_of f n) (signature arities)
  allowed-listed f n t =
      let w = any_find (is_symbol f n) (signature arities) t in
      let u = both (eqb w.0.symbol f) (eqb w.0.arity n) w.2 in
      let e = eqb→eq w.0.symbol f u.0 in
      let d = eqb→eq w.0.arity n u.1 in
      mem_cast (sym (λ i. symbol_of (e i) (d i))) w.1

  pub listed-allowed : (f n : ℕ) → Memᴰ (symbol_of f n) (signature arities) → T (allowed arities f n)
  listed-allowed f n m =
      any_give (is_symbol f n) (signature arities) (symbol_of f n) m (both_of (eqb f f) (eqb n n) (eqb_refl f) (eqb_refl n))

-- declared symbols stand in the signature at their number
numbered-at : (i : ℕ) (arities : List ℕ) (k : ℕ) → k < length arities → Memᴰ (symbol_of (i + k) (get_or arities k 0)) (numbered i arities)
numbered-at i [] k lt = absurd (not-suc-le-zero lt)
numbered-at i (n ∷ ns) zero lt = mem_head (ap (λ (f : ℕ). symbol_of f n) (add-zero i))
numbered-at i (n ∷ ns) (suc k) lt =
    mem_tail (mem_cast (ap (λ (f : ℕ). symbol_of f (get_or ns k 0)) (add-suc i k ∙ sym (suc-add i k))) (numbered-at (suc i) ns k (le_of_suc-le-suc lt)))

pub declared-allowed : (arities : List ℕ) (f n : ℕ) → Declared arities f n → T (allowed arities f n)
unfolding signature
declared-allowed arities f n d =
    listed-allowed arities f n (mem_cast (λ i. symbol_of (sym (zero-add f) i) (sym d.1 i)) (numbered-at 0 arities f d.0))

-- and nothing else does
numbered_find : (i : ℕ) (arities : List ℕ) (s : Sym) → Memᴰ s (numbered i arities) → (k : ℕ) × (i + k ≡ s.symbol) × Declared arities k s.arity
numbered_find i [] s m = absurd (mem_not-nil m)
numbered_find i (n ∷ ns) s m =
    ⊎_elim
    (λ (e : s ≡ symbol_of i n). (0, add-zero i ∙ sym (ap (λ (x : Sym). x.symbol) e), (zero-lt-suc (length ns), sym (ap (λ (x : Sym). x.arity) e))))
    (λ h. let w = numbered_find (suc i) ns s h in (suc w.0, add-suc i w.0 ∙ sym (suc-add i w.0) ∙ w.1, (suc-le-suc w.2.0, w.2.1)))
    (mem_cases-cons m)

pub allowed-declared : (arities : List ℕ) (f n : ℕ) → T (allowed arities f n) → Declared arities f n
unfolding signature
allowed-declared arities f n t =
    let w = numbered_find 0 arities (symbol_of f n) (allowed-listed arities f n t) in
    subst (λ (k : ℕ). Declared arities k n) (sym (zero-add w.0) ∙ w.1) w.2
