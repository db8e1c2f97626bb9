-- When the content of a field is a name and a production, by its length, its first bytes and the bytes after them. Assumes nothing.
use Rattle.meaning.proofs.Prelude.{ℕ, ◌≤◌, ◌-◌, ◌<◌, ◌≡◌, ◌∙◌, ◌&&◌, List, [], ◌∷◌, ltb, length, get_or, drop, sub-zero}
use Rattle.meaning.proofs.Prelude.{suc-sub-suc, arith, eq-eqb, le-leb, lt-ltb}
use Rattle.meaning.proofs.Definitions.{all_of, most_name, name_byte, is_name, declared, is_production}

-- a name: its length, and then each of its bytes
pub name_all : (s : List ℕ) → 1 ≤ length s → length s ≤ most_name → is_name s ≡ all_of name_byte s
name_all s h k = rw (le-leb 1 (length s), le-leb (length s) most_name)

-- a production: its target, its symbol, its arity, and then the types of its arguments
production-step : (types : ℕ) (arities s : List ℕ) → 2 ≤ length s
    → is_production types arities s
    ≡ (ltb (get_or s 0 0) types && declared arities (get_or s 1 0) (length s - 2) && all_of (λ b. ltb b types) (drop 2 s))
production-step types arities [] h = absurd (omega arith)
production-step types arities (x ∷ []) h = absurd (omega arith)
production-step types arities (x ∷ y ∷ s) h = rw (suc-sub-suc, suc-sub-suc, sub-zero)

-- at the last test the types of the arguments are left
pub production-arguments : (types : ℕ) (arities s : List ℕ)
    → 2 ≤ length s
    → get_or s 0 0 < types
    → get_or s 1 0 < length arities
    → get_or arities (get_or s 1 0) 0 ≡ length s - 2
    → is_production types arities s ≡ all_of (λ b. ltb b types) (drop 2 s)
production-arguments types arities s h k m e =
    production-step types arities s h
    ∙ rw (lt-ltb (get_or s 0 0) types, lt-ltb (get_or s 1 0) (length arities), eq-eqb (get_or arities (get_or s 1 0) 0) (length s - 2))
