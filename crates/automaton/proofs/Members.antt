-- The set with one type alone, and the size of a set with a type added. Assumes nothing.
use Rattle.meaning.proofs.Prelude.{ℕ, ◌<◌, ◌^◌, ◌≡◌, sym, subst, ⊎_elim, T, eqb, eqb→eq, eqb_refl}
use lib.Bits.{or_lt}
use lib.Pow.{pow-lt}
use Rattle.meaning.specs.Types.{has}
use Rattle.meaning.proofs.Lists.{either, left_of}
use Rattle.meaning.proofs.Sets.{has_nothing}
use Rattle.meaning.proofs.Bits.{has_with}
use Rattle.automaton.specs.Sets.{added}

pub one_has : (t u : ℕ) → T (has (added 0 t) u) → u ≡ t
one_has t u h =
    ⊎_elim (λ k. eqb→eq u t k) (λ k. absurd (subst T (has_nothing u) k)) (either (eqb u t) (has 0 u) (subst T (has_with 0 t u) h))

pub one-own : (t : ℕ) → T (has (added 0 t) t)
one-own t = subst T (sym (has_with 0 t t)) (left_of (eqb t t) (has 0 t) (eqb_refl t))

-- a set with one type added is a number of 16 bits
pub added-lt : (s t : ℕ) → s < 2 ^ 16 → t < 16 → added s t < 2 ^ 16
added-lt s t h k = or_lt 16 s (2 ^ t) h (pow-lt {i = t} {j = 16} k)
