-- Sets of types as numbers: what they hold, how large they are, and that they are equal if they hold the same. Nothing above this file looks
-- inside `has` and `set_of`. Assumes nothing.
use Rattle.meaning.proofs.Prelude.{ℕ, ◌+◌, ◌<◌, zero, suc, ◌^◌, ◌*◌, ◌/◌, ◌%◌, suc-le-suc, ◌≡◌, refl, sym, ap, ◌∙◌, subst, Bool, true, false}
use Rattle.meaning.proofs.Prelude.{◌&&◌, ltb, T, leb-suc-zero, leb-suc-suc, lt_of_lt_of_le, zero-lt-suc, pow-zero, pow-succ', arith, ne_eqb}
use Rattle.meaning.proofs.Prelude.{eq-eqb, lt-ltb, eqb-true, eqb-false}
use lib.Pow.{pow_mono}
use Rattle.meaning.specs.Types.{has, bit, set_of}

-- the set with no type
pub has_nothing : (t : ℕ) → has 0 t ≡ false
has_nothing zero = refl
has_nothing (suc t) = has_nothing t

-- a set by its lowest type and the rest
has-lowest : (b : Bool) (s : ℕ) → has (bit b + 2 * s) 0 ≡ b
has-lowest true s = eq-eqb ((1 + 2 * s) % 2) 1 (omega arith)
has-lowest false s = ne_eqb ((0 + 2 * s) % 2) 1 (omega arith)

rest-is : (b : Bool) (s : ℕ) → (bit b + 2 * s) / 2 ≡ s
rest-is true s = omega arith
rest-is false s = omega arith

-- what a set holds
pub has-set_of : (n : ℕ) (test : ℕ → Bool) (t : ℕ) → has (set_of n test) t ≡ (ltb t n && test t)
has-set_of zero test t = has_nothing t ∙ ap (λ (b : Bool). b && test t) (sym (leb-suc-zero t))
has-set_of (suc n) test zero =
    has-lowest (test 0) (set_of n (λ t. test (suc t))) ∙ ap (λ (b : Bool). b && test 0) (sym (lt-ltb 0 (suc n) (zero-lt-suc n)))
has-set_of (suc n) test (suc t) =
    ap (λ (s : ℕ). has s t) (rest-is (test 0) (set_of n (λ t. test (suc t))))
    ∙ has-set_of n (λ t. test (suc t)) t
    ∙ ap (λ (b : Bool). b && test (suc t)) (sym (leb-suc-suc (suc t) n))

bit-lt : (b : Bool) → bit b < 2
bit-lt true = omega arith
bit-lt false = omega arith

pub set_of-lt : (n : ℕ) (test : ℕ → Bool) → set_of n test < 2 ^ n
set_of-lt zero test = omega (arith, pow-zero 2)
set_of-lt (suc n) test = omega (arith, pow-succ' 2 n, bit-lt (test 0), set_of-lt n (λ t. test (suc t)))

-- sets that hold the same types are equal
half_lt : (n a : ℕ) → a < 2 ^ suc n → a / 2 < 2 ^ n
half_lt n a lt = omega (arith, pow-succ' 2 n)

same-lowest : (a b : ℕ) → has a 0 ≡ has b 0 → a % 2 ≡ b % 2
same-lowest a b e = go (has a 0) refl
  where
    go : (c : Bool) → has a 0 ≡ c → a % 2 ≡ b % 2
    go true h = omega (arith, eqb-true (a % 2) 1 h, eqb-true (b % 2) 1 (sym e ∙ h))
    go false h = omega (arith, eqb-false (a % 2) 1 h, eqb-false (b % 2) 1 (sym e ∙ h))

pub set_ext : (n a b : ℕ) → a < 2 ^ n → b < 2 ^ n → ((t : ℕ) → t < n → has a t ≡ has b t) → a ≡ b
set_ext zero a b lta ltb h = omega (arith, pow-zero 2)
set_ext (suc n) a b lta ltb h =
    omega (
      arith,
      same-lowest a b (h 0 (zero-lt-suc n)),
      set_ext n (a / 2) (b / 2) (half_lt n a lta) (half_lt n b ltb) (λ t lt. h (suc t) (suc-le-suc lt)),
    )

-- whatever their size: a number is below the power of two that it is the exponent of
below_power : (n : ℕ) → n < 2 ^ n
below_power zero = omega (arith, pow-zero 2)
below_power (suc n) = omega (arith, pow-succ' 2 n, below_power n)

pub set_same : (a b : ℕ) → ((t : ℕ) → has a t ≡ has b t) → a ≡ b
set_same a b h =
    set_ext (a + b) a b
    (lt_of_lt_of_le (below_power a) (pow_mono (omega arith)))
    (lt_of_lt_of_le (below_power b) (pow_mono (omega arith)))
    (λ t lt. h t)

-- a set below 2 ^ n holds only types below n
pub has-lt : (n a t : ℕ) → a < 2 ^ n → T (has a t) → t < n
has-lt zero a t lt h = absurd (subst T (ap (λ (s : ℕ). has s t) (omega (arith, pow-zero 2)) ∙ has_nothing t) h)
has-lt (suc n) a zero lt h = zero-lt-suc n
has-lt (suc n) a (suc t) lt h = suc-le-suc (has-lt n (a / 2) t (half_lt n a lt) h)
