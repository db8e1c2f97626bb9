-- Numbers in decimal: the digits of a number below ten and of another; what they are worth is the number; each is one of the bytes 48 to 57,
-- the first is 48 only of 0; how many there are at most; and the last digits of a number, of which its own are as many as it has.
-- Assumes nothing.
use Rattle.meaning.proofs.Prelude.{ℕ, ◌+◌, ◌≤◌, ◌-◌, ◌<◌, zero, suc, ◌^◌, ◌*◌, ◌/◌, ◌%◌, ◌≡◌, refl, sym, ap, ◌∙◌, ⊎_elim, ◌⊎◌, inl, inr, List, []}
use Rattle.meaning.proofs.Prelude.{◌∷◌, ◌++◌, Memᴰ, mem-eq_of_singleton, mem-append_cases, length, length-append, get_or}
use Rattle.meaning.proofs.Prelude.{get_or-append, zero-lt-suc, one-le-pow, pow-suc, div-lt_iff_lt-mul, add-one, dec_lt, arith, lt-ltb, le-ltb}
use Rattle.std.specs.Prelude.{Option, None, Some, IfNone, IfSome}
use Rattle.std.specs.Option.{unwrap_or}
use Rattle.text.specs.Decimal.{digit, digits_in, decimal, value_after, value}

-- some numbers
decimal_0 : decimal 0 ≡ 48 ∷ []
unfolding decimal digits_in
decimal_0 = refl

decimal_7 : decimal 7 ≡ 55 ∷ []
unfolding decimal digits_in
decimal_7 = refl

decimal_10 : decimal 10 ≡ 49 ∷ 48 ∷ []
unfolding decimal digits_in
decimal_10 = refl

decimal_255 : decimal 255 ≡ 50 ∷ 53 ∷ 53 ∷ []
unfolding decimal digits_in
decimal_255 = refl

decimal_65536 : decimal 65536 ≡ 54 ∷ 53 ∷ 53 ∷ 51 ∷ 54 ∷ []
unfolding decimal digits_in
decimal_65536 = refl

-- a number is below ten, or ten and more: cases, and induction by tenths
ten_cases : (n : ℕ) → (n < 10) ⊎ (10 ≤ n)
ten_cases n = go (dec_lt n 10)
  where
    go : Dec (n < 10) → (n < 10) ⊎ (10 ≤ n)
    go (yes h) = inl h
    go (no h) = inr (omega arith)

by_tenths : (P : ℕ → Type 0) → ((n : ℕ) → n < 10 → P n) → ((n : ℕ) → 10 ≤ n → P (n / 10) → P n) → (n : ℕ) → P n
by_tenths P small more n = go (suc n) n (omega arith)
  where
    go : (steps n : ℕ) → n < steps → P n
    go zero n h = absurd (omega arith)
    go (suc steps) n h = ⊎_elim (λ lt. small n lt) (λ ge. more n ge (go steps (n / 10) (omega arith))) (ten_cases n)

-- the two equations of the digits, with no word of steps
steps-small : (steps n : ℕ) → n < 10 → digits_in (suc steps) n ≡ digit n ∷ []
unfolding digits_in
steps-small steps n h = rw (lt-ltb n 10, digits_in)

steps-more : (steps n : ℕ) → 10 ≤ n → digits_in (suc steps) n ≡ digits_in steps (n / 10) ++ (digit (n % 10) ∷ [])
unfolding digits_in
steps-more steps n h = rw (le-ltb n 10, digits_in)

steps-same : (f g n : ℕ) → n < f → n < g → digits_in f n ≡ digits_in g n
steps-same zero g n hf hg = absurd (omega arith)
steps-same (suc f) zero n hf hg = absurd (omega arith)
steps-same (suc f) (suc g) n hf hg =
    ⊎_elim
    (λ lt. steps-small f n lt ∙ sym (steps-small g n lt))
    (λ ge. steps-more f n ge ∙ ap (λ (l : List ℕ). l ++ (digit (n % 10) ∷ [])) (steps-same f g (n / 10) (omega arith) (omega arith)) ∙ sym (steps-more g n ge))
    (ten_cases n)

pub decimal-small : (n : ℕ) → n < 10 → decimal n ≡ digit n ∷ []
unfolding decimal
decimal-small n h = steps-small n n h

pub decimal-more : (n : ℕ) → 10 ≤ n → decimal n ≡ decimal (n / 10) ++ (digit (n % 10) ∷ [])
unfolding decimal
decimal-more n h = steps-more n n h ∙ ap (λ (l : List ℕ). l ++ (digit (n % 10) ∷ [])) (steps-same n (suc (n / 10)) (n / 10) (omega arith) (omega arith))

-- how many digits there are
pub length-small : (n : ℕ) → n < 10 → length (decimal n) ≡ 1
length-small n h = ap length (decimal-small n h)

pub length_more : (n : ℕ) → 10 ≤ n → length (decimal n) ≡ length (decimal (n / 10)) + 1
length_more n h = ap length (decimal-more n h) ∙ length-append (decimal (n / 10)) (digit (n % 10) ∷ [])

pub length_pos : (n : ℕ) → 0 < length (decimal n)
length_pos n = ⊎_elim (λ lt. omega (arith, length-small n lt)) (λ ge. omega (arith, length_more n ge)) (ten_cases n)

pub length_most : (n k : ℕ) → n < 10 ^ suc k → length (decimal n) ≤ suc k
length_most =
    by_tenths (λ n. (k : ℕ) → n < 10 ^ suc k → length (decimal n) ≤ suc k) (λ n lt k h. omega (arith, length-small n lt)) go
  where
    go : (n : ℕ) → 10 ≤ n → ((k : ℕ) → n / 10 < 10 ^ suc k → length (decimal (n / 10)) ≤ suc k) → (k : ℕ) → n < 10 ^ suc k → length (decimal n) ≤ suc k
    go n ge ih zero h = absurd (omega arith)
    go n ge ih (suc k) h =
        let tenth : n / 10 < 10 ^ suc k = (div-lt_iff_lt-mul (zero-lt-suc 9)).1 (rw (← pow-suc 10 (suc k)) h) in
        omega (arith, length_more n ge, ih k tenth)

-- as many as the exponent of the greatest power of ten that is not above the number, and one more; 0, with no such power, has one
length_least : (n k : ℕ) → 10 ^ k ≤ n → suc k ≤ length (decimal n)
length_least n zero h = length_pos n
length_least n (suc k) h =
    let ge : 10 ≤ n = omega (arith, pow-suc 10 k, one-le-pow k 10 (omega arith)) in
    omega (arith, length_more n ge, length_least (n / 10) k (omega (arith, pow-suc 10 k)))

pub length_power : (n : ℕ) (o : Option ℕ) → IfNone o (n ≡ 0) → IfSome o (λ k. 10 ^ k ≤ n) → IfSome o (λ k. n < 10 * 10 ^ k) → unwrap_or o 0 + 1 ≡ length (decimal n)
length_power n None none le gt = omega (arith, length-small n (omega arith))
length_power n (Some k) none le gt = omega (arith, length_least n k le, length_most n k (omega (arith, pow-suc 10 k)))

pub length_u64 : (n : ℕ) → n < 2 ^ 64 → length (decimal n) ≤ 20
length_u64 n h = length_most n 19 (omega arith)

-- what the digits are worth
value-append : (v : ℕ) (a b : List ℕ) → value_after v (a ++ b) ≡ value_after (value_after v a) b
unfolding value_after
value-append v [] b = refl
value-append v (x ∷ a) b = value-append (v * 10 + (x - 48)) a b

pub value-decimal : (n : ℕ) → value (decimal n) ≡ n
unfolding value value_after
value-decimal =
    by_tenths (λ n. value (decimal n) ≡ n) (λ n lt. ap value (decimal-small n lt) ∙ omega arith)
    (λ n ge ih. ap value (decimal-more n ge) ∙ value-append 0 (decimal (n / 10)) (digit (n % 10) ∷ []) ∙ omega arith)

-- the first digit is 0 only of the number 0
pub first-digit : (n : ℕ) → 0 < n → 48 < get_or (decimal n) 0 0
first-digit =
    by_tenths (λ n. 0 < n → 48 < get_or (decimal n) 0 0)
    (λ n lt pos. rw (decimal-small n lt) (omega arith))
    (λ n ge ih pos. rw (decimal-more n ge, get_or-append (decimal (n / 10)) (digit (n % 10) ∷ []) 0 0 (length_pos (n / 10))) (ih (omega arith)))

-- each digit is one of the bytes 48 to 57
pub digits_only : (n b : ℕ) → Memᴰ b (decimal n) → (48 ≤ b) × (b ≤ 57)
digits_only =
    by_tenths (λ n. (b : ℕ) → Memᴰ b (decimal n) → (48 ≤ b) × (b ≤ 57))
    (λ n lt b m. omega (arith, mem-eq_of_singleton (rw (decimal-small n lt) at m)))
    (λ n ge ih b m. ⊎_elim (ih b) (λ m₁. omega (arith, mem-eq_of_singleton m₁)) (mem-append_cases (decimal (n / 10)) (rw (decimal-more n ge) at m)))

-- the last k digits of n, and the digits of n as the last of them
unfoldable pub last_digits : ℕ → ℕ → List ℕ
last_digits zero n = []
last_digits (suc k) n = last_digits k (n / 10) ++ (digit (n % 10) ∷ [])

pub length_last : (k n : ℕ) → length (last_digits k n) ≡ k
unfolding last_digits
length_last zero n = refl
length_last (suc k) n = length-append (last_digits k (n / 10)) (digit (n % 10) ∷ []) ∙ add-one (length (last_digits k (n / 10))) ∙ ap suc (length_last k (n / 10))

pub last_all : (n : ℕ) → last_digits (length (decimal n)) n ≡ decimal n
last_all =
    by_tenths (λ n. last_digits (length (decimal n)) n ≡ decimal n)
    (λ n lt. unfold last_digits in rw (length-small n lt) (ap (λ (d : ℕ). digit d ∷ []) (omega arith) ∙ sym (decimal-small n lt)))
    (λ n ge ih. unfold last_digits in rw (length_more n ge, add-one (length (decimal (n / 10)))) (ap (λ (l : List ℕ). l ++ (digit (n % 10) ∷ [])) ih ∙ sym (decimal-more n ge)))
