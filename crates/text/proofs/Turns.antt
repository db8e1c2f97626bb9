-- A turn of the loop that puts digits from the last to the first. Assumes nothing.
use Rattle.meaning.proofs.Prelude.{ℕ, ◌+◌, ◌≤◌, ◌-◌, ◌<◌, suc, ◌/◌, ◌%◌, ◌≡◌, sym, ap, ◌∙◌, List, length, set}
use Rattle.meaning.proofs.Prelude.{arith}
use Rattle.text.specs.Decimal.{digit, decimal}
use Rattle.byte_runs.specs.Pasted.{pasted}
use Rattle.text.proofs.Decimal.{last_digits, length_last, last_all}
use Rattle.byte_runs.proofs.Pasted.{pasted-nil, pasted-last}

-- the last digit stored, the digits before it are to be pasted
digits_step : (out : List ℕ) (at k n : ℕ) → at + k < length out
    → pasted (set out (at + k) (digit (n % 10))) at (last_digits k (n / 10)) ≡ pasted out at (last_digits (suc k) n)
unfolding last_digits
digits_step out at k n fits =
    let e : length (last_digits k (n / 10)) ≡ k = length_last k (n / 10) in
    ap (λ (j : ℕ). pasted (set out (at + j) (digit (n % 10))) at (last_digits k (n / 10))) (sym e)
    ∙ pasted-last out at (last_digits k (n / 10)) (digit (n % 10)) (omega arith)

pub digits_next : (out : List ℕ) (at i n : ℕ) → at < i → i ≤ length out
    → pasted (set out (i - 1) (digit (n % 10))) at (last_digits (i - 1 - at) (n / 10)) ≡ pasted out at (last_digits (i - at) n)
digits_next out at i n lt fits =
    let e : i - 1 ≡ at + (i - 1 - at) = omega arith in
    ap (λ (j : ℕ). pasted (set out j (digit (n % 10))) at (last_digits (i - 1 - at) (n / 10))) e
    ∙ digits_step out at (i - 1 - at) n (omega arith)
    ∙ ap (λ (k : ℕ). pasted out at (last_digits k n)) (omega arith)

-- at the start all digits are to come, at the end none
pub digits_all : (at k n : ℕ) → k ≡ length (decimal n) → last_digits (at + k - at) n ≡ decimal n
digits_all at k n e =
    let d : at + k - at ≡ length (decimal n) = omega arith in
    ap (λ (j : ℕ). last_digits j n) d ∙ last_all n

pub digits_done : (out : List ℕ) (at i n : ℕ) → i ≤ at → out ≡ pasted out at (last_digits (i - at) n)
unfolding last_digits
digits_done out at i n h =
    let d : i - at ≡ 0 = omega arith in
    rw d (sym (pasted-nil out at))
