-- Numbers in decimal: their digits as ASCII bytes, the most significant first, with no leading zero, and what such bytes are worth.
use Rattle.std.specs.Prelude.{ℕ, zero, suc, ◌+◌, ◌*◌, ◌-◌, ◌/◌, ◌%◌, true, false, List, [], ◌∷◌, ◌++◌, ltb}

-- the ASCII byte of a digit: `0` is 48
abbrev pub digit : ℕ → ℕ
digit d = 48 + d

-- the digits of n: of a number below ten that number, of another those of a tenth of it, and then the last one. `steps` bounds how many
-- there are, for the recursion to end
unfoldable pub digits_in : ℕ → ℕ → List ℕ
digits_in zero n = []
digits_in (suc steps) n = elim (ltb n 10) [ true ↦ digit n ∷ [] | false ↦ digits_in steps (n / 10) ++ (digit (n % 10) ∷ []) ]

-- n in decimal. More than n steps are enough, since a tenth of n is less than n
unfoldable pub decimal : ℕ → List ℕ
decimal n = digits_in (suc n) n

-- what bytes are worth that are read as digits after a number that is read already
unfoldable pub value_after : ℕ → List ℕ → ℕ
value_after v [] = v
value_after v (b ∷ bytes) = value_after (v * 10 + (b - 48)) bytes

-- the number that bytes are in decimal
unfoldable pub value : List ℕ → ℕ
value bytes = value_after 0 bytes
