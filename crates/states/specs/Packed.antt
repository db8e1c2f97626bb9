-- At most 16 numbers in an array of 16 places, or that there are more; and how a number is put among others.
use Rattle.std.specs.Prelude.{ℕ, suc, ◌-◌, ◌≤◌, ◌≡◌, cond, List, [], ◌∷◌, ◌++◌, map, leb, length, take, drop, Result, Ok, Err}
use Rattle.meaning.specs.Lists.{padded}
use Rattle.meaning.specs.Limits.{most_states}
use Rattle.meaning.specs.States.{index_of}
use Rattle.meaning.specs.Refusals.{Answer, refused, accepted}
use Rattle.states.specs.declared.TooMany.{TooMany}
use Rattle.states.specs.declared.States.{States}

-- the first place with a number that is not below s
abbrev pub place_for : ℕ → List ℕ → ℕ
place_for s [] = 0
place_for s (x ∷ xs) = cond (leb s x) 0 (suc (place_for s xs))

-- s at place i, and those from there to place n one place on
unfoldable pub put_at : List ℕ → ℕ → ℕ → ℕ → List ℕ
put_at l i n s = take i l ++ (s ∷ (take (n - i) (drop i l) ++ drop (suc n) l))

-- the numbers in 16 places, with zeros behind them
unfoldable pub padded_states : List ℕ → List ℕ
padded_states l = padded most_states l

-- an array whose first n places are followed by zeros
pub record Holds (sets : List ℕ) (n : ℕ) : Type 0 where
  pub few : n ≤ most_states
  pub padding : sets ≡ padded_states (take n sets)

-- at most 16 numbers, or that there are more
abbrev pub held : List ℕ → States
held l = record { count = length l; sets = padded_states l }

unfoldable pub packed : List ℕ → Result States TooMany
packed l = cond (leb (length l) most_states) (Ok (held l)) (Err (record {}))

-- the number and place of 01 for each case of an answer: 8 at the field count where there are too many
abbrev pub count_answer : ℕ → Result States TooMany → Answer
count_answer field_count (Ok states) = accepted
count_answer field_count (Err many) = refused 8 field_count

-- the numbers of some sets among the states
unfoldable pub indices : List ℕ → List ℕ → List ℕ
indices states sets = map (λ s. index_of s states) sets
