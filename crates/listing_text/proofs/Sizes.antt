-- No line is longer than 128 bytes. Assumes nothing.
use Rattle.meaning.proofs.Prelude.{ℕ, ◌+◌, ◌≤◌, ◌<◌, suc, ◌^◌, ◌*◌, cond, Bool, true, false, List, [], ◌∷◌, ◌++◌, eqb, length, length-append, arith}
use Rattle.meaning.proofs.Definitions.{All, has}
use Rattle.text.specs.Decimal.{decimal}
use Rattle.text.proofs.Decimal.{length_most, length_u64}
use Rattle.listing_text.specs.Lines.{space, line_end, open_word, clear_word, number_after, count_line, counts_line, held_name, held_names, or_dash, state_text, row_text, named_text, query_text}

-- a number of 64 bits has at most 20 digits, one below 100 at most 2
number_size : (word : List ℕ) (n : ℕ) → n < 2 ^ 64 → length (number_after word n) ≤ length word + 20
unfolding number_after
number_size word n h = omega (arith, length-append word (decimal n), length_u64 n h)

count-size : (word : List ℕ) (n : ℕ) → n < 2 ^ 64 → length (count_line word n) ≤ length word + 21
unfolding count_line
count-size word n h = omega (arith, length-append (number_after word n) (line_end ∷ []), number_size word n h)

pub count-short : (word : List ℕ) (n : ℕ) → length word ≤ 8 → n < 2 ^ 64 → length (count_line word n) ≤ 128
count-short word n h k = omega (arith, count-size word n k)

pub counts-short : (first : List ℕ) (a : ℕ) (second : List ℕ) (b : ℕ)
    → length first ≤ 8
    → length second ≤ 8
    → a < 2 ^ 64
    → b < 2 ^ 64
    → length (counts_line first a second b) ≤ 128
unfolding counts_line
counts-short first a second b h k la lb =
    omega (arith, length-append (number_after first a) (count_line second b), number_size first a la, count-size second b lb)

small_size : (n : ℕ) → n < 100 → length (decimal n) ≤ 2
small_size n h = length_most n 1 (omega arith)

-- names of at most 8 bytes
held_size : (state t : ℕ) (name : List ℕ) → length name ≤ 8 → length (held_name state t name) ≤ 9
held_size state t name h = go (has state t)
  where
    go : (b : Bool) → length (cond b (space ∷ name) []) ≤ 9
    go true = omega arith
    go false = omega arith

names-size : (state t : ℕ) (names : List (List ℕ)) → All (λ (name : List ℕ). length name ≤ 8) names → length (held_names state t names) ≤ 9 * length names
names-size state t [] h = omega arith
names-size state t (name ∷ later) h =
    omega (
      arith,
      length-append (held_name state t name) (held_names state (suc t) later),
      held_size state t name h.0,
      names-size state (suc t) later h.1,
    )

dash_size : (bytes : List ℕ) → length bytes ≤ 108 → length (or_dash bytes) ≤ 108
dash_size [] h = omega arith
dash_size (b ∷ bytes) h = h

pub state-short : (types : List (List ℕ)) (i state : ℕ)
    → length types ≤ 12
    → All (λ (name : List ℕ). length name ≤ 8) types
    → i < 100
    → length (state_text types i state) ≤ 128
unfolding state_text
state-short types i state few short lt =
    omega (
      arith,
      length-append (decimal i ++ or_dash (held_names state 0 types)) (line_end ∷ []),
      length-append (decimal i) (or_dash (held_names state 0 types)),
      small_size i lt,
      dash_size (held_names state 0 types) (omega (arith, names-size state 0 types short)),
    )

row-size : (row : List ℕ) → All (λ d. d < 100) row → length (row_text row) ≤ 3 * length row
unfolding number_after
row-size [] h = omega arith
row-size (d ∷ row) h =
    omega (
      arith,
      length-append (number_after (space ∷ []) d) (row_text row),
      length-append (space ∷ []) (decimal d),
      small_size d h.0,
      row-size row h.1,
    )

pub named-short : (name row : List ℕ) → length name ≤ 8 → length row ≤ 3 → All (λ d. d < 100) row → length (named_text name row) ≤ 128
unfolding named_text
named-short name row short few h =
    omega (arith, length-append (name ++ row_text row) (line_end ∷ []), length-append name (row_text row), row-size row h)

word_size : (verdict : ℕ) → length (cond (eqb verdict 0) clear_word open_word) ≤ 6
word_size verdict = go (eqb verdict 0)
  where
    go : (b : Bool) → length (cond b clear_word open_word) ≤ 6
    go true = omega arith
    go false = omega arith

pub query-short : (i verdict : ℕ) → i < 2 ^ 64 → length (query_text i verdict) ≤ 128
unfolding query_text
query-short i verdict h =
    let word : List ℕ = cond (eqb verdict 0) clear_word open_word in
    omega (
      arith,
      length-append (decimal i ++ word) (line_end ∷ []),
      length-append (decimal i) word,
      length_u64 i h,
      word_size verdict,
    )
