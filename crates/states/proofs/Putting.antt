-- A number put into an array of at most 16 rising numbers, by its place; and several, from the last to the first. Assumes nothing.
use Rattle.meaning.proofs.Prelude.{ℕ, ◌+◌, ◌≤◌, ◌<◌, ◌≡◌, sym, ap, ◌∙◌, subst, ap₂, List, ◌∷◌, ◌++◌, length, get_or, take, drop, arith}
use Rattle.meaning.proofs.Definitions.{most_states, insert_rising, insert_all}
use Rattle.std.specs.Prelude.{Result, Ok, Err}
use Rattle.states.specs.Packed.{place_for, put_at, padded_states, Holds, packed}
use Rattle.states.specs.declared.TooMany.{TooMany}
use Rattle.states.specs.declared.States.{States}
use Rattle.states.proofs.Places.{place-le, insert_same, insert_new-at}
use Rattle.states.proofs.Packed.{length_held, length_put, padded_put, packed_known, packed_many, many_is, counted_sets}
use Rattle.states.proofs.Growing.{insert_all-more}

abbrev pub answer : ℕ → List ℕ → Result States TooMany
answer n sets = Ok (record { count = n; sets = sets })

-- numbers that are held
pub answer-packed : (n : ℕ) (sets l : List ℕ) → n ≡ length l → n ≤ most_states → sets ≡ padded_states l → answer n sets ≡ packed l
answer-packed n sets l size few held = ap₂ answer size held ∙ sym (packed_known l (omega arith))

module _ {sets : List ℕ} {n : ℕ} (h : Holds sets n) (s i : ℕ) (at : i ≡ place_for s (take n sets)) where
  abbrev l : List ℕ
  l = take n sets

  size : length l ≡ n
  size = length_held h

  pub place-within : i ≤ n
  place-within = omega (arith, size, place-le s l)

  pub put_same : i < length l → get_or l i 0 ≡ s → answer n sets ≡ packed (insert_rising s l)
  put_same lt e =
      answer-packed n sets l (sym size) h.few h.padding
      ∙ ap packed (sym (insert_same s l (omega arith) (ap (λ (k : ℕ). get_or l k 0) (sym at) ∙ e)))

  abbrev pub IsNew : Type 0
  IsNew = i < length l → get_or l i 0 ≡ s → ⊥

  new : IsNew → insert_rising s l ≡ take i l ++ (s ∷ drop i l)
  new other =
      subst
      (λ (k : ℕ). insert_rising s l ≡ take k l ++ (s ∷ drop k l))
      (sym at)
      (insert_new-at s l (λ lt e. other (omega arith) (ap (λ (k : ℕ). get_or l k 0) at ∙ e)))

  length-new : IsNew → length (insert_rising s l) ≡ n + 1
  length-new other = ap (λ (k : List ℕ). length k) (new other) ∙ length_put l i s (omega (arith, size, place-within)) ∙ omega (arith, size)

  pub put_full : IsNew → n ≡ most_states → (many : TooMany) → Err many ≡ packed (insert_rising s l)
  put_full other e many = sym (packed_many (insert_rising s l) many (omega (arith, length-new other)))

  pub put_more : IsNew → n < most_states → answer (n + 1) (put_at sets i n s) ≡ packed (insert_rising s l)
  put_more other lt =
      answer-packed
      (n + 1)
      (put_at sets i n s)
      (insert_rising s l)
      (sym (length-new other))
      (omega arith)
      (ap₂ (λ (k : List ℕ) (m : ℕ). put_at k i m s) h.padding (sym size) ∙ padded_put l i s (omega (arith, size)) (omega (arith, size, place-within)) ∙ ap padded_states (sym (new other)))

-- one number more put in before those that were passed, from the last on
module _ (l : List ℕ) (s : ℕ) (passed : List ℕ) {known : States} (held : Ok known ≡ packed (insert_all passed l)) where
  pub put_passed : {r : Result States TooMany} → r ≡ packed (insert_rising s (take known.count known.sets)) → r ≡ packed (insert_all (s ∷ passed) l)
  put_passed is = is ∙ ap (λ (k : List ℕ). packed (insert_rising s k)) (counted_sets (insert_all passed l) held)

  -- once they are too many, they stay so
  pub put_over : (before : List ℕ) {new : List ℕ} {many : TooMany}
      → new ≡ before ++ (s ∷ passed)
      → Err many ≡ packed (insert_rising s (take known.count known.sets))
      → (end : TooMany)
      → Err end ≡ packed (insert_all new l)
  put_over before {new} split is end =
      sym (packed_many (insert_all new l) end (omega (
        arith,
        insert_all-more before (s ∷ passed) l,
        ap (λ (k : List ℕ). length (insert_all k l)) split,
        many_is (insert_all (s ∷ passed) l) (put_passed is),
      )))
