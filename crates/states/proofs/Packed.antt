-- At most 16 numbers in an array of 16 places: what the array holds, and what is known of an answer. Assumes nothing.
use Rattle.meaning.proofs.Prelude.{ℕ, ◌+◌, ◌≤◌, ◌-◌, ◌<◌, suc, ◌≡◌, refl, sym, ap, ◌∙◌, ap₂, cond, Bool, true, false, List, [], ◌∷◌, ◌++◌}
use Rattle.meaning.proofs.Prelude.{append_assoc, ltb, leb, length, length-append, length-take, take, drop, replicate, length-replicate, length-drop}
use Rattle.meaning.proofs.Prelude.{take_at, take-append-le, drop-append-le, drop-append-add, add-one, arith, le-leb, lt-leb, lt-ltb, le-ltb, leb-true}
use Rattle.meaning.proofs.Prelude.{leb-false}
use Rattle.meaning.proofs.Definitions.{most_states, refuse_if}
use Rattle.std.specs.Prelude.{Result, Ok, Err, IsErr}
use Rattle.states.specs.Packed.{put_at, padded_states, Holds, held, packed, count_answer}
use Rattle.states.specs.declared.TooMany.{TooMany}
use Rattle.states.specs.declared.States.{States}

-- the numbers and the zeros behind them
pub zeros : replicate most_states 0 ≡ padded_states []
unfolding padded_states
zeros = refl

pub take-padded : (l : List ℕ) (n : ℕ) → n ≡ length l → take n (padded_states l) ≡ l
unfolding padded_states
take-padded l n e = take_at l (replicate (most_states - length l) 0) n (sym e)

-- an array whose first n places are followed by zeros has so many numbers
pub length_held : {sets : List ℕ} {n : ℕ} → Holds sets n → length (take n sets) ≡ n
unfolding padded_states
length_held {sets} {n} h =
    let size : length sets ≡ length (take n sets) + (most_states - length (take n sets)) =
    ap (λ (l : List ℕ). length l) h.padding ∙ simp (length-append, length-replicate) in
    omega (arith, length-take n sets, h.few)

pub holds_again : (n : ℕ) (sets l : List ℕ) → n ≤ most_states → n ≡ length l → sets ≡ padded_states l → Holds sets n
holds_again n sets l few size held =
    record { few = few; padding = held ∙ ap padded_states (sym (ap (take n) held ∙ take-padded l n size)) }

-- one more number
pub length_put : (l : List ℕ) (i s : ℕ) → i ≤ length l → length (take i l ++ (s ∷ drop i l)) ≡ suc (length l)
length_put l i s h = simp (length-append, length-take, length-drop) (omega arith)

pub padded_put :
    (l : List ℕ) (i s : ℕ)
    → length l < most_states
    → i ≤ length l
    → put_at (padded_states l) i (length l) s ≡ padded_states (take i l ++ (s ∷ drop i l))
unfolding put_at padded_states
padded_put l i s few h =
    ap₂ (λ (a b : List ℕ). a ++ (s ∷ b)) (take-append-le i l z h) (ap₂ ◌++◌ middle behind)
    ∙ sym (append_assoc (take i l) (s ∷ drop i l) (replicate (most_states - suc (length l)) 0))
    ∙ ap (λ (n : ℕ). (take i l ++ (s ∷ drop i l)) ++ replicate (most_states - n) 0) (sym (length_put l i s h))
  where
    z : List ℕ
    z = replicate (most_states - length l) 0

    middle : take (length l - i) (drop i (l ++ z)) ≡ drop i l
    middle = rw (drop-append-le i l z h) (take_at (drop i l) z (length l - i) (length-drop i l))

    behind : drop (suc (length l)) (l ++ z) ≡ replicate (most_states - suc (length l)) 0
    behind =
        ap (λ (n : ℕ). drop n (l ++ z)) (sym (add-one (length l)))
        ∙ drop-append-add l z 1
        ∙ ap (λ (n : ℕ). drop 1 (replicate n 0)) left
      where
        left : most_states - length l ≡ suc (most_states - suc (length l))
        left = omega arith

-- the answer, from the list and back
abbrev made : Bool → List ℕ → Result States TooMany
made b l = cond b (Ok (held l)) (Err (record {}))

pub packed_known : (l : List ℕ) → length l ≤ most_states → packed l ≡ Ok (held l)
unfolding packed
packed_known l h = simp (le-leb (length l) most_states h)

pub packed_many : (l : List ℕ) (many : TooMany) → most_states < length l → packed l ≡ Err many
unfolding packed
packed_many l many h = simp (lt-leb (length l) most_states h)

-- 8 where there are too many, else no refusal
pub packed-answer : {r : Result States TooMany} (l : List ℕ) → r ≡ packed l → (k : ℕ) → count_answer k r ≡ refuse_if (ltb most_states (length l)) 8 k
unfolding packed
packed-answer {r} l e k = ap (count_answer k) e ∙ go (leb (length l) most_states) refl
  where
    go : (b : Bool)
        → leb (length l) most_states ≡ b
        → count_answer k (made b l) ≡ refuse_if (ltb most_states (length l)) 8 k
    go true t = rw (le-ltb most_states (length l) (leb-true (length l) most_states t)) refl
    go false t = rw (lt-ltb most_states (length l) (leb-false (length l) most_states t)) refl

-- some states: so many as the list has, which are at most 16
pub known_is : (l : List ℕ) {s : States} → Ok s ≡ packed l → (s.count ≡ length l) × (length l ≤ most_states) × (s.sets ≡ padded_states l)
unfolding packed
known_is l {s} e = go (leb (length l) most_states) refl e
  where
    go : (b : Bool)
        → leb (length l) most_states ≡ b
        → Ok s ≡ made b l
        → (s.count ≡ length l) × (length l ≤ most_states) × (s.sets ≡ padded_states l)
    go true t e =
        let same : s ≡ held l = cc in
        (ap (λ (x : States). x.count) same, leb-true (length l) most_states t, ap (λ (x : States). x.sets) same)
    go false t e = absurd (cc)

pub many_is : (l : List ℕ) {many : TooMany} → Err many ≡ packed l → most_states < length l
unfolding packed
many_is l {many} e = go (leb (length l) most_states) refl e
  where
    go : (b : Bool) → leb (length l) most_states ≡ b → Err many ≡ made b l → most_states < length l
    go true t e = absurd (cc)
    go false t e = leb-false (length l) most_states t

-- there is but one refusal
pub is_many : {r : Result States TooMany} (many : TooMany) → IsErr r → r ≡ Err many
is_many {r = Ok s} many h = absurd (cc)
is_many {r = Err e} many h = refl

-- the first numbers of the array are those of the list
module _ (l : List ℕ) {s : States} (e : Ok s ≡ packed l) where
  pub count_fits : s.count ≤ most_states
  count_fits = let w = known_is l e in omega (arith, w.0, w.1)

  pub counted_sets : take s.count s.sets ≡ l
  counted_sets = let w = known_is l e in ap (take s.count) w.2 ∙ take-padded l s.count w.0

  pub packed_holds : Holds s.sets s.count
  packed_holds = let w = known_is l e in holds_again s.count s.sets l count_fits w.0 w.2
