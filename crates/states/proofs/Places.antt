-- Looking for the first member that passes a test, and putting a number at its place in a rising list. Assumes nothing.
use Rattle.meaning.proofs.Prelude.{ℕ, ◌+◌, ◌≤◌, ◌-◌, ◌<◌, suc, zero-le, suc-le-suc, ◌≡◌, refl, sym, cond, Bool, true, false, List, [], ◌∷◌, ◌++◌, leb}
use Rattle.meaning.proofs.Prelude.{eqb, length, get_or, take, drop, set, set_split}
use Rattle.meaning.proofs.Prelude.{not-suc-le-zero, le_of_suc-le-suc, zero-lt-suc, le_of_eq, add-one, arith, ne_eqb, eq-eqb, lt-ltb, le-ltb}
use Rattle.meaning.proofs.Prelude.{leb-true, leb-false}
use Rattle.meaning.specs.States.{insert_rising, index_of}
use Rattle.std.specs.Prelude.{Option, Some, None, unwrap_or}
use Rattle.std.specs.List.{position_or_len, copy_within}
use Rattle.meaning.proofs.Prelude.{ap, ap₂, ◌∙◌, not, append_assoc, ltb, ltb-false, length-append, length-take-le, take-append-le, take-take, drop_at}
use Rattle.states.specs.Packed.{place_for, put_at}

-- `f` is the place of the first member that passes, the length if none does, as the library's search gives it
module _
    (test : ℕ → Bool) (f : List ℕ → ℕ)
    (nil : f [] ≡ 0)
    (cons : (x : ℕ) (xs : List ℕ) → f (x ∷ xs) ≡ cond (test x) 0 (suc (f xs)))
  where
    first-le : (l : List ℕ) → f l ≤ length l
    first-le [] = le_of_eq nil
    first-le (x ∷ xs) = rw (cons x xs) (go (test x) (first-le xs))
      where
        go : (b : Bool) → f xs ≤ length xs → cond b 0 (suc (f xs)) ≤ suc (length xs)
        go true h = zero-le
        go false h = suc-le-suc h

    first-is : (l : List ℕ) → position_or_len test l ≡ f l
    first-is [] = sym nil
    first-is (x ∷ xs) = go (test x) (first-is xs) ∙ sym (cons x xs)
      where
        go : (b : Bool) → position_or_len test xs ≡ f xs → cond (not b) (1 + position_or_len test xs) 0 ≡ cond b 0 (suc (f xs))
        go true e = refl
        go false e = omega arith

    pub first_found : (l : List ℕ) {r : Option ℕ}
        → r ≡ cond (ltb (position_or_len test l) (length l)) (Some (position_or_len test l)) None
        → unwrap_or r (length l) ≡ f l
    first_found l e =
        ap (λ (o : Option ℕ). unwrap_or o (length l)) (e ∙ ap (λ (n : ℕ). cond (ltb n (length l)) (Some n) None) (first-is l))
        ∙ go (ltb (f l) (length l)) refl
      where
        go : (b : Bool) → ltb (f l) (length l) ≡ b → unwrap_or (cond b (Some (f l)) None) (length l) ≡ f l
        go true t = refl
        go false t = omega (arith, first-le l, ltb-false (f l) (length l) t)

pub place-le : (s : ℕ) (l : List ℕ) → place_for s l ≤ length l
place-le s l = first-le (leb s) (place_for s) refl (λ x xs. refl) l

pub index_le : (s : ℕ) (l : List ℕ) → index_of s l ≤ length l
index_le s l = first-le (eqb s) (index_of s) refl (λ x xs. refl) l

-- a number that stands at its place is there already; any other is put there
pub insert_same : (s : ℕ) (l : List ℕ) → place_for s l < length l → get_or l (place_for s l) 0 ≡ s → insert_rising s l ≡ l
insert_same s [] h e = absurd (not-suc-le-zero h)
insert_same s (x ∷ xs) h e = go (leb s x) refl h e (insert_same s xs)
  where
    go : (b : Bool)
        → leb s x ≡ b
        → cond b 0 (suc (place_for s xs)) < suc (length xs)
        → get_or (x ∷ xs) (cond b 0 (suc (place_for s xs))) 0 ≡ s
        → (place_for s xs < length xs → get_or xs (place_for s xs) 0 ≡ s → insert_rising s xs ≡ xs)
        → insert_rising s (x ∷ xs) ≡ x ∷ xs
    go true t h e ih = simp (le-ltb s x (omega arith), eq-eqb s x (sym e))
    go false t h e ih =
        let lt : x < s = leb-false s x t in
        simp (le-ltb s x (omega arith), ne_eqb s x (λ d. omega arith), ih (le_of_suc-le-suc h) e)

pub insert_new-at :
    (s : ℕ) (l : List ℕ)
    → (place_for s l < length l → get_or l (place_for s l) 0 ≡ s → ⊥)
    → insert_rising s l ≡ take (place_for s l) l ++ (s ∷ drop (place_for s l) l)
insert_new-at s [] h = refl
insert_new-at s (x ∷ xs) h = go (leb s x) refl h (insert_new-at s xs)
  where
    go : (b : Bool)
        → leb s x ≡ b
        → (cond b 0 (suc (place_for s xs)) < suc (length xs) → get_or (x ∷ xs) (cond b 0 (suc (place_for s xs))) 0 ≡ s → ⊥)
        → ((place_for s xs < length xs → get_or xs (place_for s xs) 0 ≡ s → ⊥) → insert_rising s xs ≡ take (place_for s xs) xs ++ (s ∷ drop (place_for s xs) xs))
        → insert_rising s (x ∷ xs)
        ≡ take (cond b 0 (suc (place_for s xs))) (x ∷ xs) ++ (s ∷ drop (cond b 0 (suc (place_for s xs))) (x ∷ xs))
    go true t h ih =
        let le : s ≤ x = leb-true s x t in
        let ne : x ≡ s → ⊥ = h (zero-lt-suc (length xs)) in
        simp (lt-ltb s x (omega (arith, ne)))
    go false t h ih =
        let lt : x < s = leb-false s x t in
        simp (le-ltb s x (omega arith), ne_eqb s x (λ d. omega arith), ih (λ k e. h (suc-le-suc k) e))

-- those from place i to place n moved one place on, and s put at place i
pub put_moved : (l : List ℕ) (i n s : ℕ) → i ≤ n → n < length l → set (copy_within l i n (i + 1)) i s ≡ put_at l i n s
unfolding put_at
put_moved l i n s h k =
    ap (λ (k : List ℕ). set k i s) (append_assoc front (take (n - i) (drop i l)) (drop (i + 1 + (n - i)) l))
    ∙ set_split moved i s (omega (arith, length-append front rest, size))
    ∙ ap₂ (λ (a b : List ℕ). a ++ (s ∷ b)) before behind
  where
    front : List ℕ
    front = take (i + 1) l

    rest : List ℕ
    rest = take (n - i) (drop i l) ++ drop (i + 1 + (n - i)) l

    moved : List ℕ
    moved = front ++ rest

    size : length front ≡ i + 1
    size = length-take-le (i + 1) l (omega arith)

    before : take i moved ≡ take i l
    before = take-append-le i front rest (omega (arith, size)) ∙ take-take i (i + 1) l (omega arith)

    last : i + 1 + (n - i) ≡ suc n
    last = omega arith

    behind : drop (suc i) moved ≡ take (n - i) (drop i l) ++ drop (suc n) l
    behind =
        drop_at front rest (suc i) (size ∙ add-one i) ∙ ap (λ (m : ℕ). take (n - i) (drop i l) ++ drop m l) last
