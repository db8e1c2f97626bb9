-- Two lists alike up to a place, and the lowest place where they differ. Assumes nothing.
use Rattle.meaning.proofs.Prelude.{ℕ, ◌+◌, ◌≤◌, ◌<◌, zero-le, max, ◌≡◌, sym, subst, ⊎_elim, ◌&&◌, none, some, List, ltb, eqb, eqb→eq, lt→ltb, length}
use Rattle.meaning.proofs.Prelude.{get_or, ext_get_or, le_of_suc-le-suc, eq-or-lt_of_le, arith, eq-eqb, ltb-true}
use Rattle.meaning.proofs.Definitions.{lowest, differ}
use Rattle.meaning.proofs.Lists.{T_of, T_true, not_intro, not-not_intro, both, both_of, lowest-is}
use Rattle.meaning.proofs.Certificates.{differ-none}

-- the numbers below a place are the same, and are all there
pub record Alike (xs ys : List ℕ) (i : ℕ) : Type 0 where
  pub left : i ≤ length xs
  pub right : i ≤ length ys
  pub same : (j : ℕ) → j < i → get_or xs j 0 ≡ get_or ys j 0

pub alike_none : (xs ys : List ℕ) → Alike xs ys 0
alike_none xs ys = record { left = zero-le; right = zero-le; same = λ j lt. absurd (omega arith) }

module _ {xs ys : List ℕ} {i : ℕ} (a : Alike xs ys i) where
  -- one place more
  pub alike_more : i < length xs → i < length ys → get_or xs i 0 ≡ get_or ys i 0 → Alike xs ys (i + 1)
  alike_more l r e =
      record {
        left = omega arith;
        right = omega arith;
        same =
            λ j lt.
            ⊎_elim
            (λ (q : j ≡ i). subst (λ (n : ℕ). get_or xs n 0 ≡ get_or ys n 0) (sym q) e)
            (λ k. a.same j k)
            (eq-or-lt_of_le (le_of_suc-le-suc (omega arith)));
      }

  -- the place after them is the lowest that differs
  alike_until : i < max (length xs) (length ys)
      → ((i < length xs) → (i < length ys) → get_or xs i 0 ≡ get_or ys i 0 → ⊥)
      → lowest (max (length xs) (length ys)) (differ xs ys) ≡ some i
  alike_until lt apart =
      lowest-is (max (length xs) (length ys)) (differ xs ys) i lt
      (not_intro
      (ltb i (length xs) && ltb i (length ys) && eqb (get_or xs i 0) (get_or ys i 0))
      (λ t.
      let w = both (ltb i (length xs) && ltb i (length ys)) (eqb (get_or xs i 0) (get_or ys i 0)) t in
      let v = both (ltb i (length xs)) (ltb i (length ys)) w.0 in
      apart (ltb-true i (length xs) (T_true _ v.0)) (ltb-true i (length ys) (T_true _ v.1)) (eqb→eq (get_or xs i 0) (get_or ys i 0) w.1)))
      (λ j below.
      let l = a.left in
      let r = a.right in
      not-not_intro
      (ltb j (length xs) && ltb j (length ys) && eqb (get_or xs j 0) (get_or ys j 0))
      (both_of
      (ltb j (length xs) && ltb j (length ys))
      (eqb (get_or xs j 0) (get_or ys j 0))
      (both_of (ltb j (length xs)) (ltb j (length ys)) (lt→ltb j (length xs) (omega arith)) (lt→ltb j (length ys) (omega arith)))
      (T_of (eqb (get_or xs j 0) (get_or ys j 0)) (eq-eqb (get_or xs j 0) (get_or ys j 0) (a.same j below)))))

  -- the first list ends before the second, the second before the first, both go on
  pub alike_shorter : length xs ≡ i → i < length ys → lowest (max (length xs) (length ys)) (differ xs ys) ≡ some i
  alike_shorter e lt = alike_until (omega arith) (λ l r s. omega arith)

  pub alike_longer : i < length xs → length ys ≤ i → lowest (max (length xs) (length ys)) (differ xs ys) ≡ some i
  alike_longer lt le = alike_until (omega arith) (λ l r s. omega arith)

  pub alike_differ : i < length xs → i < length ys → (get_or xs i 0 ≡ get_or ys i 0 → ⊥) → lowest (max (length xs) (length ys)) (differ xs ys) ≡ some i
  alike_differ l r apart = alike_until (omega arith) (λ h k s. apart s)

  -- both end
  pub alike_all : length xs ≡ i → length ys ≤ i → lowest (max (length xs) (length ys)) (differ xs ys) ≡ none
  alike_all e le =
      let r = a.right in
      (differ-none xs ys).1 (ext_get_or 0 xs ys (omega arith) (λ j lt. a.same j (omega arith)))
