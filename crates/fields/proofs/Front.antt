-- What stands at a position of a list of bytes, by how many are left and what the two length bytes say. Assumes nothing.
use Rattle.meaning.proofs.Prelude.{ℕ, ◌+◌, ◌≤◌, ◌-◌, ◌<◌, suc, ◌*◌, ◌≡◌, refl, ap, ◌∙◌, cond, List, [], ◌∷◌, leb, length, get_or, take, drop}
use Rattle.meaning.proofs.Prelude.{length-drop, drop-cons, add-one, add-two, add-three, arith, lt-leb}
use Rattle.meaning.specs.Fields.{short, front, front_of}
use Rattle.fields.specs.Found.{found_in}
use Rattle.fields.specs.declared.Found.TheVariants.{Cut}

-- one byte left, two bytes left
pub found-cut : (s : List ℕ) (at : ℕ) → at < length s → length s - at < 3 → found_in (front_of (drop at s)) ≡ Cut
found-cut s at h few = ap (λ (l : List ℕ). found_in (front_of l)) (drop-cons s at 0 h) ∙ go (drop (suc at) s) (rw (length-drop (suc at) s) (omega arith))
  where
    go : (l : List ℕ) → length l < 2 → found_in (front_of (get_or s at 0 ∷ l)) ≡ Cut
    go [] lt = refl
    go (x ∷ []) lt = refl
    go (x ∷ y ∷ l) lt = absurd (omega arith)

-- three bytes or more
drop-three : (s : List ℕ) (at : ℕ) → at + 3 ≤ length s → drop at s ≡ get_or s at 0 ∷ get_or s (at + 1) 0 ∷ get_or s (at + 2) 0 ∷ drop (at + 3) s
drop-three s at h =
    rw (add-one at, add-two at, add-three at)
    (drop-cons s at 0 (omega arith)
    ∙ ap (λ (l : List ℕ). get_or s at 0 ∷ l) (drop-cons s (suc at) 0 (omega arith))
    ∙ ap (λ (l : List ℕ). get_or s at 0 ∷ get_or s (suc at) 0 ∷ l) (drop-cons s (suc (suc at)) 0 (omega arith)))

-- the length bytes against what is left
passing : (tag n : ℕ) (l : List ℕ) → length l < n → found_in (cond (leb n (length l)) (front tag (take n l) (drop n l)) short) ≡ Cut
passing tag n l h = rw (lt-leb n (length l))

module _ (s : List ℕ) (at : ℕ) (h : at + 3 ≤ length s) where
  pub found-long : length s - at - 3 < get_or s (at + 1) 0 * 256 + get_or s (at + 2) 0 → found_in (front_of (drop at s)) ≡ Cut
  found-long long =
      ap (λ (l : List ℕ). found_in (front_of l)) (drop-three s at h)
      ∙ passing (get_or s at 0) (get_or s (at + 1) 0 * 256 + get_or s (at + 2) 0) (drop (at + 3) s) (simp length-drop (omega arith))
