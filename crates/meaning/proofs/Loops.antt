-- The turns of a loop over a list: what a test of all members, of some, or of two lists, says from a place on: nothing is left, or the member at the place
-- decides, or those after it do. Assumes nothing.
use Rattle.meaning.proofs.Prelude.{ℕ, ◌+◌, ◌≤◌, ◌-◌, ◌<◌, ◌≡◌, ap, ◌∙◌, ap₂, Bool, true, false, ◌&&◌, ◌||◌, List, eqb, length, get_or, take, drop}
use Rattle.meaning.proofs.Prelude.{length-drop, drop_of_length-le, drop-cons, take_all, add-one, arith, ne_eqb, eq-eqb}
use Rattle.meaning.specs.Lists.{any_of, all_of, same}
use Rattle.meaning.proofs.Lists.{T_false, not_intro, same-eq}

-- the part from a place to the end
pub part-rest : (n : ℕ) (s : List ℕ) → take (length s - n) (drop n s) ≡ drop n s
part-rest n s = take_all (length s - n) (drop n s) (simp length-drop (omega arith))

-- all bytes from a place on
module _ (f : ℕ → Bool) (l : List ℕ) (i : ℕ) where
  pub all_end : length l ≤ i → all_of f (drop i l) ≡ true
  all_end h = ap (all_of f) (drop_of_length-le l h)

  module _ (h : i < length l) where
    all_step : all_of f (drop i l) ≡ (f (get_or l i 0) && all_of f (drop (i + 1) l))
    all_step = rw (add-one i) (ap (all_of f) (drop-cons l i 0 h))

    pub all_fails : f (get_or l i 0) ≡ false → all_of f (drop i l) ≡ false
    all_fails e = all_step ∙ ap (λ (b : Bool). b && all_of f (drop (i + 1) l)) e

    pub all_next : f (get_or l i 0) ≡ true → all_of f (drop i l) ≡ all_of f (drop (i + 1) l)
    all_next e = all_step ∙ ap (λ (b : Bool). b && all_of f (drop (i + 1) l)) e

  -- some byte from a place on
  pub any_end : length l ≤ i → any_of f (drop i l) ≡ false
  any_end h = ap (any_of f) (drop_of_length-le l h)

  module _ (h : i < length l) where
    any_step : any_of f (drop i l) ≡ (f (get_or l i 0) || any_of f (drop (i + 1) l))
    any_step = rw (add-one i) (ap (any_of f) (drop-cons l i 0 h))

    pub any_here : f (get_or l i 0) ≡ true → any_of f (drop i l) ≡ true
    any_here e = any_step ∙ ap (λ (b : Bool). b || any_of f (drop (i + 1) l)) e

    pub any_next : f (get_or l i 0) ≡ false → any_of f (drop i l) ≡ any_of f (drop (i + 1) l)
    any_next e = any_step ∙ ap (λ (b : Bool). b || any_of f (drop (i + 1) l)) e

-- two lists from a place on
pub same_lengths : (a b : List ℕ) → (length a ≡ length b → ⊥) → same a b ≡ false
same_lengths a b h = T_false (same a b) (not_intro (same a b) (λ t. h (ap length (same-eq a b t))))

module _ (a b : List ℕ) (i : ℕ) where
  pub same_end : length a ≤ i → length b ≤ i → same (drop i a) (drop i b) ≡ true
  same_end h k = ap₂ same (drop_of_length-le a h) (drop_of_length-le b k)

  module _ (h : i < length a) (k : i < length b) where
    same_step : same (drop i a) (drop i b) ≡ (eqb (get_or a i 0) (get_or b i 0) && same (drop (i + 1) a) (drop (i + 1) b))
    same_step = rw (add-one i) (ap₂ same (drop-cons a i 0 h) (drop-cons b i 0 k))

    pub same_differs : (get_or a i 0 ≡ get_or b i 0 → ⊥) → same (drop i a) (drop i b) ≡ false
    same_differs d = same_step ∙ rw (ne_eqb (get_or a i 0) (get_or b i 0))

    pub same_next : get_or a i 0 ≡ get_or b i 0 → same (drop i a) (drop i b) ≡ same (drop (i + 1) a) (drop (i + 1) b)
    same_next e = same_step ∙ rw (eq-eqb (get_or a i 0) (get_or b i 0))
