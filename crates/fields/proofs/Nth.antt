-- The content and the end of what stands at a position, and the content of field k from a position on. Assumes nothing.
use Rattle.meaning.proofs.Prelude.{ℕ, ◌+◌, ◌≤◌, ◌-◌, ◌<◌, zero, suc, ◌≡◌, refl, sym, ap, ◌∙◌, List, [], ◌∷◌, length, get_or, take, drop}
use Rattle.meaning.proofs.Prelude.{add-one, arith}
use Rattle.meaning.specs.Fields.{Front, empty, short, front, front_of}
use Rattle.fields.specs.Found.{found_in, content_in, next_in, on_content, contents_from, on_rest, nth_in}
use Rattle.fields.specs.declared.Found.{Found}
use Rattle.fields.specs.declared.Found.TheVariants.{Whole}
use Rattle.fields.proofs.Fronts.{front_rest, front-inside, front-content, found-whole}

-- a whole field that was found at a position: it lies inside the bytes, with its content
pub record WholeAt (s : List ℕ) (at len : ℕ) : Type 0 where
  pub inside : at + 3 + len ≤ length s
  pub content : take len (drop (at + 3) s) ≡ content_in (front_of (drop at s))

pub whole-at : (s : List ℕ) (at : ℕ) {tag len : ℕ} {f : Found} → f ≡ found_in (front_of (drop at s)) → f ≡ Whole tag len → WholeAt s at len
whole-at s at {tag} {len} found is =
    let w = found-whole (front_of (drop at s)) tag len (sym is ∙ found) in
    let len_is : length w.0 ≡ len = w.3 in
    let lies = front-inside s at tag w.0 w.1 w.2 in
    record {
      inside = omega arith;
      content = ap (λ (n : ℕ). take n (drop (at + 3) s)) (sym w.3) ∙ (front-content s at tag w.0 w.1 w.2 ∙ ap content_in (sym w.2));
    }

-- past the end or at a cut field there is no field more
nth_short : (k : ℕ) (bytes : List ℕ) → front_of bytes ≡ short → nth_in k bytes ≡ []
nth_short zero bytes e = ap content_in e
nth_short (suc k) bytes e = ap (λ (f : Front). on_rest f (nth_in k)) e

nth_empty : (k : ℕ) (bytes : List ℕ) → front_of bytes ≡ empty → nth_in k bytes ≡ []
nth_empty zero bytes e = ap content_in e
nth_empty (suc k) bytes e = ap (λ (f : Front). on_rest f (nth_in k)) e

-- field k + 1 from a position is field k from the next
nth_suc : (s : List ℕ) (at k : ℕ) → nth_in (suc k) (drop at s) ≡ nth_in k (drop (next_in at (front_of (drop at s))) s)
nth_suc s at k = go (front_of (drop at s)) refl
  where
    go : (f : Front) → front_of (drop at s) ≡ f → on_rest f (nth_in k) ≡ nth_in k (drop (next_in at f) s)
    go empty e = sym (nth_empty k (drop at s) e)
    go short e = sym (nth_short k (drop at s) e)
    go (front tag content rest) e = ap (nth_in k) (front_rest s at tag content rest e)

-- a turn
pub nth_next : (s : List ℕ) (at left later : ℕ) → left ≡ later + 1 → nth_in left (drop at s) ≡ nth_in later (drop (next_in at (front_of (drop at s))) s)
nth_next s at left later e = ap (λ (n : ℕ). nth_in n (drop at s)) (e ∙ add-one later) ∙ nth_suc s at later

-- Field k of some bytes is the k-th of their first fields.
pub nth_of_contents : (n k : ℕ) (bytes : List ℕ) → k < length (contents_from n bytes) → nth_in k bytes ≡ get_or (contents_from n bytes) k []
nth_of_contents zero k bytes h = absurd (omega arith)
nth_of_contents (suc n) zero bytes h = first (front_of bytes) h
  where
    first : (f : Front) → 0 < length (on_content f (contents_from n)) → content_in f ≡ get_or (on_content f (contents_from n)) 0 []
    first empty lt = absurd (omega arith)
    first short lt = absurd (omega arith)
    first (front tag content rest) lt = refl
nth_of_contents (suc n) (suc k) bytes h = later (front_of bytes) h (λ rest. nth_of_contents n k rest)
  where
    later : (f : Front)
        → suc k < length (on_content f (contents_from n))
        → ((rest : List ℕ) → k < length (contents_from n rest) → nth_in k rest ≡ get_or (contents_from n rest) k [])
        → on_rest f (nth_in k) ≡ get_or (on_content f (contents_from n)) (suc k) []
    later empty lt rec = absurd (omega arith)
    later short lt rec = absurd (omega arith)
    later (front tag content rest) lt rec = rec rest (omega arith)

-- the first of some contents stands at the position, the others from the next position on
pub contents-step : (s : List ℕ) (at left : ℕ)
    → 0 < left
    → length (contents_from left (drop at s)) ≡ left
    → contents_from left (drop at s) ≡ content_in (front_of (drop at s)) ∷ contents_from (left - 1) (drop (next_in at (front_of (drop at s))) s)
contents-step s at zero h number = absurd (omega arith)
contents-step s at (suc left) h number =
    let e : left ≡ suc left - 1 = omega arith in
    go (front_of (drop at s)) refl number ∙ ap (λ (n : ℕ). content_in (front_of (drop at s)) ∷ contents_from n (drop (next_in at (front_of (drop at s))) s)) e
  where
    go : (f : Front)
        → front_of (drop at s) ≡ f
        → length (on_content f (λ rest. contents_from left rest)) ≡ suc left
        → on_content f (λ rest. contents_from left rest) ≡ content_in f ∷ contents_from left (drop (next_in at f) s)
    go empty e n = absurd (omega arith)
    go short e n = absurd (omega arith)
    go (front tag content rest) e n = ap (λ (bytes : List ℕ). content ∷ contents_from left bytes) (front_rest s at tag content rest e)
