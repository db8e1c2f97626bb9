-- Elements pasted into a list from a position on: the length, the parts before, at and after them, one paste after another, and a store as
-- a paste. Assumes nothing.
use Rattle.meaning.proofs.Prelude.{ℕ, ◌+◌, ◌-◌, ◌≤◌, ◌<◌, ◌≡◌, sym, ap, ◌∙◌, List, [], ◌∷◌, ◌++◌, append_assoc, length, length-append, length-take}
use Rattle.meaning.proofs.Prelude.{take, drop, take-append-drop, set, length-drop, length-take-le, drop_at, take_at, drop-drop, take-set-le}
use Rattle.meaning.proofs.Prelude.{set_split, add-zero, add_assoc, add-one, arith}
use Rattle.meaning.proofs.Lists.{drop-set}
use borrow.Rule.Slice.PartMut.{put_mid}
use Rattle.byte_runs.specs.Pasted.{pasted}

-- nothing pasted
pub pasted-nil : (out : List ℕ) (at : ℕ) → pasted out at [] ≡ out
unfolding pasted
pasted-nil out at = rw (add-zero at) (take-append-drop at out)

module _ (out : List ℕ) (at : ℕ) (bytes : List ℕ) where
  -- the length is kept where the elements fit
  pub length-pasted : at + length bytes ≤ length out → length (pasted out at bytes) ≡ length out
  unfolding pasted
  length-pasted fits = simp (length-append, length-take, length-drop) (omega arith)

  -- what stands up to the elements' end, and after them
  front : at ≤ length out → length (take at out ++ bytes) ≡ at + length bytes
  front within = length-append (take at out) bytes ∙ ap (λ (k : ℕ). k + length bytes) (length-take-le at out within)

  pub take-pasted : at ≤ length out → take (at + length bytes) (pasted out at bytes) ≡ take at out ++ bytes
  unfolding pasted
  take-pasted within =
      rw (← append_assoc (take at out) bytes (drop (at + length bytes) out))
      (take_at (take at out ++ bytes) (drop (at + length bytes) out) (at + length bytes) (front within))

  pub drop-pasted : at ≤ length out → drop (at + length bytes) (pasted out at bytes) ≡ drop (at + length bytes) out
  unfolding pasted
  drop-pasted within =
      rw (← append_assoc (take at out) bytes (drop (at + length bytes) out))
      (drop_at (take at out ++ bytes) (drop (at + length bytes) out) (at + length bytes) (front within))

  pub drop-pasted_past : (k : ℕ) → at ≤ length out → drop (at + length bytes + k) (pasted out at bytes) ≡ drop (at + length bytes + k) out
  drop-pasted_past k within =
      sym (drop-drop k (at + length bytes) (pasted out at bytes)) ∙ ap (drop k) (drop-pasted within) ∙ drop-drop k (at + length bytes) out

  -- one paste after another is one paste of both
  pub pasted-append : (more : List ℕ) → at ≤ length out → pasted (pasted out at bytes) (at + length bytes) more ≡ pasted out at (bytes ++ more)
  pasted-append more within =
      unfold pasted in
      ap (λ (l : List ℕ). l ++ (more ++ drop (at + length bytes + length more) (pasted out at bytes))) (take-pasted within)
      ∙ ap (λ (l : List ℕ). (take at out ++ bytes) ++ (more ++ l)) (drop-pasted_past (length more) within)
      ∙ simp (length-append, append_assoc, add_assoc)

-- a store is a paste of one element; a store just past the elements pasted is one element more
pub pasted-one : (out : List ℕ) (at b : ℕ) → at < length out → set out at b ≡ pasted out at (b ∷ [])
unfolding pasted
pasted-one out at b within = rw (add-one at) (set_split out at b within)

pub pasted-more : (out : List ℕ) (at : ℕ) (bytes : List ℕ) (b : ℕ) → at + length bytes < length out
    → set (pasted out at bytes) (at + length bytes) b ≡ pasted out at (bytes ++ (b ∷ []))
pasted-more out at bytes b fits =
    pasted-one (pasted out at bytes) (at + length bytes) b (rw (length-pasted out at bytes (omega arith)) fits)
    ∙ pasted-append out at bytes (b ∷ []) (omega arith)

-- an element stored where the elements to paste will end is pasted with them
pub pasted-last : (out : List ℕ) (at : ℕ) (bytes : List ℕ) (b : ℕ) → at + length bytes < length out
    → pasted (set out (at + length bytes) b) at bytes ≡ pasted out at (bytes ++ (b ∷ []))
unfolding pasted
pasted-last out at bytes b fits =
    let j : ℕ = at + length bytes in
    ap (λ (l : List ℕ). l ++ (bytes ++ drop j (set out j b))) (take-set-le at out j b (omega arith))
    ∙ ap (λ (l : List ℕ). take at out ++ (bytes ++ l)) (drop-set out j b fits)
    ∙ rw (length-append bytes (b ∷ []), append_assoc bytes (b ∷ []), ← add_assoc at (length bytes) 1, add-one (at + length bytes))

-- bytes written to a part of their length
pub pasted-part : (out : List ℕ) (at : ℕ) (bytes : List ℕ) {part : List ℕ} → part ≡ bytes → put_mid at (at + length bytes - at) out part ≡ pasted out at bytes
unfolding pasted
pasted-part out at bytes {part} is =
    rw (is)
    (ap (λ (k : ℕ). take at out ++ (bytes ++ drop k (drop at out))) (omega arith)
    ∙ ap (λ (l : List ℕ). take at out ++ (bytes ++ l)) (drop-drop (length bytes) at out))
