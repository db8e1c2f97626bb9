-- Bytes put one after the other, with the room and the length that is kept; loops that put bytes after bytes. Assumes nothing.
use Rattle.meaning.proofs.Prelude.{ℕ, ◌+◌, ◌≤◌, ◌≡◌, refl, sym, ap, ◌∙◌, subst, ap₂, List, [], ◌++◌, length, length-append, add-zero, arith}
use Rattle.byte_runs.specs.Pasted.{pasted, Put}
use Rattle.byte_runs.proofs.Pasted.{pasted-nil, length-pasted, pasted-append}

-- nothing is put
pub put_none : (out : List ℕ) (at : ℕ) → Put out at [] out at
put_none out at = (sym (pasted-nil out at), sym (add-zero at))

-- the length is kept
pub put_length : (out : List ℕ) (at : ℕ) (bytes : List ℕ) {mid : List ℕ} {next : ℕ}
    → at + length bytes ≤ length out
    → Put out at bytes mid next
    → length mid ≡ length out
put_length out at bytes fits first = ap length first.0 ∙ length-pasted out at bytes fits

module _ (out : List ℕ) (at : ℕ) (bytes more : List ℕ) (fits : at + length (bytes ++ more) ≤ length out) where
  -- there is room for the first of two, and after it for the second
  pub put_first : at + length bytes ≤ length out
  put_first = omega (arith, length-append bytes more)

  module _ {mid : List ℕ} {next : ℕ} (first : Put out at bytes mid next) where
    pub put_room : next + length more ≤ length mid
    put_room = omega (arith, length-append bytes more, put_length out at bytes put_first first, first.1)

    -- one after the other is both at once
    pub put_then : {after : List ℕ} {end : ℕ} → Put mid next more after end → Put out at (bytes ++ more) after end
    put_then second = (
      second.0 ∙ ap₂ (λ (o : List ℕ) (n : ℕ). pasted o n more) first.0 first.1 ∙ pasted-append out at bytes more (omega (arith, put_first)),
      omega (arith, length-append bytes more, first.1, second.1),
    )

-- a loop that puts bytes after bytes: what is left to be put after what is put makes the whole, and there is room for it
abbrev pub Left : List ℕ → ℕ → List ℕ → List ℕ → ℕ → List ℕ → Type 0
Left out₀ at whole out next rest =
    (next + length rest ≤ length out)
    × (length out ≡ length out₀)
    × (pasted out next rest ≡ pasted out₀ at whole)
    × (next + length rest ≡ at + length whole)

module _ (out₀ : List ℕ) (at : ℕ) (whole : List ℕ) where
  -- at the start all is left, at the end nothing
  pub left_start : at + length whole ≤ length out₀ → Left out₀ at whole out₀ at whole
  left_start fits = (fits, refl, refl, refl)

  pub left_end : (out : List ℕ) (next : ℕ) {rest : List ℕ} → rest ≡ [] → Left out₀ at whole out next rest → Put out₀ at whole out next
  left_end out next e left =
      (sym (pasted-nil out next) ∙ ap (pasted out next) (sym e) ∙ left.2, omega (arith, left.3, ap length e))

  -- the same under other names
  pub left_is : {out out' rest rest' : List ℕ} {next next' : ℕ}
      → out ≡ out'
      → next ≡ next'
      → rest ≡ rest'
      → Left out₀ at whole out next rest
      → Left out₀ at whole out' next' rest'
  left_is o n r left = rw (← o, ← n, ← r) left

  -- the first of what is left is put
  module _ (out : List ℕ) (next : ℕ) (first later : List ℕ) {rest : List ℕ} (e : rest ≡ first ++ later) (left : Left out₀ at whole out next rest) where
    left_both : next + length (first ++ later) ≤ length out
    left_both = subst (λ (l : List ℕ). next + length l ≤ length out) e left.0

    pub left_room : next + length first ≤ length out
    left_room = put_first out next first later left_both

    pub left_next : {after : List ℕ} {end : ℕ} → Put out next first after end → Left out₀ at whole after end later
    left_next put = (
      put_room out next first later left_both put,
      put_length out next first left_room put ∙ left.1,
      ap₂ (λ (o : List ℕ) (n : ℕ). pasted o n later) put.0 put.1
          ∙ pasted-append out next first later (omega (arith, left_room))
          ∙ ap (pasted out next) (sym e)
          ∙ left.2,
      omega (arith, put.1, left.3, ap length e, length-append first later),
    )
