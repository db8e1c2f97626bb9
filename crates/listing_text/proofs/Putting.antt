-- Texts put as lines: short ones, lines of two parts, and a dash where nothing was put. Assumes nothing.
use Rattle.meaning.proofs.Prelude.{ℕ, ◌+◌, ◌≤◌, ◌<◌, ◌≡◌, sym, ap, ◌∙◌, subst, ◌≢◌, List, [], ◌∷◌, ◌++◌, length, arith}
use Rattle.byte_runs.specs.Pasted.{pasted, Put}
use Rattle.byte_runs.proofs.Pasted.{pasted-nil}
use Rattle.byte_runs.proofs.Putting.{put_first, put_room, put_then}
use Rattle.listing_text.specs.Lines.{line_end, dash_word, or_dash}
use Rattle.listing_text.proofs.Texts.{no_dash, no_bytes}

-- a text of at most 128 bytes, under another name
pub put_short : (out : List ℕ) (at : ℕ) {text line after : List ℕ} {next : ℕ}
    → text ≡ line
    → length text ≤ 128
    → Put out at text after next
    → Put out at line after next × (next ≤ at + 128)
put_short out at {after = after} {next = next} e short put = (subst (λ (l : List ℕ). Put out at l after next) e put, omega (arith, put.1))

-- a line of two parts
module _ (out : List ℕ) (at : ℕ) (one two : List ℕ) (fits : at + length (one ++ two ++ (line_end ∷ [])) ≤ length out) where
  line_both : at + length (one ++ two) ≤ length out
  line_both = put_first out at (one ++ two) (line_end ∷ []) fits

  pub line_first : at + length one ≤ length out
  line_first = put_first out at one two line_both

  module _ {mid : List ℕ} {next : ℕ} (first : Put out at one mid next) where
    pub line_second : next + length two ≤ length mid
    line_second = put_room out at one two line_both first

    module _ {mid₂ : List ℕ} {next₂ : ℕ} (second : Put mid next two mid₂ next₂) where
      pub line-last : next₂ < length mid₂
      line-last = omega (arith, put_room out at (one ++ two) (line_end ∷ []) fits (put_then out at one two line_both first second))

      pub line_put : {after : List ℕ} {end : ℕ} → Put mid₂ next₂ (line_end ∷ []) after end → Put out at (one ++ two ++ (line_end ∷ [])) after end
      line_put third = put_then out at (one ++ two) (line_end ∷ []) fits (put_then out at one two line_both first second) third

-- ` -` where nothing was put
module _ (out : List ℕ) (at : ℕ) (names : List ℕ) {mid : List ℕ} {next : ℕ} (first : Put out at names mid next) where
  pub names_put : next ≢ at → Put out at (or_dash names) mid next
  names_put ne = subst (λ (l : List ℕ). Put out at l mid next) (sym (no_dash names (omega (arith, first.1)))) first

  module _ (e : next ≡ at) where
    none_put : names ≡ []
    none_put = no_bytes names (omega (arith, first.1))

    same_out : mid ≡ out
    same_out = first.0 ∙ ap (pasted out at) none_put ∙ pasted-nil out at

    pub dash_fits : at + length (or_dash names) ≤ length out → at + length dash_word ≤ length mid
    dash_fits fits =
        subst (λ (l : List ℕ). at + length dash_word ≤ length l) (sym same_out) (subst (λ (l : List ℕ). at + length (or_dash l) ≤ length out) none_put fits)

    pub dash_put : {after : List ℕ} {end : ℕ} → Put mid at dash_word after end → Put out at (or_dash names) after end
    dash_put {after} {end} second =
        subst (λ (l : List ℕ). Put out at (or_dash l) after end) (sym none_put) (second.0 ∙ ap (λ (o : List ℕ). pasted o at dash_word) same_out, second.1)
