-- The text at the start of a buffer: what it is, and that it ends inside. Assumes nothing.
use Rattle.meaning.proofs.Prelude.{ℕ, ◌+◌, ◌≤◌, ◌≡◌, refl, sym, ap, ◌∙◌, ap₂, cond, Bool, List, [], ◌++◌, length, length-append, take, drop}
use Rattle.meaning.proofs.Prelude.{arith, ne_eqb}
use Rattle.meaning.proofs.Definitions.{accepted, Buffers, Analysed, analysis_answer, analysed}
use Rattle.byte_runs.specs.Pasted.{pasted, Put}
use Rattle.byte_runs.proofs.Pasted.{pasted-nil, take-pasted}
use Rattle.listing_text.specs.Lines.{refused_line, refusal_text}
use Rattle.std.specs.Prelude.{Result}
use Rattle.answers.specs.declared.Refusal.{Refusal}
use Rattle.answers.specs.Refused.{answered, refusal_answer}
use Rattle.acceptance.proofs.Answering.{refusal_number}
use Rattle.analysis.specs.Given.{given}
use Rattle.analysis.specs.declared.Counts.{Counts}

module _ (out bytes : List ℕ) {after : List ℕ} {n : ℕ} (put : Put out 0 bytes after n) where
  pub text_is : take n after ≡ bytes
  text_is = ap₂ (λ (k : ℕ) (l : List ℕ). take k l) put.1 put.0 ∙ take-pasted out 0 bytes (omega arith)

  pub text_inside : n ≤ length after
  unfolding pasted
  text_inside =
      let whole : length after ≡ length (bytes ++ drop (0 + length bytes) out) = ap length put.0 in
      omega (arith, put.1, whole, length-append bytes (drop (0 + length bytes) out))

-- the answer of an analysis
pub answer-is : (file : List ℕ) (before after : Buffers) (r : Result Counts Refusal) → given r after ≡ analysed file before → answered r ≡ analysis_answer file before
unfolding analysed
answer-is file before after r is = ap (λ (a : Analysed). a.answer) is

-- the text without a refusal, and with one
pub no_text : refusal_text accepted ≡ []
unfolding refusal_text
no_text = refl

pub line_text : (r : Refusal) → refusal_text (refusal_answer r) ≡ refused_line (refusal_answer r)
unfolding refusal_text
line_text r = ap (λ (b : Bool). cond b [] (refused_line (refusal_answer r))) (ne_eqb (refusal_answer r).number 0 (refusal_number r))

-- nothing put
pub put_nothing : (out bytes : List ℕ) → bytes ≡ [] → Put out 0 bytes out 0
put_nothing out bytes e = (sym (pasted-nil out 0) ∙ ap (pasted out 0) (sym e), ap (λ (l : List ℕ). 0 + length l) (sym e))
