-- What is handed back of a file that is analysed for its listing.
use Rattle.std.specs.Prelude.{◌≡◌, List, ℕ, Result, Ok, Err}
use Rattle.meaning.specs.Calls.{Buffers, analysis_answer, analysed}
use Rattle.byte_runs.specs.Pasted.{Put}
use Rattle.listing_text.specs.Lines.{refusal_text}
use Rattle.answers.specs.declared.Refusal.{Refusal}
use Rattle.analysis.specs.declared.Counts.{Counts}
use Rattle.analysis.specs.Given.{given}
use Rattle.listing_answer.specs.declared.Refused.{Refused}

-- what the analysis hands back, and how many bytes of text there are: none without a refusal
abbrev pub analysis_in : Result Counts Refused → Result Counts Refusal
analysis_in (Ok counts) = Ok counts
analysis_in (Err r) = Err r.refusal

abbrev pub text_in : Result Counts Refused → ℕ
text_in (Ok counts) = 0
text_in (Err r) = r.text

-- the analysis, and at the start of a buffer the line of a refusal, or nothing
pub record AnsweredIn (file : List ℕ) (before after : Buffers) (out out' : List ℕ) (r : Result Counts Refused) : Type 0 where
  pub analysis : given (analysis_in r) after ≡ analysed file before
  pub line : Put out 0 (refusal_text (analysis_answer file before)) out' (text_in r)
