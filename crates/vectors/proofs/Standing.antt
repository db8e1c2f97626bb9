-- A listing that is the pieces one after the other, or a refusal's. Assumes nothing.
use Rattle.meaning.proofs.Prelude.{ℕ, ◌+◌, ◌≡◌, refl, sym, ap, ◌∙◌, subst, Bool, true, false, not, ◌&&◌, List, [], ◌++◌, T, eqb, take}
use Rattle.meaning.proofs.Prelude.{append_assoc, append-nil, eqb-true, eqb-false}
use Rattle.meaning.proofs.Definitions.{same, joined, table, Answer, accepted, and_then, refuse_if, file_answer, Buffers, long_enough, analysis_answer}
use Rattle.meaning.proofs.Definitions.{analysed}
use Rattle.meaning.proofs.Lists.{both, T_of, same-eq}
use Rattle.meaning.proofs.Answers.{then_next, then_first}
use Rattle.byte_runs.specs.Pasted.{Put}
use Rattle.listing_text.specs.Lines.{refused_line, refusal_text}
use Rattle.listing_text.specs.Listing.{listing, pieces, piece}
use Rattle.listing_text.proofs.Pieces.{listing-pieces, pieces-next, listing-refused}
use Rattle.std.specs.Prelude.{Err}
use Rattle.answers.specs.declared.Refusal.{Refusal}
use Rattle.answers.specs.Refused.{refusal_answer}
use Rattle.acceptance.proofs.Answering.{refusal_number}
use Rattle.listing_answer.proofs.Texts.{text_is, answer-is, line_text}
use Rattle.analysis.specs.Given.{given}

-- pieces of a listing `s` before number k, and what is left of it
module _ (file s rest : List ℕ) (k : ℕ) (front : joined (table k (piece file)) ++ rest ≡ s) where
  -- the next piece is put, and what is left begins with it
  pub piece_stands : (out : List ℕ) {after : List ℕ} (later : List ℕ) {n : ℕ}
      → Put out 0 (piece file k) after n
      → rest ≡ take n after ++ later
      → joined (table (k + 1) (piece file)) ++ later ≡ s
  piece_stands out {after} later {n} put stands =
      ap (λ (l : List ℕ). l ++ later) (pieces-next file k)
      ∙ append_assoc (joined (table k (piece file))) (piece file k) later
      ∙ ap (λ (l : List ℕ). joined (table k (piece file)) ++ (l ++ later)) (sym (text_is out (piece file k) put))
      ∙ ap (λ (l : List ℕ). joined (table k (piece file)) ++ l) (sym stands)
      ∙ front

  -- all pieces, and nothing after them
  pub pieces_all : file_answer file ≡ accepted → k ≡ pieces file → rest ≡ [] → s ≡ listing file
  pieces_all e all end =
      sym front
      ∙ ap (λ (l : List ℕ). joined (table k (piece file)) ++ l) end
      ∙ append-nil (joined (table k (piece file)))
      ∙ ap (λ (j : ℕ). joined (table j (piece file))) all
      ∙ listing-pieces file e

-- a refusal other than 9 is that of the file
module _ (file : List ℕ) (before after : Buffers) (r : Refusal) (is : given (Err r) after ≡ analysed file before) where
  refusal_is : refusal_answer r ≡ and_then (file_answer file) (refuse_if (not (long_enough file before)) 9 0)
  unfolding analysis_answer
  refusal_is = answer-is file before after (Err r) is

  pub refused-is : (text : List ℕ)
      → text ≡ refusal_text (analysis_answer file before)
      → (s : List ℕ)
      → (b : Bool)
      → b ≡ (not (eqb (refusal_answer r).number 9) && same text s)
      → b ≡ true
      → s ≡ listing file
  refused-is text is-text s b told e =
      let tests = both (not (eqb (refusal_answer r).number 9)) (same text s) (T_of _ (sym told ∙ e)) in
      let file-is = file_refused (eqb (file_answer file).number 0) refl tests.0 in
      sym (same-eq text s tests.1)
      ∙ is-text
      ∙ ap refusal_text (sym (answer-is file before after (Err r) is))
      ∙ line_text r
      ∙ ap refused_line file-is
      ∙ sym (listing-refused file (λ z. refusal_number r (ap (λ (a : Answer). a.number) file-is ∙ z)))
    where
      no_refusal : (b : Bool) → T (not (eqb (refusal_answer r).number 9)) → refusal_answer r ≡ refuse_if b 9 0 → ⊥
      no_refusal true other q = subst (λ (n : ℕ). T (not (eqb n 9))) (ap (λ (a : Answer). a.number) q) other
      no_refusal false other q = refusal_number r (ap (λ (a : Answer). a.number) q)

      file_refused : (b : Bool) → eqb (file_answer file).number 0 ≡ b → T (not (eqb (refusal_answer r).number 9)) → refusal_answer r ≡ file_answer file
      file_refused true q other =
          absurd
          (no_refusal
          (not (long_enough file before))
          other
          (refusal_is ∙ then_next (file_answer file) (refuse_if (not (long_enough file before)) 9 0) (eqb-true (file_answer file).number 0 q)))
      file_refused false q other = refusal_is ∙ then_first (file_answer file) (refuse_if (not (long_enough file before)) 9 0) (eqb-false (file_answer file).number 0 q)
