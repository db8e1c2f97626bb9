-- Each piece by its number, from what an analysis wrote. Assumes nothing.
use Rattle.meaning.proofs.Prelude.{ℕ, ◌+◌, ◌≤◌, ◌-◌, ◌<◌, zero, suc, ◌≡◌, sym, ap, ◌∙◌, ap₂, ◌≢◌, List, length, get_or, arith}
use Rattle.meaning.proofs.Definitions.{rules_of, rounds_of, atoms_of}
use Rattle.listing_text.specs.Lines.{states_word, model_word, rounds_word, queries_word, count_line, counts_line, state_text, query_text, states_text, queries_text}
use Rattle.listing_text.specs.Listing.{states_line, state_line, model_line, queries_line, query_line, place_line, model_text, pieces, piece, Results}
use Rattle.meaning.proofs.Calls.{verdicts-length}
use Rattle.listing_text.proofs.Numbers.{pieces_are, piece-states, piece-state, piece-model, piece-place, piece-queries, piece-query}

-- the first of the pieces of the states, of the model and of the queries, and the others
module _ (types : List (List ℕ)) (states : List ℕ) where
  pub states-first : (k : ℕ) → k ≡ 0 → count_line states_word (length states) ≡ states_text types states k
  unfolding states_text
  states-first k e = ap (states_text types states) (sym e)

  pub states-later : (k : ℕ) → k ≢ 0 → state_text types (k - 1) (get_or states (k - 1) 0) ≡ states_text types states k
  unfolding states_text
  states-later k ne = let e : suc (k - 1) ≡ k = omega arith in ap (states_text types states) e

module _ (file : List ℕ) (atoms rounds : ℕ) where
  pub model-first : (j : ℕ) → j ≡ 0 → counts_line model_word atoms rounds_word rounds ≡ model_text file atoms rounds j
  unfolding model_text
  model-first j e = ap (model_text file atoms rounds) (sym e)

  pub model-later : (j : ℕ) → j ≢ 0 → place_line file (j - 1) ≡ model_text file atoms rounds j
  unfolding model_text
  model-later j ne = let e : suc (j - 1) ≡ j = omega arith in ap (model_text file atoms rounds) e

module _ (verdicts : List ℕ) where
  pub queries-first : (i : ℕ) → i ≡ 0 → count_line queries_word (length verdicts) ≡ queries_text verdicts i
  unfolding queries_text
  queries-first i e = ap (queries_text verdicts) (sym e)

  pub queries-later : (i : ℕ) → i ≢ 0 → query_text (i - 1) (get_or verdicts (i - 1) 0) ≡ queries_text verdicts i
  unfolding queries_text
  queries-later i ne = let e : suc (i - 1) ≡ i = omega arith in ap (queries_text verdicts) e

-- each piece by its number
module _ (file states marks verdicts : List ℕ) (r : Results file states marks verdicts) where
  pub piece_of_states : (k : ℕ) → k ≤ length states → states_text (rules_of file).types states k ≡ piece file k
  unfolding states_text states_line state_line
  piece_of_states zero h = ap (λ (l : List ℕ). count_line states_word (length l)) r.states_are_lem ∙ sym (piece-states file)
  piece_of_states (suc i) h =
      ap (λ (l : List ℕ). state_text (rules_of file).types i (get_or l i 0)) r.states_are_lem
      ∙ sym (piece-state file i (omega (arith, ap length r.states_are_lem)))

  pub piece_of_model : {atoms rounds : ℕ} (k j : ℕ)
      → atoms ≡ length (atoms_of file)
      → rounds ≡ rounds_of file
      → k ≡ length states + 1 + j
      → j ≤ length marks
      → model_text file atoms rounds j ≡ piece file k
  unfolding model_text model_line
  piece_of_model k zero a b e h =
      ap₂ (λ (i j : ℕ). counts_line model_word i rounds_word j) a b ∙ sym (piece-model file k (omega (arith, ap length r.states_are_lem)))
  piece_of_model k (suc j) a b e h = sym (piece-place file k j (omega (arith, ap length r.states_are_lem)) (omega (arith, ap length r.marks_are_lem)))

  pub piece_of_queries : (k i : ℕ) → k ≡ length states + 1 + (length marks + 1 + i) → i ≤ length verdicts → queries_text verdicts i ≡ piece file k
  unfolding queries_text queries_line query_line
  piece_of_queries k zero e h =
      ap (count_line queries_word) (ap length r.verdicts_are_lem ∙ verdicts-length file)
      ∙ sym (piece-queries file k (omega (arith, ap length r.states_are_lem, ap length r.marks_are_lem)))
  piece_of_queries k (suc i) e h =
      ap (λ (l : List ℕ). query_text i (get_or l i 0)) r.verdicts_are_lem
      ∙ sym (piece-query file k i (omega (arith, ap length r.states_are_lem, ap length r.marks_are_lem)) (omega (arith, ap length r.verdicts_are_lem, verdicts-length file)))

  -- the last piece is that of the last query
  pub query-inside : (k i : ℕ) → k < pieces file → k ≡ length states + 1 + (length marks + 1 + i) → i ≤ length verdicts
  query-inside k i lt e =
      omega (arith, pieces_are file, ap length r.states_are_lem, ap length r.marks_are_lem, ap length r.verdicts_are_lem, verdicts-length file)
