-- The listing of a rule file (01, "Rule set E and its neighbours"), and the pieces that it is put together from.
use Rattle.std.specs.Prelude.{ℕ, zero, suc, ◌^◌, ◌≡◌, cond, List, [], ◌∷◌, ◌++◌, map, length, get_or}
use Rattle.meaning.specs.Lists.{joined, table}
use Rattle.meaning.specs.Legal.{names}
use Rattle.meaning.specs.Cells.{row_of}
use Rattle.meaning.specs.Clauses.{marked}
use Rattle.meaning.specs.Refusals.{accepted, ok}
use Rattle.meaning.specs.Files.{rules_of, file_answer}
use Rattle.meaning.specs.Calls.{predicate_arities, states_of, rounds_of, model_of, atoms_of, verdicts_of}
use Rattle.listing_text.specs.Lines.{states_word, model_word, rounds_word, queries_word, count_line, counts_line, refused_line, state_text, atom_text, query_text}

module _ (file : List ℕ) where
  -- `states` and their count; a line for each state
  unfoldable pub states_line : List ℕ
  states_line = count_line states_word (length (states_of file))

  unfoldable pub state_line : ℕ → List ℕ
  state_line i = state_text (rules_of file).types i (get_or (states_of file) i 0)

  -- `model` and the count of its atoms, `rounds` and their count; a line for each atom
  unfoldable pub model_line : List ℕ
  model_line = counts_line model_word (length (atoms_of file)) rounds_word (rounds_of file)

  unfoldable pub atom_line : List ℕ → List ℕ
  atom_line atom = atom_text (names (rules_of file).predicates) atom

  -- `queries` and their count; a line for each query
  unfoldable pub queries_line : List ℕ
  queries_line = count_line queries_word (length (rules_of file).queries)

  unfoldable pub query_line : ℕ → List ℕ
  query_line i = query_text i (get_or (verdicts_of file) i 0)

  -- all lines, with some lines for the atoms
  abbrev pub lines_with : List (List ℕ) → List (List ℕ)
  lines_with atoms =
      (states_line ∷ table (length (states_of file)) state_line)
      ++ ((model_line ∷ atoms) ++ (queries_line ∷ table (length (rules_of file).queries) query_line))

  -- The listing: the lines one after the other, with the atoms in cell order; of a file that is refused the refusal only.
  unfoldable pub listing : List ℕ
  listing = cond (ok (file_answer file)) (joined (lines_with (map atom_line (atoms_of file)))) (refused_line (file_answer file))

  -- for each place of the marks the line of its atom, if it is in the model, else nothing; `p` is the number of the first predicate
  abbrev pub places_from : ℕ → List ℕ → List (List ℕ)
  places_from p [] = []
  places_from p (n ∷ later) =
      table
      (length (states_of file) ^ n)
      (λ c.
      let row = row_of (length (states_of file)) n c in
      cond (marked (length (states_of file)) (predicate_arities file) (model_of file) p row) (atom_line (p ∷ row)) [])
      ++ places_from (suc p) later

  -- the piece of place j of the marks
  unfoldable pub place_line : ℕ → List ℕ
  place_line j = get_or (places_from 0 (predicate_arities file)) j []

  -- the pieces of the model by number: `model` and `rounds` with their counts, then a piece for each place
  unfoldable pub model_text : ℕ → ℕ → ℕ → List ℕ
  model_text atoms rounds zero = counts_line model_word atoms rounds_word rounds
  model_text atoms rounds (suc j) = place_line j

  -- the pieces in the order in which they are put: the lines, with a piece for each place of the marks instead of one for each atom
  unfoldable pub all_pieces : List (List ℕ)
  all_pieces = lines_with (places_from 0 (predicate_arities file))

  unfoldable pub pieces : ℕ
  pieces = length all_pieces

  unfoldable pub piece : ℕ → List ℕ
  piece k = get_or all_pieces k []

-- the file is accepted, and these are what an analysis of it writes
pub record Results (file states marks verdicts : List ℕ) : Type 0 where
  pub answer : file_answer file ≡ accepted
  pub states_are_lem : states ≡ states_of file
  pub marks_are_lem : marks ≡ model_of file
  pub verdicts_are_lem : verdicts ≡ verdicts_of file
