-- The lines of a listing by what they say (01, "Rule set E and its neighbours"). One space parts the fields of a line, and each line ends
-- with byte 10.
use Rattle.std.specs.Prelude.{ℕ, zero, suc, cond, List, [], ◌∷◌, ◌++◌, eqb, length, get_or}
use Rattle.meaning.specs.Types.{has}
use Rattle.meaning.specs.Refusals.{Answer, ok}
use Rattle.text.specs.Decimal.{decimal}

abbrev pub space : ℕ
space = 32

abbrev pub line_end : ℕ
line_end = 10

-- `states `, `model `, ` rounds `, `queries `, `refused `, ` at `, ` OPEN`, ` CLEAR`, ` -` in ASCII
abbrev pub states_word : List ℕ
states_word = 115 ∷ 116 ∷ 97 ∷ 116 ∷ 101 ∷ 115 ∷ 32 ∷ []

abbrev pub model_word : List ℕ
model_word = 109 ∷ 111 ∷ 100 ∷ 101 ∷ 108 ∷ 32 ∷ []

abbrev pub rounds_word : List ℕ
rounds_word = 32 ∷ 114 ∷ 111 ∷ 117 ∷ 110 ∷ 100 ∷ 115 ∷ 32 ∷ []

abbrev pub queries_word : List ℕ
queries_word = 113 ∷ 117 ∷ 101 ∷ 114 ∷ 105 ∷ 101 ∷ 115 ∷ 32 ∷ []

abbrev pub refused_word : List ℕ
refused_word = 114 ∷ 101 ∷ 102 ∷ 117 ∷ 115 ∷ 101 ∷ 100 ∷ 32 ∷ []

abbrev pub at_word : List ℕ
at_word = 32 ∷ 97 ∷ 116 ∷ 32 ∷ []

abbrev pub open_word : List ℕ
open_word = 32 ∷ 79 ∷ 80 ∷ 69 ∷ 78 ∷ []

abbrev pub clear_word : List ℕ
clear_word = 32 ∷ 67 ∷ 76 ∷ 69 ∷ 65 ∷ 82 ∷ []

abbrev pub dash_word : List ℕ
dash_word = 32 ∷ 45 ∷ []

-- a word and a number; a line of one such pair; a line of two
unfoldable pub number_after : List ℕ → ℕ → List ℕ
number_after word n = word ++ decimal n

unfoldable pub count_line : List ℕ → ℕ → List ℕ
count_line word n = number_after word n ++ (line_end ∷ [])

unfoldable pub counts_line : List ℕ → ℕ → List ℕ → ℕ → List ℕ
counts_line first a second b = number_after first a ++ count_line second b

-- `refused N at K`
unfoldable pub refused_line : Answer → List ℕ
refused_line a = counts_line refused_word a.number at_word a.place

-- what is printed of an answer: that line of a refusal, else nothing
unfoldable pub refusal_text : Answer → List ℕ
refusal_text a = cond (ok a) [] (refused_line a)

-- a space and a type's name, if the state holds the type; those of all types in type order, where t is the number of the first
abbrev pub held_name : ℕ → ℕ → List ℕ → List ℕ
held_name state t name = cond (has state t) (space ∷ name) []

abbrev pub held_names : ℕ → ℕ → List (List ℕ) → List ℕ
held_names state t [] = []
held_names state t (name ∷ later) = held_name state t name ++ held_names state (suc t) later

-- ` -` where there is none
abbrev pub or_dash : List ℕ → List ℕ
or_dash [] = dash_word
or_dash (b ∷ bytes) = b ∷ bytes

-- state number i: the number, then the names of its types, or `-` for none
unfoldable pub state_text : List (List ℕ) → ℕ → ℕ → List ℕ
state_text types i state = decimal i ++ or_dash (held_names state 0 types) ++ (line_end ∷ [])

-- a space and a number for each state of a row
abbrev pub row_text : List ℕ → List ℕ
row_text [] = []
row_text (d ∷ row) = number_after (space ∷ []) d ++ row_text row

-- an atom, the predicate followed by the row of states: the predicate's name, then the states
unfoldable pub named_text : List ℕ → List ℕ → List ℕ
named_text name row = name ++ row_text row ++ (line_end ∷ [])

abbrev pub atom_text : List (List ℕ) → List ℕ → List ℕ
atom_text names [] = []
atom_text names (p ∷ row) = named_text (get_or names p []) row

-- query number i, by its verdict: 0 CLEAR, 1 OPEN
unfoldable pub query_text : ℕ → ℕ → List ℕ
query_text i verdict = decimal i ++ cond (eqb verdict 0) clear_word open_word ++ (line_end ∷ [])

-- the lines of the states by number: `states` and their count, then a line for each; those of the queries likewise
unfoldable pub states_text : List (List ℕ) → List ℕ → ℕ → List ℕ
states_text types states zero = count_line states_word (length states)
states_text types states (suc i) = state_text types i (get_or states i 0)

unfoldable pub queries_text : List ℕ → ℕ → List ℕ
queries_text verdicts zero = count_line queries_word (length verdicts)
queries_text verdicts (suc i) = query_text i (get_or verdicts i 0)
