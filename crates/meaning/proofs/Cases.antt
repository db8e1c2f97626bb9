-- The cases A to J of 01, the reefs, the limits and refusals, and the calls with every byte of every buffer, as rows of one table under one theorem, proved
-- by computing the definitions. Assumes nothing.
use Rattle.meaning.proofs.Prelude.{ℕ, ◌+◌, cond, Bool, List, [], ◌∷◌, map, ◌++◌, T, length, replicate}
use Rattle.meaning.proofs.Definitions.{any_of, all_of, same, joined, table, Term, var, app, end, ◌▸◌, Named, Production, Atom, Clause, Condition}
use Rattle.meaning.proofs.Definitions.{is_of, not_of, free, Query, Rules, tag_of, most_of, most_file_bytes, most_content, kinds, encode_rules, fields}
use Rattle.meaning.proofs.Definitions.{first_field, encode_field, name_byte, term_within, read_terms, read_atom, read_atoms, read_clause}
use Rattle.meaning.proofs.Definitions.{read_conditions, read_query, Answer, refusal, first_refused, signature, step, bit, has, determinise}
use Rattle.meaning.proofs.Definitions.{cell_of, tables, rules_in, rules_of, states_for, read_answer, file_answer, brings, next, stage, rounds, model}
use Rattle.meaning.proofs.Definitions.{is_open, encode_sheet, violated, check_fields, answer_of_sheet, marked_atoms, symbol_arities, predicate_arities}
use Rattle.meaning.proofs.Definitions.{states_of, step_of, interpretation_of, tables_of, rounds_of, model_of, atoms_of, verdict_of, verdicts_of}
use Rattle.meaning.proofs.Definitions.{Buffers, Analysed, analysis_answer, analysed, Written, writing_answer, written_in, Checked, lent_answer}
use Rattle.meaning.proofs.Definitions.{check_answer, checked}

-- what a row asks: the tags and the mosts of 01's table of kinds, with its other limits; the bytes that a name may have; of a rule file the answer to it, its bytes, the states, the tables, the number of atoms and the round count with the atoms, the verdicts,
-- whether a domain atom is in the model, the answer to a sheet; the answers to the file with a field more, of a tag and with each of some contents; the answers to some sheets; what a call hands back, with so many places lent
-- of each buffer, in which each number is 9 before
data Asked : Type 0 where
  numbers name_bytes accepts reads states cells models verdicts : Asked
  in_model check : List ℕ → Asked
  with_field : ℕ → List (List ℕ) → Asked
  checks : List (List ℕ) → Asked
  analysis : ℕ → ℕ → ℕ → ℕ → Asked
  writing : ℕ → ℕ → ℕ → ℕ → ℕ → Asked
  checking : List ℕ → ℕ → ℕ → Asked

abbrev pair : Answer → List ℕ
pair a = a.number ∷ a.place ∷ []

nines : ℕ → ℕ → ℕ → ℕ → Buffers
nines s t m v = record { states = replicate s 9; tables = replicate t 9; marks = replicate m 9; verdicts = replicate v 9 }

bytes_of : Buffers → List ℕ
bytes_of b = b.states ++ b.tables ++ b.marks ++ b.verdicts

analysis_bytes : Analysed → List ℕ
analysis_bytes r = pair r.answer ++ (r.states ∷ r.atoms ∷ r.rounds ∷ bytes_of r.after)

writing_bytes : Written → List ℕ
writing_bytes r = pair r.answer ++ (r.states ∷ r.atoms ∷ r.rounds ∷ r.bytes ∷ bytes_of r.after) ++ r.sheet

check_bytes : Checked → List ℕ
check_bytes r = pair r.answer ++ r.after.tables ++ r.after.marks

ask : Asked → List ℕ → List ℕ
ask numbers file = map tag_of kinds ++ map most_of kinds ++ (most_file_bytes ∷ most_content ∷ [])
ask name_bytes file = joined (table 256 (λ b. cond (name_byte b) (b ∷ []) []))
ask accepts file = pair (file_answer file)
ask reads file = file
ask states file = states_of file
ask cells file = tables_of file
ask models file = length (atoms_of file) ∷ rounds_of file ∷ joined (atoms_of file)
ask verdicts file = verdicts_of file
ask (in_model atom) file = bit (any_of (same atom) (atoms_of file)) ∷ []
ask (check sheet) file =
    pair (answer_of_sheet (states_of file) (interpretation_of file) (predicate_arities file) (rules_of file).clauses sheet)
ask (with_field tag contents) file = joined (map (λ (content : List ℕ). pair (file_answer (file ++ encode_field tag content))) contents)
ask (checks sheets) file =
    joined (map (λ (sheet : List ℕ). pair (answer_of_sheet (states_of file) (interpretation_of file) (predicate_arities file) (rules_of file).clauses sheet)) sheets)
ask (analysis s t m v) file = analysis_bytes (analysed file (nines s t m v))
ask (writing s t m v room) file = writing_bytes (written_in (atoms_of file) file (nines s t m v) (replicate room 9))
ask (checking sheet t m) file = check_bytes (checked file sheet (record { tables = replicate t 9; marks = replicate m 9 }))

record Row : Type 0 where
  file : List ℕ
  asked : Asked
  says : List ℕ

abbrev row : List ℕ → Asked → List ℕ → Row
row f a s = record { file = f; asked = a; says = s }

-- rule set E, from 01's bytes
unfoldable pub E : List ℕ
E =
    0x01 ∷ 0x00 ∷ 0x02 ∷ 0x00 ∷ 0x7A ∷ 0x01 ∷ 0x00 ∷ 0x02 ∷ 0x01 ∷ 0x73 ∷ 0x02 ∷ 0x00 ∷ 0x04 ∷ 0x65 ∷ 0x76 ∷ 0x65 ∷ 0x6E
    ∷ 0x02 ∷ 0x00 ∷ 0x03 ∷ 0x6F ∷ 0x64 ∷ 0x64 ∷ 0x03 ∷ 0x00 ∷ 0x02 ∷ 0x00 ∷ 0x00 ∷ 0x03 ∷ 0x00 ∷ 0x03 ∷ 0x00 ∷ 0x01 ∷ 0x01
    ∷ 0x03 ∷ 0x00 ∷ 0x03 ∷ 0x01 ∷ 0x01 ∷ 0x00 ∷ 0x04 ∷ 0x00 ∷ 0x02 ∷ 0x01 ∷ 0x70 ∷ 0x05 ∷ 0x00 ∷ 0x04 ∷ 0x00 ∷ 0x00 ∷ 0x00 ∷ 0x00
    ∷ 0x05 ∷ 0x00 ∷ 0x08 ∷ 0x01 ∷ 0x01 ∷ 0x00 ∷ 0x01 ∷ 0x01 ∷ 0x80 ∷ 0x00 ∷ 0x80 ∷ 0x06 ∷ 0x00 ∷ 0x04 ∷ 0x01 ∷ 0x80 ∷ 0x00 ∷ 0x80
    ∷ 0x06 ∷ 0x00 ∷ 0x04 ∷ 0x01 ∷ 0x81 ∷ 0x00 ∷ 0x80 ∷ []

-- E's sheet, from 01's bytes; with p(1) added; without p(0)
two_states : List ℕ
two_states = 0x10 ∷ 0x00 ∷ 0x02 ∷ 0x00 ∷ 0x01 ∷ 0x10 ∷ 0x00 ∷ 0x02 ∷ 0x00 ∷ 0x02 ∷ []

sheet_e : List ℕ
sheet_e = two_states ++ (0x11 ∷ 0x00 ∷ 0x02 ∷ 0x00 ∷ 0x00 ∷ [])

sheet_g : List ℕ
sheet_g = sheet_e ++ (0x11 ∷ 0x00 ∷ 0x02 ∷ 0x00 ∷ 0x01 ∷ [])

-- rules in the words of 01: variables X and Y, the symbols z and s, atoms, clauses, queries
unfoldable pub X : Term
X = var 0

unfoldable pub Y : Term
Y = var 1

unfoldable pub z : Term
z = app 0 end

unfoldable pub s : Term → Term
s t = app 1 (t ▸ end)

unfoldable pub p : Term → Atom
p t = record { predicate = 0; arguments = t ▸ end }

q : Term → Atom
q t = record { predicate = 1; arguments = t ▸ end }

unfoldable pub p₂ : Term → Term → Atom
p₂ t u = record { predicate = 0; arguments = t ▸ u ▸ end }

unfoldable pub clause : ℕ → Atom → List Atom → Clause
clause v head body = record { variables = v; head = head; body = body }

unfoldable pub query : List Condition → Atom → Query
query conditions atom = record { conditions = conditions; atom = atom }

unfoldable pub name : ℕ → ℕ → Named
name letter n = record { arity = n; name = letter ∷ [] }

unfoldable pub to : ℕ → ℕ → List ℕ → Production
to target symbol arguments = record { target = target; symbol = symbol; arguments = arguments }

-- E's symbols, types and productions, with some predicates, clauses and queries; even is type 0, odd is type 1
unfoldable pub even_odd_rules : List Named → List Clause → List Query → Rules
even_odd_rules predicates clauses queries =
    record {
      symbols = name 0x7A 0 ∷ name 0x73 1 ∷ [];
      types = (0x65 ∷ 0x76 ∷ 0x65 ∷ 0x6E ∷ []) ∷ (0x6F ∷ 0x64 ∷ 0x64 ∷ []) ∷ [];
      productions = to 0 0 [] ∷ to 0 1 (1 ∷ []) ∷ to 1 1 (0 ∷ []) ∷ [];
      predicates = predicates;
      clauses = clauses;
      queries = queries;
    }

even_odd : List Named → List Clause → List Query → List ℕ
even_odd predicates clauses queries = encode_rules (even_odd_rules predicates clauses queries)

-- E again, from its words; I: p(z), q(s(X)) if p(X), p(s(X)) if q(X); J: no clauses
unfoldable pub rules_e : Rules
rules_e =
    even_odd_rules (name 0x70 1 ∷ []) (clause 0 (p z) [] ∷ clause 1 (p (s (s X))) (p X ∷ []) ∷ [])
    (query (not_of 0 ∷ []) (p X) ∷ query (not_of 1 ∷ []) (p X) ∷ [])

I : List ℕ
I =
    even_odd (name 0x70 1 ∷ name 0x71 1 ∷ [])
    (clause 0 (p z) [] ∷ clause 1 (q (s X)) (p X ∷ []) ∷ clause 1 (p (s X)) (q X ∷ []) ∷ []) []

J : List ℕ
J = even_odd (name 0x70 1 ∷ []) [] []

-- The reefs. One constant a, some types a letter each, productions, the clause p(X), one query p(X) with its condition.
constant_only : List (List ℕ) → List Production → Condition → List ℕ
constant_only types productions condition =
    encode_rules
    (record {
      symbols = name 0x61 0 ∷ [];
      types = types;
      productions = productions;
      predicates = name 0x70 1 ∷ [];
      clauses = clause 1 (p X) [] ∷ [];
      queries = query (condition ∷ []) (p X) ∷ [];
    })

-- type t and no production: a is of no type, and that set is a state
no_type : List ℕ
no_type = constant_only ((0x74 ∷ []) ∷ []) [] (not_of 0)

-- types t and u, production t to a: no term has the set with u alone
no_such_set : List ℕ
no_such_set = constant_only ((0x74 ∷ []) ∷ (0x75 ∷ []) ∷ []) (to 0 0 [] ∷ []) (is_of 1)

-- a variable in two places: p(X, X), asked with X even and Y odd, and with both even
two_places : List ℕ
two_places =
    even_odd (name 0x70 2 ∷ []) (clause 1 (p₂ X X) [] ∷ [])
    (query (is_of 0 ∷ is_of 1 ∷ []) (p₂ X Y) ∷ query (is_of 0 ∷ is_of 0 ∷ []) (p₂ X Y) ∷ [])

-- a variable in the head alone ranges over all states: p(X), asked with X even and with X odd
head_only : List ℕ
head_only =
    even_odd (name 0x70 1 ∷ []) (clause 1 (p X) [] ∷ []) (query (is_of 0 ∷ []) (p X) ∷ query (is_of 1 ∷ []) (p X) ∷ [])

-- a free condition is met by every state: p(X) with X free where the model has p(0), and where it has nothing
free_in : List Clause → List ℕ
free_in clauses = even_odd (name 0x70 1 ∷ []) clauses (query (free ∷ []) (p X) ∷ [])

-- a variable that stands nowhere in the atom needs a state that meets its condition: type u has no term
unused_variable : List ℕ
unused_variable =
    encode_rules
    (record {
      symbols = name 0x61 0 ∷ [];
      types = (0x74 ∷ []) ∷ (0x75 ∷ []) ∷ [];
      productions = to 0 0 [] ∷ [];
      predicates = name 0x70 1 ∷ [];
      clauses = clause 1 (p X) [] ∷ [];
      queries = query (is_of 0 ∷ is_of 0 ∷ []) (p X) ∷ query (is_of 0 ∷ is_of 1 ∷ []) (p X) ∷ query (is_of 0 ∷ free ∷ []) (p X) ∷ [];
    })

rows : List Row
rows =
    row E accepts (0 ∷ 0 ∷ [])
    ∷ row (encode_rules rules_e) reads E
    -- A to D
    ∷ row E states (1 ∷ 2 ∷ [])
    ∷ row E cells (0 ∷ 1 ∷ 0 ∷ [])
    ∷ row E models (1 ∷ 1 ∷ 0 ∷ 0 ∷ [])
    ∷ row E verdicts (0 ∷ 1 ∷ [])
    -- F to H
    ∷ row E (check sheet_e) (0 ∷ 0 ∷ [])
    ∷ row E (check sheet_g) (0 ∷ 0 ∷ [])
    ∷ row E (in_model (0 ∷ 1 ∷ [])) (0 ∷ [])
    ∷ row E (check two_states) (13 ∷ 0 ∷ [])
    -- I, J
    ∷ row I accepts (0 ∷ 0 ∷ [])
    ∷ row I models (2 ∷ 2 ∷ 0 ∷ 0 ∷ 1 ∷ 1 ∷ [])
    ∷ row J accepts (0 ∷ 0 ∷ [])
    ∷ row J models (0 ∷ 0 ∷ [])
    -- the reefs
    ∷ row no_type states (0 ∷ [])
    ∷ row no_type verdicts (1 ∷ [])
    ∷ row no_such_set states (1 ∷ [])
    ∷ row no_such_set verdicts (0 ∷ [])
    ∷ row two_places verdicts (0 ∷ 1 ∷ [])
    ∷ row head_only verdicts (1 ∷ 1 ∷ [])
    -- conditions
    ∷ row (free_in (clause 0 (p z) [] ∷ [])) verdicts (1 ∷ [])
    ∷ row (free_in []) verdicts (0 ∷ [])
    ∷ row unused_variable verdicts (1 ∷ 0 ∷ 1 ∷ [])
    ∷ []

-- The limits and refusals of 01, from bytes. One constant a; n fields of one kind; a symbol.
a : List ℕ
a = encode_field 1 (0 ∷ 97 ∷ [])

many : ℕ → (ℕ → List ℕ) → List ℕ
many n f = joined (table n f)

symbol : ℕ → List ℕ → List ℕ
symbol arity name = encode_field 1 (arity ∷ name)

-- a, and p/0; with z/0, s/1 and p/1 the clause p(s(..s(z)..))
a_p : List ℕ
a_p = a ++ encode_field 4 (0 ∷ 112 ∷ [])

deep : ℕ → List ℕ
deep k = symbol 0 (122 ∷ []) ++ symbol 1 (115 ∷ []) ++ encode_field 4 (1 ∷ 112 ∷ []) ++ encode_field 5 (0 ∷ 0 ∷ 0 ∷ replicate k 1 ++ (0 ∷ []))

-- one constant for each subset of four types; one more of a fifth type alone
subsets : ℕ → ℕ → List ℕ → List ℕ
subsets constants types more =
    many constants (λ i. symbol 0 ((97 + i) ∷ []))
    ++ many types (λ t. encode_field 2 ((97 + t) ∷ []))
    ++ many 16 (λ i. many 4 (λ t. cond (has i t) (encode_field 3 (t ∷ i ∷ [])) []))
    ++ more

-- p(X), asked with a condition byte
asked : ℕ → List ℕ
asked b = a ++ encode_field 4 (1 ∷ 112 ∷ []) ++ encode_field 5 (1 ∷ 0 ∷ 0 ∷ 128 ∷ []) ++ encode_field 6 (1 ∷ b ∷ 0 ∷ 128 ∷ [])

-- 24 symbols of a letter each; the type t; z/0 and s/1 with t; with p/1 too
letters : List ℕ
letters = many 24 (λ i. symbol 0 ((97 + i) ∷ []))

type_t : List ℕ
type_t = encode_field 2 (116 ∷ [])

zst : List ℕ
zst = symbol 0 (122 ∷ []) ++ symbol 1 (115 ∷ []) ++ type_t

zstp : List ℕ
zstp = zst ++ encode_field 4 (1 ∷ 112 ∷ [])

-- one answer so many times
times : ℕ → ℕ → ℕ → List ℕ
times n number place = joined (replicate n (number ∷ place ∷ []))

limits : List Row
limits =
    row [] numbers (1 ∷ 2 ∷ 3 ∷ 4 ∷ 5 ∷ 6 ∷ 24 ∷ 12 ∷ 200 ∷ 16 ∷ 64 ∷ 32 ∷ 32768 ∷ 250 ∷ [])
    ∷ row [] accepts (7 ∷ 0 ∷ [])
    ∷ row (1 ∷ 0 ∷ 2 ∷ []) accepts (2 ∷ 0 ∷ [])
    ∷ row (replicate 32769 0) accepts (1 ∷ 0 ∷ [])
    -- one byte left, two bytes left; a length of 256 bytes, with 255 and with 256 left
    ∷ row (1 ∷ []) accepts (2 ∷ 0 ∷ [])
    ∷ row (a ++ (1 ∷ 0 ∷ [])) accepts (2 ∷ 1 ∷ [])
    ∷ row (1 ∷ 1 ∷ 0 ∷ replicate 255 97) accepts (2 ∷ 0 ∷ [])
    ∷ row (1 ∷ 1 ∷ 0 ∷ replicate 256 97) accepts (4 ∷ 0 ∷ [])
    -- names: 0-9, `[`, `]`, `_`, a-z
    ∷ row [] name_bytes (table 10 (λ i. 48 + i) ++ (91 ∷ 93 ∷ 95 ∷ table 26 (λ i. 97 + i)))
    ∷ row (symbol 0 (97 ∷ 122 ∷ 48 ∷ 57 ∷ 91 ∷ 93 ∷ 95 ∷ 109 ∷ [])) accepts (0 ∷ 0 ∷ [])
    ∷ row (symbol 0 (replicate 9 97)) accepts (4 ∷ 0 ∷ [])
    ∷ row (symbol 0 []) accepts (4 ∷ 0 ∷ [])
    ∷ row (symbol 0 (96 ∷ [])) accepts (4 ∷ 0 ∷ [])
    ∷ row (a ++ a) accepts (5 ∷ 1 ∷ [])
    ∷ row (a ++ symbol 1 (97 ∷ [])) accepts (5 ∷ 1 ∷ [])
    ∷ row (a ++ type_t ++ type_t) accepts (5 ∷ 2 ∷ [])
    ∷ row (a_p ++ encode_field 4 (1 ∷ 112 ∷ [])) accepts (5 ∷ 2 ∷ [])
    ∷ row (symbol 1 (97 ∷ [])) accepts (7 ∷ 1 ∷ [])
    -- arities
    ∷ row (a ++ symbol 2 (98 ∷ [])) accepts (0 ∷ 0 ∷ [])
    ∷ row (a ++ symbol 3 (98 ∷ [])) accepts (4 ∷ 1 ∷ [])
    ∷ row (a ++ encode_field 4 (3 ∷ 112 ∷ [])) accepts (0 ∷ 0 ∷ [])
    ∷ row (a ++ encode_field 4 (4 ∷ 112 ∷ [])) accepts (4 ∷ 1 ∷ [])
    -- tags
    ∷ row (a ++ encode_field 7 []) accepts (3 ∷ 1 ∷ [])
    ∷ row (encode_field 0 []) accepts (3 ∷ 0 ∷ [])
    ∷ row (a ++ encode_field 2 (116 ∷ []) ++ symbol 0 (98 ∷ [])) accepts (3 ∷ 2 ∷ [])
    -- counts: the most pass, and the first past them is 6, whatever its content
    ∷ row (many 24 (λ i. symbol 0 ((97 + i) ∷ []))) accepts (0 ∷ 0 ∷ [])
    ∷ row (many 24 (λ i. symbol 0 ((97 + i) ∷ [])) ++ symbol 9 []) accepts (6 ∷ 24 ∷ [])
    ∷ row (a ++ many 13 (λ i. encode_field 2 ((97 + i) ∷ []))) accepts (6 ∷ 13 ∷ [])
    ∷ row (a ++ many 17 (λ i. encode_field 4 (0 ∷ (97 + i) ∷ []))) accepts (6 ∷ 17 ∷ [])
    ∷ row (a_p ++ many 65 (λ i. encode_field 5 (0 ∷ 0 ∷ 0 ∷ []))) accepts (6 ∷ 66 ∷ [])
    ∷ row (a_p ++ many 33 (λ i. encode_field 6 (0 ∷ 0 ∷ []))) accepts (6 ∷ 34 ∷ [])
    -- the first of the numbers that fit: of 3, 6, 4 and 5; of 6, 4 and 5; of 4 and 5
    ∷ row (letters ++ type_t ++ symbol 9 (97 ∷ [])) accepts (3 ∷ 25 ∷ [])
    ∷ row (letters ++ symbol 9 (97 ∷ [])) accepts (6 ∷ 24 ∷ [])
    ∷ row (a ++ symbol 9 (97 ∷ [])) accepts (4 ∷ 1 ∷ [])
    -- a type: no byte, a byte that is no name's
    ∷ row zst (with_field 2 ([] ∷ (65 ∷ []) ∷ [])) (times 2 4 3)
    -- a production: no symbol; an undeclared target, symbol, argument; an argument too few, too many; as laid out; the same twice
    ∷ row zst
    (with_field 3 ((0 ∷ []) ∷ (1 ∷ 0 ∷ []) ∷ (0 ∷ 2 ∷ []) ∷ (0 ∷ 1 ∷ 1 ∷ []) ∷ (0 ∷ 1 ∷ []) ∷ (0 ∷ 0 ∷ 0 ∷ []) ∷ (0 ∷ 1 ∷ 0 ∷ []) ∷ []))
    (times 6 4 3 ++ (0 ∷ 0 ∷ []))
    ∷ row (zst ++ encode_field 3 (0 ∷ 0 ∷ [])) (with_field 3 ((0 ∷ 0 ∷ []) ∷ [])) (0 ∷ 0 ∷ [])
    -- a clause: no counts, no head, no term; an undeclared predicate, symbol, variable; a byte over; no body; a variable in the head alone, an unused one
    ∷ row zstp
    (with_field 5 ([] ∷ (0 ∷ []) ∷ (0 ∷ 0 ∷ []) ∷ (0 ∷ 0 ∷ 0 ∷ []) ∷ (0 ∷ 0 ∷ 1 ∷ 0 ∷ []) ∷ (0 ∷ 0 ∷ 0 ∷ 2 ∷ []) ∷ (1 ∷ 0 ∷ 0 ∷ 129 ∷ []) ∷ (0 ∷ 0 ∷ 0 ∷ 0 ∷ 0 ∷ [])
    ∷ (0 ∷ 1 ∷ 0 ∷ 0 ∷ []) ∷ (1 ∷ 0 ∷ 0 ∷ 128 ∷ []) ∷ (1 ∷ 0 ∷ 0 ∷ 0 ∷ []) ∷ []))
    (times 9 4 4 ++ times 2 0 0)
    -- a query: no count, no condition, no atom; of an undeclared type, a byte that is no condition, not of an undeclared type; an undeclared variable; a byte over; of a type, not of it
    ∷ row zstp
    (with_field 6 ([] ∷ (1 ∷ []) ∷ (1 ∷ 255 ∷ []) ∷ (1 ∷ 1 ∷ 0 ∷ 128 ∷ []) ∷ (1 ∷ 127 ∷ 0 ∷ 128 ∷ []) ∷ (1 ∷ 129 ∷ 0 ∷ 128 ∷ []) ∷ (1 ∷ 255 ∷ 0 ∷ 129 ∷ [])
    ∷ (1 ∷ 255 ∷ 0 ∷ 128 ∷ 0 ∷ []) ∷ (1 ∷ 0 ∷ 0 ∷ 128 ∷ []) ∷ (1 ∷ 128 ∷ 0 ∷ 128 ∷ []) ∷ []))
    (times 8 4 4 ++ times 2 0 0)
    -- variables and body atoms; contents of 250 and 251 bytes
    ∷ row (a_p ++ encode_field 5 (6 ∷ 4 ∷ replicate 5 0)) accepts (0 ∷ 0 ∷ [])
    ∷ row (a_p ++ encode_field 5 (7 ∷ 4 ∷ replicate 5 0)) accepts (4 ∷ 2 ∷ [])
    ∷ row (a_p ++ encode_field 5 (6 ∷ 5 ∷ replicate 6 0)) accepts (4 ∷ 2 ∷ [])
    ∷ row (a_p ++ encode_field 6 (6 ∷ replicate 6 255 ++ (0 ∷ []))) accepts (0 ∷ 0 ∷ [])
    ∷ row (a_p ++ encode_field 6 (7 ∷ replicate 7 255 ++ (0 ∷ []))) accepts (4 ∷ 2 ∷ [])
    ∷ row (deep 246) accepts (0 ∷ 0 ∷ [])
    ∷ row (deep 247) accepts (4 ∷ 3 ∷ [])
    -- the free condition; 16 and 17 states
    ∷ row (asked 255) verdicts (1 ∷ [])
    ∷ row (asked 254) accepts (4 ∷ 3 ∷ [])
    ∷ row (subsets 16 4 []) accepts (0 ∷ 0 ∷ [])
    ∷ row (subsets 17 5 (encode_field 3 (4 ∷ 16 ∷ []))) accepts (8 ∷ 55 ∷ [])
    ∷ []

-- 003's Example 3: a/0, the empty list n/0, c/2 of a head and the rest; types list, listlist, any
example3 : List ℕ
example3 =
    symbol 0 (97 ∷ []) ++ symbol 0 (110 ∷ []) ++ symbol 2 (99 ∷ []) ++ many 3 (λ t. encode_field 2 ((97 + t) ∷ []))
    ++ encode_field 3 (0 ∷ 1 ∷ []) ++ encode_field 3 (0 ∷ 2 ∷ 2 ∷ 0 ∷ []) ++ encode_field 3 (1 ∷ 1 ∷ []) ++ encode_field 3 (1 ∷ 2 ∷ 0 ∷ 1 ∷ [])
    ++ encode_field 3 (2 ∷ 0 ∷ []) ++ encode_field 3 (2 ∷ 1 ∷ []) ++ encode_field 3 (2 ∷ 2 ∷ 2 ∷ 2 ∷ [])

-- E's symbols, types and productions; h/0 and t/3; t(z, z, s(z)); t(X, Y, W) asked with X and Y even and 𝓛 odd, and with X odd and Y and 𝓛 even
ordered : List ℕ
ordered =
    symbol 0 (122 ∷ []) ++ symbol 1 (115 ∷ []) ++ many 2 (λ t. encode_field 2 ((97 + t) ∷ []))
    ++ encode_field 3 (0 ∷ 0 ∷ []) ++ encode_field 3 (0 ∷ 1 ∷ 1 ∷ []) ++ encode_field 3 (1 ∷ 1 ∷ 0 ∷ []) ++ encode_field 4 (0 ∷ 104 ∷ []) ++ encode_field 4 (3 ∷ 116 ∷ [])
    ++ encode_field 5 (0 ∷ 0 ∷ 1 ∷ 0 ∷ 0 ∷ 1 ∷ 0 ∷ [])
    ++ encode_field 6 (3 ∷ 0 ∷ 0 ∷ 1 ∷ 1 ∷ 128 ∷ 129 ∷ 130 ∷ []) ++ encode_field 6 (3 ∷ 1 ∷ 0 ∷ 0 ∷ 1 ∷ 128 ∷ 129 ∷ 130 ∷ [])

-- nine types and a constant of the last alone, so that the state is 256
wide : List ℕ
wide = a ++ many 9 (λ t. encode_field 2 ((97 + t) ∷ [])) ++ encode_field 3 (8 ∷ 0 ∷ [])

-- What stands first: of a production's arguments, a cell's row, an atom's terms, a query's conditions and a state's bytes.
orders : List Row
orders =
    row example3 states (4 ∷ 5 ∷ 7 ∷ [])
    ∷ row example3 cells (0 ∷ 2 ∷ 0 ∷ 1 ∷ 1 ∷ 0 ∷ 1 ∷ 2 ∷ 0 ∷ 1 ∷ 2 ∷ [])
    ∷ row ordered (analysis 2 3 9 2) (0 ∷ 0 ∷ 2 ∷ 1 ∷ 1 ∷ 1 ∷ 2 ∷ 0 ∷ 1 ∷ 0 ∷ 0 ∷ 0 ∷ 1 ∷ replicate 6 0 ++ (1 ∷ 0 ∷ []))
    ∷ row wide (writing 1 1 0 0 5) (0 ∷ 0 ∷ 1 ∷ 0 ∷ 0 ∷ 5 ∷ 256 ∷ 0 ∷ 0x10 ∷ 0 ∷ 2 ∷ 1 ∷ 0 ∷ [])
    ∷ row wide (check (0x10 ∷ 0 ∷ 2 ∷ 1 ∷ 0 ∷ [])) (0 ∷ 0 ∷ [])
    ∷ []

-- what E's buffers hold afterwards
done_e : List ℕ
done_e = 1 ∷ 2 ∷ 0 ∷ 1 ∷ 0 ∷ 1 ∷ 0 ∷ 0 ∷ 1 ∷ []

-- The calls: with exact, longer and one-short buffers; refused.
calls : List Row
calls =
    row E (analysis 2 3 2 2) (0 ∷ 0 ∷ 2 ∷ 1 ∷ 1 ∷ done_e)
    ∷ row E (analysis 3 4 3 3) (0 ∷ 0 ∷ 2 ∷ 1 ∷ 1 ∷ 1 ∷ 2 ∷ 9 ∷ 0 ∷ 1 ∷ 0 ∷ 9 ∷ 1 ∷ 0 ∷ 9 ∷ 0 ∷ 1 ∷ 9 ∷ [])
    ∷ row E (analysis 1 3 2 2) (9 ∷ 0 ∷ 0 ∷ 0 ∷ 0 ∷ replicate 8 9)
    ∷ row E (analysis 2 2 2 2) (9 ∷ 0 ∷ 0 ∷ 0 ∷ 0 ∷ replicate 8 9)
    ∷ row E (analysis 2 3 1 2) (9 ∷ 0 ∷ 0 ∷ 0 ∷ 0 ∷ replicate 8 9)
    ∷ row E (analysis 2 3 2 1) (9 ∷ 0 ∷ 0 ∷ 0 ∷ 0 ∷ replicate 8 9)
    ∷ row I (analysis 2 3 4 0) (0 ∷ 0 ∷ 2 ∷ 2 ∷ 2 ∷ 1 ∷ 2 ∷ 0 ∷ 1 ∷ 0 ∷ 1 ∷ 0 ∷ 0 ∷ 1 ∷ [])
    ∷ row [] (analysis 1 0 0 0) (7 ∷ 0 ∷ 0 ∷ 0 ∷ 0 ∷ 9 ∷ [])
    ∷ row E (writing 2 3 2 2 16) (0 ∷ 0 ∷ 2 ∷ 1 ∷ 1 ∷ 15 ∷ done_e ++ sheet_e ++ (9 ∷ []))
    ∷ row I (writing 2 3 4 0 20) (0 ∷ 0 ∷ 2 ∷ 2 ∷ 2 ∷ 20 ∷ 1 ∷ 2 ∷ 0 ∷ 1 ∷ 0 ∷ 1 ∷ 0 ∷ 0 ∷ 1 ∷ two_states ++ (0x11 ∷ 0 ∷ 2 ∷ 0 ∷ 0 ∷ 0x11 ∷ 0 ∷ 2 ∷ 1 ∷ 1 ∷ []))
    ∷ row head_only (writing 2 3 2 2 20) (0 ∷ 0 ∷ 2 ∷ 2 ∷ 1 ∷ 20 ∷ 1 ∷ 2 ∷ 0 ∷ 1 ∷ 0 ∷ 1 ∷ 1 ∷ 1 ∷ 1 ∷ two_states ++ (0x11 ∷ 0 ∷ 2 ∷ 0 ∷ 0 ∷ 0x11 ∷ 0 ∷ 2 ∷ 0 ∷ 1 ∷ []))
    ∷ row E (writing 2 3 2 2 14) (14 ∷ 0 ∷ 0 ∷ 0 ∷ 0 ∷ 0 ∷ done_e ++ replicate 14 9)
    ∷ row E (writing 2 3 2 1 14) (9 ∷ 0 ∷ 0 ∷ 0 ∷ 0 ∷ 0 ∷ replicate 22 9)
    ∷ row E (checking sheet_e 4 3) (0 ∷ 0 ∷ 0 ∷ 1 ∷ 0 ∷ 9 ∷ 0 ∷ 0 ∷ 9 ∷ [])
    ∷ row E (checking two_states 3 2) (13 ∷ 0 ∷ 0 ∷ 1 ∷ 0 ∷ 0 ∷ 0 ∷ [])
    ∷ row E (checking (sheet_e ++ two_states) 3 2) (10 ∷ 3 ∷ 0 ∷ 1 ∷ 0 ∷ 0 ∷ 0 ∷ [])
    ∷ row E (checking (0x10 ∷ 0 ∷ 2 ∷ 0 ∷ 1 ∷ []) 3 2) (11 ∷ 1 ∷ 0 ∷ 1 ∷ 0 ∷ 0 ∷ 0 ∷ [])
    ∷ row E (checking (two_states ++ (0x10 ∷ 0 ∷ 2 ∷ 0 ∷ 3 ∷ [])) 3 2) (11 ∷ 2 ∷ 0 ∷ 1 ∷ 0 ∷ 0 ∷ 0 ∷ [])
    ∷ row E (checking (sheet_e ++ (0x11 ∷ 0 ∷ 2 ∷ 0 ∷ 0 ∷ [])) 3 2) (12 ∷ 3 ∷ 0 ∷ 1 ∷ 0 ∷ 0 ∷ 0 ∷ [])
    ∷ row E (checking (two_states ++ (0x11 ∷ 0 ∷ 2 ∷ 0 ∷ 2 ∷ [])) 3 2) (12 ∷ 2 ∷ 0 ∷ 1 ∷ 0 ∷ 0 ∷ 0 ∷ [])
    -- 10: cut, another tag, a state of 1 and of 3 bytes; an atom of no byte, of an undeclared predicate, with a state too few, too many
    ∷ row E (checks ((0x10 ∷ []) ∷ (0x0F ∷ 0 ∷ 0 ∷ []) ∷ (0x12 ∷ 0 ∷ 0 ∷ []) ∷ (0x10 ∷ 0 ∷ 1 ∷ 1 ∷ []) ∷ (0x10 ∷ 0 ∷ 3 ∷ 0 ∷ 1 ∷ 0 ∷ []) ∷ [])) (times 5 10 0)
    ∷ row E (checks (map (λ (atom : List ℕ). two_states ++ encode_field 0x11 atom) ([] ∷ (1 ∷ 0 ∷ []) ∷ (0 ∷ []) ∷ (0 ∷ 0 ∷ 0 ∷ []) ∷ []))) (times 4 10 2)
    -- 11: no state, another state; before 12; 13 at a later clause
    ∷ row E (checks ([] ∷ (0x10 ∷ 0 ∷ 2 ∷ 0 ∷ 2 ∷ []) ∷ (0x10 ∷ 0 ∷ 2 ∷ 0 ∷ 1 ∷ 0x11 ∷ 0 ∷ 2 ∷ 0 ∷ 7 ∷ []) ∷ [])) (times 2 11 0 ++ (11 ∷ 1 ∷ []))
    ∷ row I (check sheet_e) (13 ∷ 1 ∷ [])
    ∷ row E (checking sheet_e 2 2) (9 ∷ 0 ∷ replicate 4 9)
    ∷ row E (checking sheet_e 3 1) (9 ∷ 0 ∷ replicate 4 9)
    ∷ []

holds : Row → Bool
holds r = same (ask r.asked r.file) r.says

cases : T (all_of holds (rows ++ limits ++ orders ++ calls))
unfolding rows limits orders calls letters type_t zst zstp times example3 ordered wide holds ask nines bytes_of analysis_bytes writing_bytes check_bytes done_e E two_states sheet_e sheet_g X Y z s p q p₂ clause query name to even_odd_rules even_odd rules_e I J constant_only no_type no_such_set two_places head_only free_in unused_variable a many symbol a_p deep subsets asked encode_rules fields first_field term_within read_terms read_atom read_atoms read_clause read_conditions read_query refusal first_refused signature step determinise cell_of tables rules_in rules_of states_for read_answer file_answer brings next stage rounds model is_open encode_sheet violated check_fields answer_of_sheet marked_atoms symbol_arities predicate_arities states_of step_of interpretation_of tables_of rounds_of model_of atoms_of verdict_of verdicts_of analysis_answer analysed writing_answer written_in lent_answer check_answer checked
cases = tt
