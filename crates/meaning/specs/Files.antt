-- What a rule file says, and the answer to it (01, "What is handed back"): 1, the first field refused by 2 to 6, 7, 8.
use Rattle.std.specs.Prelude.{ℕ, List, [], ◌∷◌, ◌++◌, map, ltb, length, get_or, take, drop}
use Rattle.std.proofs.Math.Option.{Option, none, some}
use Rattle.meaning.specs.Syntax.{Named, Production, Rules}
use Rattle.meaning.specs.Limits.{symbol, type, production, predicate, clause, query, most_file_bytes, most_states}
use Rattle.meaning.specs.Fields.{Field, cut, fields}
use Rattle.meaning.specs.Contents.{read_clause, read_query}
use Rattle.meaning.specs.Refusals.{Answer, refused, and_then, refuse_if, contents, first_byte, arities_in, types_in, refusal, first_refused, no_constant}
use Rattle.meaning.specs.Legal.{arities}
use Rattle.meaning.specs.Types.{step, signature}
use Rattle.meaning.specs.States.{determinise}

-- what can be read, in order
abbrev pub read_all : {A : Type 0} → (List ℕ → Option A) → List (List ℕ) → List A
read_all read [] = []
read_all read (content ∷ later) = elim (read content) [ none ↦ [] | some a ↦ a ∷ [] ] ++ read_all read later

abbrev pub named : List ℕ → Named
named content = record { arity = first_byte content; name = drop 1 content }

abbrev pub production_of : List ℕ → Production
production_of content = record { target = first_byte content; symbol = get_or content 1 0; arguments = drop 2 content }

-- the rules in some fields
unfoldable pub rules_in : List Field → Rules
rules_in fs =
    record {
      symbols = map named (contents symbol fs);
      types = contents type fs;
      productions = map production_of (contents production fs);
      predicates = map named (contents predicate fs);
      clauses = read_all (read_clause (arities_in symbol fs) (arities_in predicate fs)) (contents clause fs);
      queries = read_all (read_query (types_in fs) (arities_in symbol fs) (arities_in predicate fs)) (contents query fs);
    }

unfoldable pub rules_of : List ℕ → Rules
rules_of file = rules_in (fields file)

-- the states of some symbols, types and productions
unfoldable pub states_for : List ℕ → ℕ → List Production → List ℕ
states_for symbols types productions = determinise (step productions types) (signature symbols)

-- 2 to 6 at the first field that is refused, else 7: no symbol of arity 0
abbrev pub answer_at : List Field → Option ℕ → Answer
answer_at fs none = refuse_if (no_constant (arities (rules_in fs).symbols)) 7 (length fs)
answer_at fs (some k) = refused (refusal (take k fs) (get_or fs k cut)) k

-- 1 to 7: what reading the file answers
unfoldable pub read_answer : List ℕ → Answer
read_answer file = and_then (refuse_if (ltb most_file_bytes (length file)) 1 0) (answer_at (fields file) (first_refused (fields file)))

-- then 8: more than 16 states exist; the file is accepted, or refused with this number at this place
unfoldable pub file_answer : List ℕ → Answer
file_answer file =
    and_then
    (read_answer file)
    (refuse_if
    (ltb most_states (length (states_for (arities (rules_of file).symbols) (length (rules_of file).types) (rules_of file).productions)))
    8
    (length (fields file)))
