-- Rules as bytes (01, "The rule file"): the symbols' fields, then the types', and so on, each kind in order.
use Rattle.std.specs.Prelude.{ℕ, ◌+◌, List, [], ◌∷◌, ◌++◌, map, length}
use Rattle.meaning.specs.Lists.{joined}
use Rattle.meaning.specs.Syntax.{Term, Terms, var, app, end, ◌▸◌, Named, Production, Atom, Clause, Condition, is_of, not_of, free, Query, Rules}
use Rattle.meaning.specs.Limits.{Kind, symbol, type, production, predicate, clause, query, tag_of, first_variable, free_byte}
use Rattle.meaning.specs.Fields.{encode_field}

abbrev mutual
  pub encode_term : Term → List ℕ
  encode_term (var i) = (first_variable + i) ∷ []
  encode_term (app f ts) = f ∷ encode_terms ts

  pub encode_terms : Terms → List ℕ
  encode_terms end = []
  encode_terms (t ▸ ts) = encode_term t ++ encode_terms ts

abbrev pub encode_atom : Atom → List ℕ
encode_atom a = a.predicate ∷ encode_terms a.arguments

abbrev pub encode_named : Named → List ℕ
encode_named n = n.arity ∷ n.name

abbrev pub encode_production : Production → List ℕ
encode_production p = p.target ∷ p.symbol ∷ p.arguments

abbrev pub encode_clause : Clause → List ℕ
encode_clause c = c.variables ∷ length c.body ∷ encode_atom c.head ++ joined (map encode_atom c.body)

abbrev pub encode_condition : Condition → ℕ
encode_condition (is_of t) = t
encode_condition (not_of t) = first_variable + t
encode_condition free = free_byte

abbrev pub encode_query : Query → List ℕ
encode_query q = length q.conditions ∷ map encode_condition q.conditions ++ encode_atom q.atom

-- the contents of a kind's fields
abbrev pub contents_for : Kind → Rules → List (List ℕ)
contents_for symbol r = map encode_named r.symbols
contents_for type r = r.types
contents_for production r = map encode_production r.productions
contents_for predicate r = map encode_named r.predicates
contents_for clause r = map encode_clause r.clauses
contents_for query r = map encode_query r.queries

-- the fields of a kind, as bytes
abbrev pub encode_kind : Rules → Kind → List ℕ
encode_kind r k = joined (map (encode_field (tag_of k)) (contents_for k r))

abbrev pub kinds : List Kind
kinds = symbol ∷ type ∷ production ∷ predicate ∷ clause ∷ query ∷ []

unfoldable pub encode_rules : Rules → List ℕ
encode_rules r = joined (map (encode_kind r) kinds)
