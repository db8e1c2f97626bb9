-- Rules within 01's limits, said of the rules themselves and not through a reader.
use Rattle.std.specs.Prelude.{ℕ, ◌<◌, ◌≤◌, ◌≡◌, ◌≢◌, T, length, get_or}
use mathlib.Core.List.{List, [], map, Memᴰ}
use Rattle.meaning.specs.Lists.{All}
use Rattle.meaning.specs.Syntax.{Term, Terms, var, app, end, ◌▸◌, term_count, Named, Production, Atom, Clause, Condition, is_of, not_of, free, Query, Rules}
use Rattle.meaning.specs.Limits.{Kind, most_of, most_symbol_arity, most_predicate_arity, most_variables, most_body, most_content, most_file_bytes}
use Rattle.meaning.specs.Contents.{is_name}
use Rattle.meaning.specs.Encoding.{contents_for, encode_rules}

-- the symbol or predicate of this number is declared, with arity n
abbrev pub Declared : List ℕ → ℕ → ℕ → Type 0
Declared arities number n = (number < length arities) × (get_or arities number 0 ≡ n)

abbrev pub arities : List Named → List ℕ
arities declarations = map (λ (d : Named). d.arity) declarations

abbrev pub names : List Named → List (List ℕ)
names declarations = map (λ (d : Named). d.name) declarations

module _ (symbols : List ℕ) (variables : ℕ) where
  abbrev mutual
    pub WellTerm : Term → Type 0
    WellTerm (var i) = i < variables
    WellTerm (app f ts) = Declared symbols f (term_count ts) × WellTerms ts

    pub WellTerms : Terms → Type 0
    WellTerms end = Unit
    WellTerms (t ▸ ts) = WellTerm t × WellTerms ts

  abbrev pub WellAtom : List ℕ → Atom → Type 0
  WellAtom preds a = Declared preds a.predicate (term_count a.arguments) × WellTerms a.arguments

abbrev pub WellProduction : ℕ → List ℕ → Production → Type 0
WellProduction types symbols p =
    (p.target < types) × Declared symbols p.symbol (length p.arguments) × All (λ t. t < types) p.arguments

abbrev pub WellClause : List ℕ → List ℕ → Clause → Type 0
WellClause symbols preds c =
    (c.variables ≤ most_variables)
    × (length c.body ≤ most_body)
    × WellAtom symbols c.variables preds c.head
    × All (WellAtom symbols c.variables preds) c.body

abbrev pub WellCondition : ℕ → Condition → Type 0
WellCondition types (is_of t) = t < types
WellCondition types (not_of t) = t < types
WellCondition types free = Unit

abbrev pub WellQuery : ℕ → List ℕ → List ℕ → Query → Type 0
WellQuery types symbols preds q =
    (length q.conditions ≤ most_variables)
    × All (WellCondition types) q.conditions
    × WellAtom symbols (length q.conditions) preds q.atom

-- no list twice
abbrev pub NoneTwice : List (List ℕ) → Type 0
NoneTwice ls = (i j : ℕ) → i < j → j < length ls → get_or ls i [] ≢ get_or ls j []

pub record Legal (r : Rules) : Type 0 where
  pub symbols : All (λ (s : Named). (s.arity ≤ most_symbol_arity) × T (is_name s.name)) r.symbols
  pub types : All (λ (name : List ℕ). T (is_name name)) r.types
  pub productions : All (WellProduction (length r.types) (arities r.symbols)) r.productions
  pub predicates : All (λ (p : Named). (p.arity ≤ most_predicate_arity) × T (is_name p.name)) r.predicates
  pub clauses : All (WellClause (arities r.symbols) (arities r.predicates)) r.clauses
  pub queries : All (WellQuery (length r.types) (arities r.symbols) (arities r.predicates)) r.queries
  pub counts : (k : Kind) → length (contents_for k r) ≤ most_of k
  pub sizes : (k : Kind) → All (λ (content : List ℕ). length content ≤ most_content) (contents_for k r)
  pub file_bytes : length (encode_rules r) ≤ most_file_bytes
  pub symbol_names : NoneTwice (names r.symbols)
  pub type_names : NoneTwice r.types
  pub predicate_names : NoneTwice (names r.predicates)
  pub constant : Memᴰ 0 (arities r.symbols)
