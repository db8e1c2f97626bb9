-- What is handed on of an accepted file is what the model and the verdicts ask for, and gives those that `meaning` fixes. Assumes nothing.
use Rattle.meaning.proofs.Prelude.{ℕ, ◌≤◌, ◌<◌, ◌≡◌, refl, sym, ap, ◌∙◌, subst, subst₂, ap₂, Option, none, some, option_get_or, List, [], ◌∷◌, map}
use Rattle.meaning.proofs.Prelude.{◌++◌, T, lit<, lit≤, length, length-append, length-map, get_or, drop, le_trans, arith}
use Rattle.meaning.proofs.Definitions.{All, lowest, look_up, Clause, Query, tag_of, Kind, symbol, predicate, clause, query, fields, Declared}
use Rattle.meaning.proofs.Definitions.{WellClause, WellQuery, is_some, read_clause, read_query, accepted, arities_in, bit, start, cells, marked, model}
use Rattle.meaning.proofs.Definitions.{rounds, is_open, marked_atoms, violated_at, read_all, rules_of, file_answer, symbol_arities, predicate_arities}
use Rattle.meaning.proofs.Definitions.{states_of, step_of, interpretation_of, tables_of, rounds_of, model_of, atoms_of, verdict_of, verdicts_of, written}
use Rattle.meaning.proofs.Lists.{All-map, lowest_ext}
use Rattle.meaning.proofs.Contents.{query-well}
use Rattle.meaning.proofs.States.{cell_range, length-tables}
use Rattle.meaning.proofs.Setting.{InRange}
use Rattle.meaning.proofs.Calls.{marks-length}
use Rattle.meaning.proofs.Interpretations.{model-same, rounds-same, open_same, violated_at-same}
use Rattle.declarations.specs.declared.Known.{Known}
use Rattle.declarations.specs.Known.{Knows, fields_read}
use Rattle.declarations.specs.Tests.{known_types, known_symbols, known_predicates, earlier_in}
use Rattle.declarations.proofs.Knowing.{count_of, known_types_lem, known_symbols_lem, known_predicates_lem}
use Rattle.parser.proofs.Whole.{well, knows_all, earlier, reads}
use Rattle.parser.proofs.Limits.{accepted-read, accepted-few, predicates-few, predicates-small, states-some, predicates_known}
use Rattle.acceptance.proofs.Ready.{limited}
use Rattle.evaluation.proofs.Definitions.{Setting, clause_of, clauses_in, Readable, no_atom, query_of, Short, Modelling}
use Rattle.evaluation.proofs.Tables.{look_up-tables, range_states}
use Rattle.acceptance.specs.Handed.{Queries, verdict_in}
use Rattle.evaluation.proofs.Content.{clauses-well}

-- contents that can be read say what is read of them
read-map : {A : Type 0} (reader : List ℕ → Option A) (a : A) (cs : List (List ℕ))
    → All (λ (c : List ℕ). T (is_some (reader c))) cs
    → map (λ (c : List ℕ). option_get_or (reader c) a) cs ≡ read_all reader cs
read-map reader a [] h = refl
read-map {A} reader a (c ∷ cs) h =
    ap₂ (λ (front later : List A). front ++ later) (go (reader c) h.0) (read-map reader a cs h.1)
  where
    go : (o : Option A) → T (is_some o) → option_get_or o a ∷ [] ≡ (elim o as (λ _. List A) [ none ↦ [] | some b ↦ b ∷ [] ])
    go none t = absurd t
    go (some b) t = refl

map_through : (f : List ℕ → ℕ) (g : Query → ℕ) (q : List ℕ → Query) (cs : List (List ℕ)) → All (λ (c : List ℕ). f c ≡ g (q c)) cs → map f cs ≡ map g (map q cs)
map_through f g q [] h = refl
map_through f g q (c ∷ cs) h = ap₂ (λ (n : ℕ) (l : List ℕ). n ∷ l) h.0 (map_through f g q cs h.1)

module _ (file : List ℕ) (known : Known) (e : file_answer file ≡ accepted) (knows : Knows known (fields_read file)) where
  abbrev m : ℕ
  m = length (states_of file)

  few : m ≤ 16
  few = accepted-few file e

  symbols_are_lem : known_symbols known ≡ symbol_arities file
  unfolding symbol_arities
  symbols_are_lem = (reads file known (accepted-read file e) knows).symbols

  preds_are_lem : known_predicates known ≡ predicate_arities file
  preds_are_lem = predicates_known file e known knows

  range : InRange (symbol_arities file) m (interpretation_of file)
  unfolding states_of interpretation_of step_of
  range = cell_range (symbol_arities file) (length (rules_of file).types) (rules_of file).productions few

  -- the symbols are few and narrow
  pub few-symbols : length (known_symbols known) ≤ 24
  few-symbols = (limited file known (accepted-read file e) knows).symbols

  pub binary-symbols : All (λ n. n ≤ 2) (known_symbols known)
  binary-symbols = (limited file known (accepted-read file e) knows).small

  pub narrow-symbols : All (λ n. n ≤ 4) (known_symbols known)
  narrow-symbols = All-map (known_symbols known) (λ n le. le_trans le (lit≤ tt)) binary-symbols

  -- the predicates are few and narrow
  pub few-predicates : length (known_predicates known) ≤ 16
  few-predicates = subst (λ (ps : List ℕ). length ps ≤ 16) (sym preds_are_lem) (predicates-few file e)

  pub narrow-predicates : All (λ n. n ≤ 3) (known_predicates known)
  narrow-predicates = subst (All (λ n. n ≤ 3)) (sym preds_are_lem) (predicates-small file e)

  pub fit_predicates : All (λ n. n ≤ 4) (known_predicates known)
  fit_predicates = All-map (known_predicates known) (λ n le. le_trans le (lit≤ tt)) narrow-predicates

  -- the clauses' contents, and the queries'
  pub clauses-read : Readable (known_symbols known) (known_predicates known) (earlier_in file known 5)
  clauses-read =
      let read = accepted-read file e in
      let all = knows_all file known read knows in
      let found = earlier file known read knows clause in
      subst₂ (λ (ss ps : List ℕ). Readable ss ps (earlier_in file known 5)) (sym (known_symbols_lem known (fields file) all)) (sym (known_predicates_lem known (fields file) all))
      (subst (Readable (arities_in symbol (fields file)) (arities_in predicate (fields file))) (sym found) ((well file known read knows).laid clause))

  pub clauses-counted : length (earlier_in file known 5) ≡ get_or known.counts 5 0
  clauses-counted =
      let read = accepted-read file e in
      ap length (earlier file known read knows clause) ∙ sym (count_of known (fields file) (knows_all file known read knows) 5 (lit< tt))

  -- contents are within the limits
  pub contents-short : (k : Kind) → Short (earlier_in file known (tag_of k))
  contents-short k =
      let read = accepted-read file e in
      subst Short (sym (earlier file known read knows k)) ((well file known read knows).sizes k)

  pub clauses-most : length (earlier_in file known 5) ≤ 64
  clauses-most =
      let read = accepted-read file e in
      subst (λ (cs : List (List ℕ)). length cs ≤ 64) (sym (earlier file known read knows clause)) ((well file known read knows).counts clause)

  clauses_are : clauses_in (known_symbols known) (known_predicates known) (earlier_in file known 5) ≡ (rules_of file).clauses
  unfolding clause_of
  clauses_are =
      read-map (read_clause (known_symbols known) (known_predicates known)) _ (earlier_in file known 5) clauses-read
      ∙ (reads file known (accepted-read file e) knows).clauses

  pub queries-read : Queries (known_types known) (known_symbols known) (known_predicates known) (earlier_in file known 6)
  queries-read =
      let read = accepted-read file e in
      let all = knows_all file known read knows in
      let found = earlier file known read knows query in
      subst₂ (λ (ss ps : List ℕ). All (λ (c : List ℕ). T (is_some (read_query (known_types known) ss ps c))) (earlier_in file known 6)) (sym (known_symbols_lem known (fields file) all)) (sym (known_predicates_lem known (fields file) all))
      (subst₂ (λ (n : ℕ) (cs : List (List ℕ)). All (λ (c : List ℕ). T (is_some (read_query n (arities_in symbol (fields file)) (arities_in predicate (fields file)) c))) cs) (sym (known_types_lem known (fields file) all)) (sym found) ((well file known read knows).laid query))

  pub queries-counted : length (earlier_in file known 6) ≡ get_or known.counts 6 0
  queries-counted =
      let read = accepted-read file e in
      ap length (earlier file known read knows query) ∙ sym (count_of known (fields file) (knows_all file known read knows) 6 (lit< tt))

  -- the marks are as many as the predicates' cells, the atoms those of the model
  pub model-size : cells m (known_predicates known) ≡ length (model_of file)
  model-size = ap (cells m) preds_are_lem ∙ sym (marks-length file)

  pub atoms_are : length (marked_atoms m (known_predicates known) (model_of file)) ≡ length (atoms_of file)
  unfolding atoms_of
  atoms_are = ap (λ (ps : List ℕ). length (marked_atoms m ps (model_of file))) preds_are_lem

  -- the file's tables in a buffer
  module _ (buffer : List ℕ) where
    abbrev table : List ℕ
    table = written (tables_of file) buffer

    agrees : (f : ℕ) (row : List ℕ)
        → Declared (known_symbols known) f (length row)
        → All (λ d. d < m) row
        → look_up m (known_symbols known) table f row ≡ interpretation_of file f row
    unfolding tables_of interpretation_of
    agrees f row d h =
        ap (λ (ss : List ℕ). look_up m ss table f row) symbols_are_lem
        ∙ look_up-tables (step_of file) (states_of file) (symbol_arities file) (drop (length (tables_of file)) buffer) f row (subst (λ (ss : List ℕ). Declared ss f (length row)) symbols_are_lem d) h

    table_range : InRange (known_symbols known) m (look_up m (known_symbols known) table)
    table_range f row d h = subst (λ (n : ℕ). n < m) (sym (agrees f row d h)) (range f row (subst (λ (ss : List ℕ). Declared ss f (length row)) symbols_are_lem d) h)

    -- a start for each symbol, and one for each predicate
    module _ (starts segments : List ℕ) (wide : length (known_symbols known) ≤ length starts) (begins : (f : ℕ) → f < length (known_symbols known) → get_or starts f 0 ≡ start m (known_symbols known) f) where
      pub setting : Setting m (known_symbols known) starts table
      unfolding tables_of
      setting =
          record {
            few = few;
            enough = wide;
            started = begins;
            room =
                let size = length-tables (step_of file) (states_of file) (symbol_arities file) in
                let same : cells m (known_symbols known) ≡ cells m (symbol_arities file) = ap (cells m) symbols_are_lem in
                omega (arith, size, same, length-append (tables_of file) (drop (length (tables_of file)) buffer));
            states = range_states m (known_symbols known) table table_range;
          }

      module _ (many : length (known_predicates known) ≤ length segments) (parts : (p : ℕ) → p < length (known_predicates known) → get_or segments p 0 ≡ start m (known_predicates known) p) where
        pub modelling : Modelling m (known_symbols known) starts table (known_predicates known) segments (earlier_in file known 5)
        modelling =
            record {
              some = states-some file e;
              setting = setting;
              symbols = few-symbols;
              binary = binary-symbols;
              few = few-predicates;
              narrow = narrow-predicates;
              enough = many;
              segmented = parts;
              readable = clauses-read;
              short = contents-short clause;
              most = clauses-most;
            }

    -- the model and its round count
    well-clauses : All (WellClause (known_symbols known) (known_predicates known)) (clauses_in (known_symbols known) (known_predicates known) (earlier_in file known 5))
    well-clauses = clauses-well (known_symbols known) (known_predicates known) (earlier_in file known 5) clauses-read

    pub model_is : model m (look_up m (known_symbols known) table) (known_predicates known) (clauses_in (known_symbols known) (known_predicates known) (earlier_in file known 5)) ≡ model_of file
    unfolding model_of
    model_is =
        model-same (known_symbols known) m (look_up m (known_symbols known) table) (interpretation_of file) table_range agrees (known_predicates known)
        (clauses_in (known_symbols known) (known_predicates known) (earlier_in file known 5))
        well-clauses
        ∙ ap₂ (model m (interpretation_of file)) preds_are_lem clauses_are

    pub rounds_are : rounds m (look_up m (known_symbols known) table) (known_predicates known) (clauses_in (known_symbols known) (known_predicates known) (earlier_in file known 5)) ≡ rounds_of file
    unfolding rounds_of
    rounds_are =
        rounds-same (known_symbols known) m (look_up m (known_symbols known) table) (interpretation_of file) table_range agrees (known_predicates known)
        (clauses_in (known_symbols known) (known_predicates known) (earlier_in file known 5))
        well-clauses
        ∙ ap₂ (rounds m (interpretation_of file)) preds_are_lem clauses_are

    -- the lowest clause with a violation in some atoms
    pub violations_are : (atoms : List (List ℕ))
        → lowest (length (clauses_in (known_symbols known) (known_predicates known) (earlier_in file known 5))) (violated_at m (look_up m (known_symbols known) table) atoms (clauses_in (known_symbols known) (known_predicates known) (earlier_in file known 5)))
        ≡ lowest (length (rules_of file).clauses) (violated_at m (interpretation_of file) atoms (rules_of file).clauses)
    violations_are atoms =
        lowest_ext (length (clauses_in (known_symbols known) (known_predicates known) (earlier_in file known 5))) _ _ (λ i lt.
        violated_at-same (known_symbols known) m (look_up m (known_symbols known) table) (interpretation_of file) table_range agrees (known_predicates known) atoms
        (clauses_in (known_symbols known) (known_predicates known) (earlier_in file known 5))
        well-clauses
        i)
        ∙ ap (λ (cs : List Clause). lowest (length cs) (violated_at m (interpretation_of file) atoms cs)) clauses_are

    -- the verdicts
    well-query : (c : List ℕ) → T (is_some (read_query (known_types known) (known_symbols known) (known_predicates known) c)) → WellQuery (known_types known) (known_symbols known) (known_predicates known) (query_of (known_types known) (known_symbols known) (known_predicates known) c)
    unfolding query_of
    well-query c = go (read_query (known_types known) (known_symbols known) (known_predicates known) c) refl
      where
        go : (o : Option Query)
            → read_query (known_types known) (known_symbols known) (known_predicates known) c ≡ o
            → T (is_some o)
            → WellQuery (known_types known) (known_symbols known) (known_predicates known) (option_get_or o (record { conditions = []; atom = no_atom }))
        go none is t = absurd t
        go (some q) is t = query-well (known_types known) (known_symbols known) (known_predicates known) c q is

    queries_are : map (query_of (known_types known) (known_symbols known) (known_predicates known)) (earlier_in file known 6) ≡ (rules_of file).queries
    unfolding query_of
    queries_are =
        read-map (read_query (known_types known) (known_symbols known) (known_predicates known)) _ (earlier_in file known 6) queries-read
        ∙ (reads file known (accepted-read file e) knows).queries

    pub verdicts_are_lem : map (verdict_in (known_types known) m (states_of file) (known_symbols known) table (known_predicates known) (model_of file)) (earlier_in file known 6) ≡ verdicts_of file
    unfolding verdicts_of verdict_of
    verdicts_are_lem =
        map_through _ (verdict_of file) (query_of (known_types known) (known_symbols known) (known_predicates known)) (earlier_in file known 6)
        (All-map (earlier_in file known 6) (λ c t.
        ap bit
        (open_same (known_symbols known) m (look_up m (known_symbols known) table) (interpretation_of file) table_range agrees (known_predicates known) (known_types known) (states_of file)
        (marked m (known_predicates known) (model_of file))
        (query_of (known_types known) (known_symbols known) (known_predicates known) c)
        (well-query c t)
        ∙ ap (λ (ps : List ℕ). is_open (states_of file) m (interpretation_of file) (marked m ps (model_of file)) (query_of (known_types known) (known_symbols known) (known_predicates known) c)) preds_are_lem)) queries-read)
        ∙ ap (map (verdict_of file)) queries_are

  -- a byte for each query
  pub verdicts_needed : length (verdicts_of file) ≡ get_or known.counts 6 0
  verdicts_needed =
      ap length (sym (verdicts_are_lem []))
      ∙ (length-map (earlier_in file known 6) (verdict_in (known_types known) m (states_of file) (known_symbols known) (written (tables_of file) []) (known_predicates known) (model_of file)) ∙ queries-counted)
