-- A file is accepted exactly if it is the encoding of legal rules with at most 16 states, and then it says those rules. Assumes nothing.
use Rattle.meaning.proofs.Prelude.{ℕ, ◌≤◌, ◌<◌, ◌≡◌, refl, sym, ap, ◌∙◌, subst, subst₂, ap₂, subst₃, fun_ext, ◌≢◌, inl, inr, ◌↔◌, cond, Bool}
use Rattle.meaning.proofs.Prelude.{true, false, not, Option, none, some, List, [], ◌∷◌, map, ◌++◌, Memᴰ, map-append, append-nil, T, lit≤}
use Rattle.meaning.proofs.Prelude.{eqb, length, length-map, get_or, take, drop, le_trans, le_of_eq, not-le_of_lt, dec_le, arith}
use Rattle.meaning.proofs.Definitions.{All, joined, Named, Production, Clause, Query, Rules, Kind, symbol, type, production, predicate, clause}
use Rattle.meaning.proofs.Definitions.{query, tag_of, most_of, most_symbol_arity, most_predicate_arity, most_file_bytes, most_content, most_states}
use Rattle.meaning.proofs.Definitions.{first_variable, Bytes, Field, whole, cut, fields, contents_of, encode_field, is_some, is_name, is_named}
use Rattle.meaning.proofs.Definitions.{is_production, read_clause, read_query, encode_named, encode_production, encode_clause, encode_query}
use Rattle.meaning.proofs.Definitions.{contents_for, encode_kind, kinds, encode_rules, arities, names, WellProduction, WellClause, WellQuery}
use Rattle.meaning.proofs.Definitions.{NoneTwice, Legal, names_in, is_refused, refused, accepted, contents, first_byte, arities_in, types_in}
use Rattle.meaning.proofs.Definitions.{laid_out_after, is_cut, first_refused, MoreStates, read_all, named, production_of, rules_in, rules_of}
use Rattle.meaning.proofs.Definitions.{states_for, file_answer, NoneFits, NoneRefused, HasConstant, Given, Accepted, Acceptable}
use Rattle.meaning.proofs.Lists.{joined-append, All-map}
use Rattle.meaning.proofs.Contents.{is_some_give, cons_same, condition_types, is_named-exact, is_production-exact, read_clause-back, read_clause-exact, read_query-back, read_query-exact}
use Rattle.meaning.proofs.Fields.{NoField, first_field-none, fields-nil, fields-joined, fields-length, fields-whole, encode_whole, contents_of-append}
use Rattle.meaning.proofs.ByKind.{tag_range, TagsRise, rising_weaken, rising-map, rising-by_tag, none_twice_one, WellFields, well-fine, fine-well}
use Rattle.meaning.proofs.States.{more-states}
use Rattle.meaning.proofs.Answers.{none-refused, accepted-exact, refused-exact, symbols_of, states_of_file, GivenByCount}

-- The fields of rules
abbrev kind_fields : Rules → Kind → List Field
kind_fields r k = map (whole (tag_of k)) (contents_for k r)

abbrev pub fields_for : Rules → List Field
fields_for r = joined (map (kind_fields r) kinds)

-- as bytes, and back
fields-kinds : (r : Rules) (ks : List Kind) → fields (joined (map (encode_kind r) ks)) ≡ joined (map (kind_fields r) ks)
fields-kinds r [] = fields-nil
fields-kinds r (k ∷ ks) =
    fields-joined (tag_of k) (contents_for k r) (joined (map (encode_kind r) ks)) ∙ ap (λ (fs : List Field). kind_fields r k ++ fs) (fields-kinds r ks)

pub fields-rules : (r : Rules) → fields (encode_rules r) ≡ fields_for r
unfolding encode_rules
fields-rules r = fields-kinds r kinds

encode_kind_lem : (t : ℕ) (cs : List (List ℕ)) → joined (map encode_whole (map (whole t) cs)) ≡ joined (map (encode_field t) cs)
encode_kind_lem t [] = refl
encode_kind_lem t (c ∷ cs) = ap (λ (bytes : List ℕ). encode_field t c ++ bytes) (encode_kind_lem t cs)

encode_kinds : (r : Rules) (ks : List Kind) → joined (map encode_whole (joined (map (kind_fields r) ks))) ≡ joined (map (encode_kind r) ks)
encode_kinds r [] = refl
encode_kinds r (k ∷ ks) =
    ap joined (map-append encode_whole (kind_fields r k) (joined (map (kind_fields r) ks)))
    ∙ joined-append (map encode_whole (kind_fields r k)) (map encode_whole (joined (map (kind_fields r) ks)))
    ∙ ap₂ (λ (xs ys : List ℕ). xs ++ ys) (encode_kind_lem (tag_of k) (contents_for k r)) (encode_kinds r ks)

pub encode_fields : (r : Rules) → joined (map encode_whole (fields_for r)) ≡ encode_rules r
unfolding encode_rules
encode_fields r = encode_kinds r kinds

-- their contents by kind
contents_tagged : (t u : ℕ) (cs : List (List ℕ)) → contents_of t (map (whole u) cs) ≡ cond (eqb u t) cs []
contents_tagged t u [] = go (eqb u t)
  where
    go : (b : Bool) → ◌≡◌ {A = List (List ℕ)} [] (cond b [] [])
    go true = refl
    go false = refl
contents_tagged t u (c ∷ cs) = ap (λ (ds : List (List ℕ)). cond (eqb u t) (c ∷ []) [] ++ ds) (contents_tagged t u cs) ∙ go (eqb u t)
  where
    go : (b : Bool) → cond b (c ∷ []) [] ++ cond b cs [] ≡ cond b (c ∷ cs) []
    go true = refl
    go false = refl

contents-kinds : (r : Rules) (k : Kind) (ks : List Kind)
    → contents k (joined (map (kind_fields r) ks)) ≡ joined (map (λ (j : Kind). cond (eqb (tag_of j) (tag_of k)) (contents_for j r) []) ks)
contents-kinds r k [] = refl
contents-kinds r k (j ∷ ks) =
    contents_of-append (tag_of k) (kind_fields r j) (joined (map (kind_fields r) ks))
    ∙ ap₂ (λ (xs ys : List (List ℕ)). xs ++ ys) (contents_tagged (tag_of k) (tag_of j) (contents_for j r)) (contents-kinds r k ks)

pub contents_for_lem : (r : Rules) (k : Kind) → contents k (fields_for r) ≡ contents_for k r
contents_for_lem r symbol = contents-kinds r symbol kinds ∙ append-nil (contents_for symbol r)
contents_for_lem r type = contents-kinds r type kinds ∙ append-nil (contents_for type r)
contents_for_lem r production = contents-kinds r production kinds ∙ append-nil (contents_for production r)
contents_for_lem r predicate = contents-kinds r predicate kinds ∙ append-nil (contents_for predicate r)
contents_for_lem r clause = contents-kinds r clause kinds ∙ append-nil (contents_for clause r)
contents_for_lem r query = contents-kinds r query kinds ∙ append-nil (contents_for query r)

-- they rise
abbrev Climbing : ℕ → List Kind → Type 0
Climbing t [] = Unit
Climbing t (k ∷ ks) = (t ≤ tag_of k) × Climbing (tag_of k) ks

rising-kinds : (r : Rules) (t : ℕ) (ks : List Kind) → Climbing t ks → TagsRise t 7 (joined (map (kind_fields r) ks))
rising-kinds r t [] h = tt
rising-kinds r t (k ∷ ks) h =
    rising_weaken t (tag_of k) 7 (joined (map (kind_fields r) (k ∷ ks))) h.0
    (rising-map (tag_of k) 7 (contents_for k r) (joined (map (kind_fields r) ks)) (tag_range k).1 (rising-kinds r (tag_of k) ks h.1))

pub rising_for : (r : Rules) → TagsRise 1 7 (fields_for r)
rising_for r = rising-kinds r 1 kinds (omega arith)

-- fields with the contents of rules, kind after kind, are the fields of the rules
pub rising-fields : (r : Rules) (fs : List Field) → TagsRise 1 7 fs → ((k : Kind) → contents k fs ≡ contents_for k r) → fs ≡ fields_for r
rising-fields r fs h e = rising-by_tag 6 1 7 fs (lit≤ tt) h ∙ ap (λ (f : Kind → List (List ℕ)). joined (map (λ (k : Kind). map (whole (tag_of k)) (f k)) kinds)) (fun_ext e)

-- What is read of contents that are as laid out
module _ {A : Type 0} (encode : A → List ℕ) (W : A → Type 0) where
  map_reads : (f : List ℕ → A) (cs : List (List ℕ)) → All (λ (c : List ℕ). (c ≡ encode (f c)) × W (f c)) cs → (map encode (map f cs) ≡ cs) × All W (map f cs)
  map_reads f [] h = (refl, tt)
  map_reads f (c ∷ cs) h = let w = map_reads f cs h.1 in (cons_same (sym h.0.0) w.0, (h.0.1, w.1))

  read_all_reads : (reader : List ℕ → Option A) → ((c : List ℕ) (a : A) → reader c ≡ some a → (c ≡ encode a) × W a)
      → (cs : List (List ℕ)) → All (λ (c : List ℕ). T (is_some (reader c))) cs → (map encode (read_all reader cs) ≡ cs) × All W (read_all reader cs)
  read_all_reads reader exact [] h = (refl, tt)
  read_all_reads reader exact (c ∷ cs) h = go (reader c) refl h.0 (read_all_reads reader exact cs h.1)
    where
      go : (o : Option A) → reader c ≡ o → T (is_some o) → (map encode (read_all reader cs) ≡ cs) × All W (read_all reader cs)
          → (map encode ((elim o as (λ _. List A) [ none ↦ [] | some a ↦ a ∷ [] ]) ++ read_all reader cs) ≡ c ∷ cs) × All W ((elim o as (λ _. List A) [ none ↦ [] | some a ↦ a ∷ [] ]) ++ read_all reader cs)
      go none e t w = absurd t
      go (some a) e t w = let x = exact c a e in (cons_same (sym x.0) w.0, (x.1, w.1))

-- what is encoded is read back
read_all-back : {A : Type 0} (encode : A → List ℕ) (reader : List ℕ → Option A) (xs : List A) → All (λ (x : A). reader (encode x) ≡ some x) xs → read_all reader (map encode xs) ≡ xs
read_all-back encode reader [] h = refl
read_all-back {A} encode reader (x ∷ xs) h =
    ap₂ (λ (o : Option A) (later : List A). (elim o as (λ _. List A) [ none ↦ [] | some a ↦ a ∷ [] ]) ++ later) h.0 (read_all-back encode reader xs h.1)

-- a map, and one after another
module _ {A B : Type 0} where
  map_inverse : (f : A → B) (g : B → A) → ((x : A) → g (f x) ≡ x) → (xs : List A) → map g (map f xs) ≡ xs
  map_inverse f g e [] = refl
  map_inverse f g e (x ∷ xs) = cons_same (e x) (map_inverse f g e xs)

  pub All-over : (P : B → Type 0) (f : A → B) (xs : List A) → All (λ (x : A). P (f x)) xs → All P (map f xs)
  All-over P f [] h = tt
  All-over P f (x ∷ xs) h = (h.0, All-over P f xs h.1)

map-map : {A B C : Type 0} (g : B → C) (f : A → B) (xs : List A) → map g (map f xs) ≡ map (λ x. g (f x)) xs
map-map g f [] = refl
map-map g f (x ∷ xs) = cons_same refl (map-map g f xs)

-- arities and names, by contents
pub arities-named : (cs : List (List ℕ)) → arities (map named cs) ≡ map first_byte cs
arities-named cs = map-map (λ (d : Named). d.arity) named cs

names-named : (cs : List (List ℕ)) → names (map named cs) ≡ map (drop 1) cs
names-named cs = map-map (λ (d : Named). d.name) named cs

-- declarations that are as laid out
read_named : (most : ℕ) (cs : List (List ℕ)) → All (λ (c : List ℕ). T (is_named most c)) cs
    → (map encode_named (map named cs) ≡ cs) × All (λ (d : Named). (d.arity ≤ most) × T (is_name d.name)) (map named cs)
read_named most cs t = map_reads encode_named _ named cs (All-map cs (λ c u. let w = (is_named-exact most c).0 u in (w.0, (w.1, w.2))) t)

-- Well-formed fields say legal rules
module _ (fs : List Field) (h : WellFields fs) where
  -- few enough to be told apart by a byte
  few-symbols : length (arities_in symbol fs) ≤ first_variable
  few-symbols = le_trans (le_of_eq (length-map (contents symbol fs) first_byte)) (le_trans (h.counts symbol) (lit≤ tt))

  few-types : types_in fs ≤ condition_types
  few-types = le_trans (h.counts type) (lit≤ tt)

  -- what is read of each kind is well formed, and its encoding is the content
  pub read-productions : (map encode_production (map production_of (contents production fs)) ≡ contents production fs)
      × All (WellProduction (types_in fs) (arities_in symbol fs)) (map production_of (contents production fs))
  read-productions =
      map_reads encode_production _ production_of (contents production fs)
      (All-map (contents production fs) (λ c. (is_production-exact (types_in fs) (arities_in symbol fs) c).0) (h.laid production))

  read-clauses : (map encode_clause (read_all (read_clause (arities_in symbol fs) (arities_in predicate fs)) (contents clause fs)) ≡ contents clause fs)
      × All (WellClause (arities_in symbol fs) (arities_in predicate fs)) (read_all (read_clause (arities_in symbol fs) (arities_in predicate fs)) (contents clause fs))
  read-clauses =
      read_all_reads encode_clause (WellClause (arities_in symbol fs) (arities_in predicate fs)) (read_clause (arities_in symbol fs) (arities_in predicate fs))
      (λ c a. (read_clause-exact (arities_in symbol fs) (arities_in predicate fs) few-symbols c a).0) (contents clause fs) (h.laid clause)

  read-queries : (map encode_query (read_all (read_query (types_in fs) (arities_in symbol fs) (arities_in predicate fs)) (contents query fs)) ≡ contents query fs)
      × All (WellQuery (types_in fs) (arities_in symbol fs) (arities_in predicate fs)) (read_all (read_query (types_in fs) (arities_in symbol fs) (arities_in predicate fs)) (contents query fs))
  read-queries =
      read_all_reads encode_query (WellQuery (types_in fs) (arities_in symbol fs) (arities_in predicate fs)) (read_query (types_in fs) (arities_in symbol fs) (arities_in predicate fs))
      (λ c a. (read_query-exact (types_in fs) (arities_in symbol fs) (arities_in predicate fs) few-symbols few-types c a).0) (contents query fs) (h.laid query)

  -- the contents are those of the rules
  pub contents-rules : (k : Kind) → contents k fs ≡ contents_for k (rules_in fs)
  unfolding rules_in
  contents-rules symbol = sym (read_named most_symbol_arity (contents symbol fs) (h.laid symbol)).0
  contents-rules type = refl
  contents-rules production = sym read-productions.0
  contents-rules predicate = sym (read_named most_predicate_arity (contents predicate fs) (h.laid predicate)).0
  contents-rules clause = sym read-clauses.0
  contents-rules query = sym read-queries.0

  pub rules-legal : length (encode_rules (rules_in fs)) ≤ most_file_bytes → Memᴰ 0 (arities (rules_in fs).symbols) → Legal (rules_in fs)
  unfolding rules_in
  rules-legal fits constant =
      record {
        symbols = (read_named most_symbol_arity (contents symbol fs) (h.laid symbol)).1;
        types = h.laid type;
        productions = subst (λ (ss : List ℕ). All (WellProduction (types_in fs) ss) (map production_of (contents production fs))) (sym symbols) read-productions.1;
        predicates = (read_named most_predicate_arity (contents predicate fs) (h.laid predicate)).1;
        clauses = subst₂ (λ (ss ps : List ℕ). All (WellClause ss ps) (rules_in fs).clauses) (sym symbols) (sym preds) read-clauses.1;
        queries = subst₂ (λ (ss ps : List ℕ). All (WellQuery (types_in fs) ss ps) (rules_in fs).queries) (sym symbols) (sym preds) read-queries.1;
        counts = λ k. subst (λ (cs : List (List ℕ)). length cs ≤ most_of k) (contents-rules k) (h.counts k);
        sizes = λ k. subst (All (λ (c : List ℕ). length c ≤ most_content)) (contents-rules k) (h.sizes k);
        file_bytes = fits;
        symbol_names = subst NoneTwice (sym (names-named (contents symbol fs))) (h.names symbol);
        type_names = h.names type;
        predicate_names = subst NoneTwice (sym (names-named (contents predicate fs))) (h.names predicate);
        constant = constant;
      }
    where
      symbols : arities (map named (contents symbol fs)) ≡ arities_in symbol fs
      symbols = arities-named (contents symbol fs)

      preds : arities (map named (contents predicate fs)) ≡ arities_in predicate fs
      preds = arities-named (contents predicate fs)

-- Legal rules have well-formed fields, which say those rules
module _ (r : Rules) (h : Legal r) where
  -- what is declared before is what the rules declare
  arities_for : (k : Kind) (ds : List Named) → contents_for k r ≡ map encode_named ds → arities_in k (fields_for r) ≡ arities ds
  arities_for k ds e = ap (map first_byte) (contents_for_lem r k ∙ e) ∙ map-map first_byte encode_named ds

  types_for : types_in (fields_for r) ≡ length r.types
  types_for = ap length (contents_for_lem r type)

  few : length (arities r.symbols) ≤ first_variable
  few = le_trans (le_of_eq (length-map r.symbols _ ∙ sym (length-map r.symbols encode_named))) (le_trans (h.counts symbol) (lit≤ tt))

  few_types : length r.types ≤ condition_types
  few_types = le_trans (h.counts type) (lit≤ tt)

  symbols_for : arities_in symbol (fields_for r) ≡ arities r.symbols
  symbols_for = arities_for symbol r.symbols refl

  preds_for : arities_in predicate (fields_for r) ≡ arities r.predicates
  preds_for = arities_for predicate r.predicates refl

  -- clauses and queries are read back
  abbrev clause_reader : List ℕ → Option Clause
  clause_reader = read_clause (arities_in symbol (fields_for r)) (arities_in predicate (fields_for r))

  abbrev query_reader : List ℕ → Option Query
  query_reader = read_query (types_in (fields_for r)) (arities_in symbol (fields_for r)) (arities_in predicate (fields_for r))

  clauses-back : All (λ (c : Clause). clause_reader (encode_clause c) ≡ some c) r.clauses
  clauses-back =
      All-map r.clauses
      (λ c w. subst₂ (λ (ss ps : List ℕ). read_clause ss ps (encode_clause c) ≡ some c) (sym symbols_for) (sym preds_for) (read_clause-back (arities r.symbols) (arities r.predicates) few c w))
      h.clauses

  queries-back : All (λ (q : Query). query_reader (encode_query q) ≡ some q) r.queries
  queries-back =
      All-map r.queries
      (λ q w. subst₃ (λ (n : ℕ) (ss ps : List ℕ). read_query n ss ps (encode_query q) ≡ some q) (sym types_for) (sym symbols_for) (sym preds_for) (read_query-back (length r.types) (arities r.symbols) (arities r.predicates) few few_types q w))
      h.queries

  -- each content is as laid out, and no name stands twice
  laid_for : (k : Kind) → All (λ (c : List ℕ). T (laid_out_after (fields_for r) k c)) (contents_for k r)
  laid_for symbol = All-over _ encode_named r.symbols (All-map r.symbols (λ s w. (is_named-exact most_symbol_arity (encode_named s)).1 (refl, w.0, w.1)) h.symbols)
  laid_for type = h.types
  laid_for production =
      All-over _ encode_production r.productions
      (All-map r.productions
      (λ p w. subst₂ (λ (n : ℕ) (ss : List ℕ). T (is_production n ss (encode_production p))) (sym types_for) (sym symbols_for) ((is_production-exact (length r.types) (arities r.symbols) (encode_production p)).1 (refl, w)))
      h.productions)
  laid_for predicate = All-over _ encode_named r.predicates (All-map r.predicates (λ s w. (is_named-exact most_predicate_arity (encode_named s)).1 (refl, w.0, w.1)) h.predicates)
  laid_for clause = All-over _ encode_clause r.clauses (All-map r.clauses (λ c e. is_some_give _ c e) clauses-back)
  laid_for query = All-over _ encode_query r.queries (All-map r.queries (λ q e. is_some_give _ q e) queries-back)

  names_for : (k : Kind) → NoneTwice (names_in k (contents_for k r))
  names_for symbol = subst NoneTwice (sym (map-map (drop 1) encode_named r.symbols)) h.symbol_names
  names_for type = h.type_names
  names_for production = none_twice_one [] (lit≤ tt)
  names_for predicate = subst NoneTwice (sym (map-map (drop 1) encode_named r.predicates)) h.predicate_names
  names_for clause = none_twice_one [] (lit≤ tt)
  names_for query = none_twice_one [] (lit≤ tt)

  pub legal-fields : WellFields (fields_for r)
  legal-fields =
      record {
        rising = rising_for r;
        counts = λ k. subst (λ (cs : List (List ℕ)). length cs ≤ most_of k) (sym (contents_for_lem r k)) (h.counts k);
        sizes = λ k. subst (All (λ (c : List ℕ). length c ≤ most_content)) (sym (contents_for_lem r k)) (h.sizes k);
        laid = λ k. subst (All (λ (c : List ℕ). T (laid_out_after (fields_for r) k c))) (sym (contents_for_lem r k)) (laid_for k);
        names = λ k. subst (λ (cs : List (List ℕ)). NoneTwice (names_in k cs)) (sym (contents_for_lem r k)) (names_for k);
      }

  pub legal-rules : rules_in (fields_for r) ≡ r
  unfolding rules_in
  legal-rules = λ i.
      record {
        symbols = (ap (map named) (contents_for_lem r symbol) ∙ map_inverse encode_named named (λ d. refl) r.symbols) i;
        types = contents_for_lem r type i;
        productions = (ap (map production_of) (contents_for_lem r production) ∙ map_inverse encode_production production_of (λ p. refl) r.productions) i;
        predicates = (ap (map named) (contents_for_lem r predicate) ∙ map_inverse encode_named named (λ d. refl) r.predicates) i;
        clauses = (ap (read_all clause_reader) (contents_for_lem r clause) ∙ read_all-back encode_clause clause_reader r.clauses clauses-back) i;
        queries = (ap (read_all query_reader) (contents_for_lem r query) ∙ read_all-back encode_query query_reader r.queries queries-back) i;
      }

-- no field is refused, by places and one after the other
none-refused-fields : (fs : List Field) → ((k : ℕ) → k < length fs → NoneFits (take k fs) (get_or fs k cut)) ↔ NoField is_refused [] fs
unfolding first_refused
none-refused-fields fs = (
  λ h. (first_field-none is_refused fs).0 ((none-refused fs).1 h),
  λ h. (none-refused fs).0 ((first_field-none is_refused fs).1 h),
)

-- no field is cut
pub rising_whole : (t top : ℕ) (fs : List Field) → TagsRise t top fs → All (λ (f : Field). T (not (is_cut f))) fs
rising_whole t top [] h = tt
rising_whole t top (cut ∷ fs) h = absurd h
rising_whole t top (whole g c ∷ fs) h = (tt, rising_whole g top fs h.2)

-- The rules of a file are legal if no field is refused and one is a constant's.
pub read-legal : (file : List ℕ) → NoneRefused file → HasConstant file → Legal (rules_of file)
unfolding rules_of
read-legal file r constant =
    let w = fine-well (fields file) ((none-refused-fields (fields file)).0 r.fine) in
    let size =
    fields-length file (rising_whole 1 7 (fields file) w.rising)
    ∙ ap (λ (fs : List Field). length (joined (map encode_whole fs))) (rising-fields (rules_in (fields file)) (fields file) w.rising (contents-rules (fields file) w))
    ∙ ap length (encode_fields (rules_in (fields file)))
    in
    rules-legal (fields file) w (subst (λ (n : ℕ). n ≤ most_file_bytes) size r.size) constant

-- Such a file, if it is bytes, is the encoding of its rules.
pub read_encoded : (file : List ℕ) → Bytes file → NoneRefused file → file ≡ encode_rules (rules_of file)
unfolding rules_of
read_encoded file bytes r =
    let w = fine-well (fields file) ((none-refused-fields (fields file)).0 r.fine) in
    fields-whole file bytes (rising_whole 1 7 (fields file) w.rising)
    ∙ ap (λ (fs : List Field). joined (map encode_whole fs)) (rising-fields (rules_in (fields file)) (fields file) w.rising (contents-rules (fields file) w))
    ∙ encode_fields (rules_in (fields file))

-- The rules of an accepted file are legal, and have at most 16 states.
pub accepted-rules : (file : List ℕ) → file_answer file ≡ accepted
    → Legal (rules_of file)
    × (length (states_for (arities (rules_of file).symbols) (length (rules_of file).types) (rules_of file).productions) ≤ most_states)
accepted-rules file e = let a = (accepted-exact file).0 e in (read-legal file a.0 a.1, a.2)

-- The encoding of legal rules with at most 16 states is accepted, and says those rules.
pub legal-accepted : (r : Rules) → Legal r → length (states_for (arities r.symbols) (length r.types) r.productions) ≤ most_states
    → (file_answer (encode_rules r) ≡ accepted) × (rules_of (encode_rules r) ≡ r)
unfolding rules_of
legal-accepted r h few = (
  (accepted-exact (encode_rules r)).1 (
    record { size = h.file_bytes; fine = (none-refused-fields (fields (encode_rules r))).1 (subst (NoField is_refused []) (sym (fields-rules r)) (well-fine (fields_for r) (legal-fields r h) [] (fields_for r) refl)) },
    subst (λ (s : Rules). Memᴰ 0 (arities s.symbols)) (sym said) h.constant,
    subst (λ (s : Rules). length (states_for (arities s.symbols) (length s.types) s.productions) ≤ most_states) (sym said) few,
  ),
  said,
)
  where
    said : rules_in (fields (encode_rules r)) ≡ r
    said = ap rules_in (fields-rules r) ∙ legal-rules r h

-- Acceptance is exact.
pub acceptance_exact : (file : List ℕ) → Bytes file → (r : Rules)
    → ((file_answer file ≡ accepted) × (rules_of file ≡ r))
    ↔ ((file ≡ encode_rules r) × Legal r × (length (states_for (arities r.symbols) (length r.types) r.productions) ≤ most_states))
acceptance_exact file bytes r = (
  λ h. let w = accepted-rules file h.0 in subst Says h.1 (read_encoded file bytes ((accepted-exact file).0 h.0).0, w.0, w.1),
  λ h. subst (λ (l : List ℕ). (file_answer l ≡ accepted) × (rules_of l ≡ r)) (sym h.0) (legal-accepted r h.1 h.2),
)
  where
    Says : Rules → Type 0
    Says s = (file ≡ encode_rules s) × Legal s × (length (states_for (arities s.symbols) (length s.types) s.productions) ≤ most_states)

-- The targets of the productions of legal rules are declared.
pub legal_targets : (r : Rules) → Legal r → All (λ (p : Production). p.target < length r.types) r.productions
legal_targets r h = All-map r.productions (λ p w. w.0) h.productions

-- The computed states are at most 16 exactly if no more exist.
few-exact : (r : Rules) → Legal r
    → (length (states_for (arities r.symbols) (length r.types) r.productions) ≤ most_states) ↔ (¬ MoreStates (arities r.symbols) r.productions)
few-exact r h = (
  λ few w. not-le_of_lt (exact.1 w) few,
  λ fewer. go fewer (dec_le (length states) most_states),
)
  where
    states : List ℕ
    states = states_for (arities r.symbols) (length r.types) r.productions

    exact : (most_states < length states) ↔ MoreStates (arities r.symbols) r.productions
    exact = more-states (arities r.symbols) (length r.types) r.productions (legal_targets r h)

    go : ¬ MoreStates (arities r.symbols) r.productions → Dec (length states ≤ most_states) → length states ≤ most_states
    go fewer (yes le) = le
    go fewer (no more) = absurd (fewer (exact.0 (omega arith)))

-- Accepted exactly if none of 1 to 8 fits; refused with the first that fits, at the lowest place where it fits.
pub acceptance_given : (file : List ℕ) → (file_answer file ≡ accepted) ↔ Accepted file
acceptance_given file = (
  λ e. let a = (accepted-exact file).0 e in (a.0, a.1, (few-exact (rules_of file) (read-legal file a.0 a.1)).0 a.2),
  λ w. (accepted-exact file).1 (w.0, w.1, (few-exact (rules_of file) (read-legal file w.0 w.1)).1 w.2),
)

pub refusal-given : (file : List ℕ) (n k : ℕ) → n ≢ 0 → (file_answer file ≡ refused n k) ↔ Given file n k
refusal-given file n k pos = (λ e. to ((refused-exact file n k pos).0 e), λ w. (refused-exact file n k pos).1 (back w))
  where
    more : NoneRefused file → HasConstant file → (most_states < length (states_of_file file)) ↔ MoreStates (symbols_of file) (rules_of file).productions
    more r c = more-states (symbols_of file) (length (rules_of file).types) (rules_of file).productions (legal_targets (rules_of file) (read-legal file r c))

    to : GivenByCount file n k → Given file n k
    to (inl w) = inl w
    to (inr w) = inr (w.0, w.1, w.2, w.3, (more w.0 w.3).0 w.4)

    back : Given file n k → GivenByCount file n k
    back (inl w) = inl w
    back (inr w) = inr (w.0, w.1, w.2, w.3, (more w.0 w.3).1 w.4)

-- Laid out and within the limits is what an accepted file of bytes is.
pub acceptable_exact : (file : List ℕ) → Bytes file → (file_answer file ≡ accepted) ↔ Acceptable file
acceptable_exact file bytes = (
  λ e.
      let a = (acceptance_given file).0 e in
      record { rules = rules_of file; bytes = read_encoded file bytes a.0; legal = read-legal file a.0 a.1; few = a.2 },
  λ w. subst (λ (l : List ℕ). file_answer l ≡ accepted) (sym w.bytes) (legal-accepted w.rules w.legal ((few-exact w.rules w.legal).1 w.few)).0,
)
