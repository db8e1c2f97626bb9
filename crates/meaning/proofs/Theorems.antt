-- What 01 demands, said of a file that is accepted: its states, tables, model, verdicts and certificates. Each theorem is put together here from
-- the general ones. Assumes nothing.
use Rattle.meaning.proofs.Prelude.{ℕ, ◌+◌, ◌≤◌, ◌<◌, suc, ◌≡◌, refl, sym, ap, ◌∙◌, subst, ◌≢◌, ◌↔◌, Bool, true, false, List, ◌∷◌}
use Rattle.meaning.proofs.Prelude.{map, Memᴰ, T, length, length-append, get_or, arith}
use Rattle.meaning.proofs.Definitions.{All, joined, Rising, Tree, Trees, node, leaf, ◌▹◌, tree_count, Production, Clause, Query, state_tag}
use Rattle.meaning.proofs.Definitions.{atom_tag, Declared, NoneTwice, WellClause, WellQuery, has, bit, IsGround, AreGround, OfType, types_of}
use Rattle.meaning.proofs.Definitions.{cell, start, cells, index_of, AtomSet, IsAtom, place, marked, Closed, Brought, stage, Open, is_open}
use Rattle.meaning.proofs.Definitions.{NoneDerivable, Bytes, encode_field, refused, accepted, rules_of, file_answer, encode_sheet, state_bytes}
use Rattle.meaning.proofs.Definitions.{IsSheetAtom, LaidOut, Carries, InSheet, Valid, answer_of_sheet, LowestViolation, symbol_arities}
use Rattle.meaning.proofs.Definitions.{predicate_arities, states_of, step_of, interpretation_of, tables_of, rounds_of, model_of, atoms_of, verdict_of}
use Rattle.meaning.proofs.Definitions.{OrderOf, Admitted}
use Rattle.meaning.specs.Clauses as Clauses
use Rattle.meaning.proofs.Lists.{All-map, All-find}
use Rattle.meaning.proofs.Cells.{place-lt}
use Rattle.meaning.proofs.Acceptance.{accepted-rules, legal_targets}
use Rattle.meaning.proofs.Setting.{InRange, Homomorphism, each_state}
use Rattle.meaning.proofs.Types.{types-exact, declared-allowed}
use Rattle.meaning.proofs.States as States
use Rattle.meaning.proofs.Stages as Stages
use Rattle.meaning.proofs.Model as Model
use Rattle.meaning.proofs.Verdicts as Verdicts
use Rattle.meaning.proofs.Soundness as Soundness
use Rattle.meaning.proofs.MarkedAtoms as MarkedAtoms
use Rattle.meaning.proofs.Certificates as Certificates

pub accepted-is_admitted : (file : List ℕ) → file_answer file ≡ accepted → Admitted file
unfolding states_of symbol_arities
accepted-is_admitted file e = let w = accepted-rules file e in record { legal = w.0; few = w.1 }

-- a verdict as a byte
pub bit-one : (b : Bool) → (bit b ≡ 1) ↔ T b
bit-one true = (λ e. tt, λ t. refl)
bit-one false = (λ (e : ◌≡◌ {A = ℕ} 0 1). absurd (omega arith), λ t. absurd t)

pub bit-zero : (b : Bool) → (bit b ≡ 0) ↔ (¬ T b)
bit-zero true = (λ (e : ◌≡◌ {A = ℕ} 1 0). absurd (omega arith), λ h. absurd (h tt))
bit-zero false = (λ e t. t, λ h. refl)

zero-ne-one : ◌≢◌ {A = ℕ} 0 1
zero-ne-one e = omega arith

-- the states of a list of ground terms are as many as the terms, and states
length-each_state : (st : Tree → ℕ) (ts : Trees) → length (each_state st ts) ≡ tree_count ts
length-each_state st leaf = refl
length-each_state st (t ▹ ts) = ap suc (length-each_state st ts)

each_state-lt : (arities : List ℕ) (m : ℕ) (st : Tree → ℕ)
    → ((t : Tree) → IsGround arities t → st t < m)
    → (ts : Trees)
    → AreGround arities ts
    → All (λ d. d < m) (each_state st ts)
each_state-lt arities m st below leaf g = tt
each_state-lt arities m st below (t ▹ ts) g = (below t g.0, each_state-lt arities m st below ts g.1)

module _ (file : List ℕ) (admitted : Admitted file) where
  abbrev productions : List Production
  productions = (rules_of file).productions

  abbrev types : ℕ
  types = length (rules_of file).types

  -- the state of a ground term
  abbrev pub state_of_term : Tree → ℕ
  state_of_term t = index_of (types_of productions types t) (states_of file)

  pub targets : All (λ (p : Production). p.target < types) productions
  targets = legal_targets (rules_of file) admitted.legal

  -- The types of a ground term are those that 01 gives it.
  pub types_are_exact : (t : Tree) (q : ℕ) → T (has (types_of productions types t) q) ↔ OfType productions t q
  types_are_exact = types-exact productions types targets

  -- States are exact: each is the set of types of some ground term, each ground term has one; rising, so that none stands twice.
  pub states_are_exact : (s : ℕ) → Memᴰ s (states_of file) ↔ ((t : Tree) × IsGround (symbol_arities file) t × (types_of productions types t ≡ s))
  unfolding states_of
  states_are_exact = States.states-exact (symbol_arities file) types productions admitted.few

  pub states_rise : Rising (states_of file)
  unfolding states_of
  states_rise = States.states-rising (symbol_arities file) types productions

  pub homomorphism : Homomorphism (symbol_arities file) productions (states_of file) (interpretation_of file) state_of_term
  unfolding states_of interpretation_of step_of
  homomorphism = States.homomorphism (symbol_arities file) types productions admitted.few targets

  pub range : InRange (symbol_arities file) (length (states_of file)) (interpretation_of file)
  unfolding states_of interpretation_of step_of
  range = States.cell_range (symbol_arities file) types productions admitted.few

  -- Tables compose: the state of f(t1, .., tn) stands in the cell of f over the states of t1, .., tn.
  pub tables_compose : (f : ℕ) (ts : Trees)
      → Declared (symbol_arities file) f (tree_count ts)
      → AreGround (symbol_arities file) ts
      → get_or (tables_of file) (start (length (states_of file)) (symbol_arities file) f + cell (length (states_of file)) (each_state state_of_term ts)) 0
      ≡ state_of_term (node f ts)
  unfolding tables_of interpretation_of
  tables_compose f ts declared ground =
      States.tables-at
      (step_of file)
      (states_of file)
      (symbol_arities file)
      f
      (each_state state_of_term ts)
      (subst (Declared (symbol_arities file) f) (sym (length-each_state state_of_term ts)) declared)
      (each_state-lt (symbol_arities file) (length (states_of file)) state_of_term homomorphism.below ts ground)
      ∙ sym (homomorphism.along f ts (declared-allowed (symbol_arities file) f (tree_count ts) declared, ground))

  -- that cell is one of the tables
  pub tables-inside : (f : ℕ) (ts : Trees)
      → Declared (symbol_arities file) f (tree_count ts)
      → AreGround (symbol_arities file) ts
      → start (length (states_of file)) (symbol_arities file) f + cell (length (states_of file)) (each_state state_of_term ts) < length (tables_of file)
  unfolding tables_of
  tables-inside f ts declared ground =
      subst (λ (n : ℕ). place (length (states_of file)) (symbol_arities file) f (each_state state_of_term ts) < n) (sym (States.length-tables (step_of file) (states_of file) (symbol_arities file)))
      (place-lt (length (states_of file)) (symbol_arities file) f (each_state state_of_term ts)
      (subst (Declared (symbol_arities file) f) (sym (length-each_state state_of_term ts)) declared, each_state-lt (symbol_arities file) (length (states_of file)) state_of_term homomorphism.below ts ground))

  abbrev clauses : List Clause
  clauses = (rules_of file).clauses

  abbrev stage_of : ℕ → List ℕ
  stage_of k = stage (length (states_of file)) (interpretation_of file) (predicate_arities file) clauses k

  -- an atom is marked
  abbrev InMarks : List ℕ → AtomSet
  InMarks marks p row = T (marked (length (states_of file)) (predicate_arities file) marks p row)

  abbrev DomainAtom : ℕ → List ℕ → Type 0
  DomainAtom p row = IsAtom (length (states_of file)) (predicate_arities file) p row

  pub well_clauses : All (WellClause (symbol_arities file) (predicate_arities file)) clauses
  unfolding symbol_arities predicate_arities
  well_clauses = admitted.legal.clauses

  -- Stages rise; the round count is the least k whose stage equals the next, at most the number of domain atoms.
  pub stages_rise : (k p : ℕ) (row : List ℕ) → DomainAtom p row → InMarks (stage_of k) p row → InMarks (stage_of (suc k)) p row
  stages_rise =
      Stages.stage_rises (symbol_arities file) (predicate_arities file) (length (states_of file)) (interpretation_of file) clauses range well_clauses

  -- Stage k + 1 holds exactly the head instances of the clauses, under valuations with all body instances in stage k.
  pub stages_are_exact : (k p : ℕ) (row : List ℕ)
      → DomainAtom p row
      → InMarks (stage_of (suc k)) p row ↔ Brought (length (states_of file)) (interpretation_of file) clauses (InMarks (stage_of k)) p row
  stages_are_exact =
      Stages.stage-next (symbol_arities file) (predicate_arities file) (length (states_of file)) (interpretation_of file) clauses range well_clauses

  pub rounds-settle : stage_of (suc (rounds_of file)) ≡ stage_of (rounds_of file)
  unfolding rounds_of
  rounds-settle =
      Model.rounds-settled (symbol_arities file) (predicate_arities file) (length (states_of file)) (interpretation_of file) clauses range well_clauses

  pub rounds_are_least : (k : ℕ) → k < rounds_of file → stage_of (suc k) ≢ stage_of k
  unfolding rounds_of
  rounds_are_least =
      Model.rounds-least (symbol_arities file) (predicate_arities file) (length (states_of file)) (interpretation_of file) clauses range well_clauses

  pub rounds_are_bounded : rounds_of file ≤ cells (length (states_of file)) (predicate_arities file)
  unfolding rounds_of
  rounds_are_bounded =
      Model.rounds-most (symbol_arities file) (predicate_arities file) (length (states_of file)) (interpretation_of file) clauses range well_clauses

  -- The model is least: an atom is marked exactly if it lies in every set closed under the clauses.
  pub model-is-least : (p : ℕ) (row : List ℕ)
      → DomainAtom p row
      → InMarks (model_of file) p row ↔ ((S : AtomSet) → Closed (length (states_of file)) (interpretation_of file) clauses S → S p row)
  unfolding model_of
  model-is-least =
      Model.model-least (symbol_arities file) (predicate_arities file) (length (states_of file)) (interpretation_of file) clauses range well_clauses

  pub model-is-closed : Closed (length (states_of file)) (interpretation_of file) clauses (InMarks (model_of file))
  unfolding model_of
  model-is-closed =
      Model.model-closed (symbol_arities file) (predicate_arities file) (length (states_of file)) (interpretation_of file) clauses range well_clauses

  -- OPEN in a set of domain atoms: some valuation meets the conditions and puts the query's atom in the set
  abbrev OpenIn : AtomSet → Query → Type 0
  OpenIn S q = Open (states_of file) (length (states_of file)) (interpretation_of file) S q

  -- Verdicts are exact: 1 exactly if an instance that meets the conditions is in the model.
  pub verdicts_are_exact : (q : Query) → (verdict_of file q ≡ 1) ↔ OpenIn (InMarks (model_of file)) q
  unfolding verdict_of
  verdicts_are_exact q =
      let test = is_open (states_of file) (length (states_of file)) (interpretation_of file) (marked (length (states_of file)) (predicate_arities file) (model_of file)) q in
      let exact = Verdicts.open_exact (states_of file) (length (states_of file)) (interpretation_of file) (marked (length (states_of file)) (predicate_arities file) (model_of file)) q in
      (λ e. exact.0 ((bit-one test).0 e), λ o. (bit-one test).1 (exact.1 o))

  -- no ground instance of the query that meets its conditions is derivable
  abbrev Underivable : Query → Type 1
  Underivable q = NoneDerivable (symbol_arities file) productions clauses q

  -- what it is for a query to be laid out: its conditions and its atom are over what the file declares
  abbrev IsQuery : Query → Type 0
  IsQuery q = WellQuery types (symbol_arities file) (predicate_arities file) q

  pub queries_are_laid_out : (q : Query) → Memᴰ q (rules_of file).queries → IsQuery q
  unfolding symbol_arities predicate_arities
  queries_are_laid_out q listed = All-find (WellQuery types (symbol_arities file) (predicate_arities file)) (rules_of file).queries admitted.legal.queries q listed

  -- A query with no instance in a closed set of domain atoms has no derivable ground instance, at any height.
  closed-sound : (S : AtomSet)
      → Closed (length (states_of file)) (interpretation_of file) clauses S
      → (q : Query)
      → IsQuery q
      → ¬ OpenIn S q
      → Underivable q
  closed-sound S closed q well clear =
      Soundness.clear-sound
      (symbol_arities file)
      (predicate_arities file)
      productions
      (states_of file)
      (interpretation_of file)
      state_of_term
      homomorphism
      (declared-allowed (symbol_arities file))
      types
      clauses
      well_clauses
      q
      well
      S
      closed
      clear

  -- CLEAR is sound, at any height.
  pub clear-is-sound : (q : Query) → Memᴰ q (rules_of file).queries → verdict_of file q ≡ 0 → Underivable q
  clear-is-sound q listed e =
      closed-sound (InMarks (model_of file)) model-is-closed q (queries_are_laid_out q listed)
      (λ o. zero-ne-one (sym e ∙ (verdicts_are_exact q).1 o))

  -- what it is for a sheet to pass for the file
  abbrev ValidSheet : List ℕ → Type 0
  ValidSheet sheet = Valid (states_of file) (interpretation_of file) (predicate_arities file) clauses sheet

  -- Certificates pass exactly: for any bytes at all, 0 exactly if laid out, carrying the states and closed.
  pub certificates_are_exact : (sheet : List ℕ)
      → Bytes sheet
      → (answer_of_sheet (states_of file) (interpretation_of file) (predicate_arities file) clauses sheet ≡ accepted) ↔ ValidSheet sheet
  certificates_are_exact = Certificates.check-exact (states_of file) (interpretation_of file) (predicate_arities file) clauses

  pub violations_are_exact : (sheet : List ℕ)
      → LaidOut (length (states_of file)) (predicate_arities file) sheet
      → Carries (states_of file) sheet
      → (i : ℕ)
      → (answer_of_sheet (states_of file) (interpretation_of file) (predicate_arities file) clauses sheet ≡ refused 13 i)
      ↔ LowestViolation (length (states_of file)) (interpretation_of file) clauses (InSheet sheet) i
  violations_are_exact = Certificates.check-violation (states_of file) (interpretation_of file) (predicate_arities file) clauses

  -- Certificates are sound: a valid one without an instance of a query, one of the file's or any other, leaves no ground instance of it derivable,
  -- at any height.
  pub certificates_are_sound : (sheet : List ℕ) → ValidSheet sheet → (q : Query) → IsQuery q → ¬ OpenIn (InSheet sheet) q → Underivable q
  certificates_are_sound sheet valid q well clear = closed-sound (InSheet sheet) valid.closed q well clear

  -- Every sheet that the writer may write is valid.
  pub written-is_valid : (order : List (List ℕ)) → OrderOf file order → ValidSheet (encode_sheet (states_of file) order)
  written-is_valid order is =
      record {
        laid_out = (states_of file, order, refl, form, distinct);
        carries = (order, refl);
        closed =
            λ c listed ν valuation body.
            (in_sheet
            c.head.predicate
            (Clauses.term_states (interpretation_of file) ν c.head.arguments)
            ).1 (
              Stages.head-atom (symbol_arities file) (predicate_arities file) (length (states_of file)) (interpretation_of file) clauses range well_clauses c listed ν valuation,
              model-is-closed c listed ν valuation (All-map c.body (λ a w. ((in_sheet _ _).0 w).1) body),
            );
      }
    where
      m : ℕ
      m = length (states_of file)

      form : All (IsSheetAtom m (predicate_arities file)) order
      form = MarkedAtoms.order_form m (predicate_arities file) (model_of file) order is

      distinct : NoneTwice order
      distinct = MarkedAtoms.order_distinct m (predicate_arities file) (model_of file) order is

      in_sheet : (p : ℕ) (row : List ℕ) → InSheet (encode_sheet (states_of file) order) p row ↔ (DomainAtom p row × InMarks (model_of file) p row)
      in_sheet p row =
          let there = Certificates.in_sheet_lem (states_of file) order p row in
          let exact = MarkedAtoms.order-exact m (predicate_arities file) (model_of file) order is p row in
          (λ w. exact.0 (there.0 w), λ w. there.1 (exact.1 w))

  -- It is least: each of its atoms is in every valid sheet.
  pub written-is-least : (order : List (List ℕ))
      → OrderOf file order
      → (p : ℕ) (row : List ℕ)
      → Memᴰ (p ∷ row) order
      → (sheet : List ℕ)
      → ValidSheet sheet
      → InSheet sheet p row
  written-is-least order is p row listed sheet valid =
      let w = (MarkedAtoms.order-exact (length (states_of file)) (predicate_arities file) (model_of file) order is p row).0 listed in
      (model-is-least p row w.0).0 w.1 (InSheet sheet) valid.closed

-- A written sheet has the same length whatever the order of its atoms.
pub written-length : (file : List ℕ) (order : List (List ℕ))
    → OrderOf file order
    → length (encode_sheet (states_of file) order) ≡ length (encode_sheet (states_of file) (atoms_of file))
unfolding encode_sheet atoms_of
written-length file order is =
    let front : List ℕ = joined (map (λ s. encode_field state_tag (state_bytes s)) (states_of file)) in
    let atoms : List (List ℕ) → List ℕ = λ l. joined (map (encode_field atom_tag) l) in
    length-append front (atoms order)
    ∙ ap (λ (n : ℕ). length front + n) (MarkedAtoms.order-length (length (states_of file)) (predicate_arities file) (model_of file) order is)
    ∙ sym (length-append front (atoms (atoms_of file)))
