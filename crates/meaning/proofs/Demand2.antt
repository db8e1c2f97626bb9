-- Demand 2 is met by what an analysis hands back with 0 (specs/Demand2.antt). Assumes nothing.
use Rattle.meaning.proofs.Prelude.{ℕ, ◌+◌, ◌<◌, zero, suc, ◌≡◌, refl, sym, ap, ◌∙◌, subst, ⊎_elim, ◌⊎◌, inl, inr, ◌↔◌, cond, not}
use Rattle.meaning.proofs.Prelude.{some, none-ne-some, some_injective, List, [], ◌∷◌, map, Memᴰ, T, eqb, eqb→eq, length}
use Rattle.meaning.proofs.Prelude.{length-append, get_or, take, drop, get_or-append, get_elem?, take_at, zero-add, arith}
use Rattle.meaning.proofs.Definitions.{All, Rising, nonzero, ones, Tree, Trees, node, leaf, ◌▹◌, tree_count, Production, Clause, Query}
use Rattle.meaning.proofs.Definitions.{Declared, WellClause, WellQuery, IsGround, AreGround, IsTypeSet, cells, index_of, AtomSet, IsAtom, place}
use Rattle.meaning.proofs.Definitions.{marked, IsValuation, term_states, Stage, rounds, model, meets_all, Open, is_open, NoneDerivable, rules_of}
use Rattle.meaning.proofs.Definitions.{states_for, symbol_arities, predicate_arities, states_of, step_of, interpretation_of, tables_of, rounds_of}
use Rattle.meaning.proofs.Definitions.{model_of, atoms_of, verdict_of, verdicts_of, written, Buffers, Analysed, AnalysisOf, analysis_done, Admitted}
use Rattle.meaning.proofs.Definitions.{IsStateOf, AreStatesOf, sets_in, interpret_in, mark_in, InEveryClosed, Settled, OpenIn, Demand2}
use Rattle.meaning.proofs.Lists.{clash, not-not, not_intro}
use Rattle.meaning.proofs.Setting.{InRange, each_state}
use Rattle.meaning.proofs.Types.{type-set-exact, declared-allowed}
use Rattle.meaning.proofs.Cells.{place-lt}
use Rattle.meaning.proofs.Rising.{rising_index}
use Rattle.meaning.proofs.States.{tables-at}
use Rattle.meaning.proofs.Stages.{stage-bits, stage-set, instance_atom}
use Rattle.meaning.proofs.Model.{rounds-settled, rounds-least, settled-exact, model-least}
use Rattle.meaning.proofs.Verdicts as Verdicts
use Rattle.meaning.proofs.Interpretations.{rounds-same, model-same, open_same}
use Rattle.meaning.proofs.MarkedAtoms.{marked-count}
use Rattle.meaning.proofs.Certificates.{at_lt, at_mem}
use Rattle.meaning.proofs.Calls.{tables-length, marks-length, verdicts-length}
use Rattle.meaning.proofs.Demand1.{demand_1, accepted-analysis}
use Rattle.meaning.proofs.Theorems as theorems

-- a byte of the needed ones
needed_at : (needed before : List ℕ) (i : ℕ) → i < length needed → get_or (written needed before) i 0 ≡ get_or needed i 0
needed_at needed before i lt = get_or-append needed (drop (length needed) before) 0 i lt

-- a place of the needed ones is inside a buffer that is long enough
inside : (needed before : List ℕ) (i : ℕ) → i < length needed → i < length (written needed before)
inside needed before i lt = omega (arith, length-append needed (drop (length needed) before))

-- marks of 0 and 1
one-marked : (x : ℕ) → (x ≡ 0) ⊎ (x ≡ 1) → (x ≡ 1) ↔ T (not (eqb x 0))
one-marked x (inl e) = (λ o. absurd (omega (arith, e, o)), λ t. absurd (subst (λ (n : ℕ). T (not (eqb n 0))) e t))
one-marked x (inr e) = (λ o. subst (λ (n : ℕ). T (not (eqb n 0))) (sym e) tt, λ t. e)

zero_unmarked : (x : ℕ) → (x ≡ 0) ↔ (¬ T (not (eqb x 0)))
zero_unmarked x = (
  λ e t. clash (eqb x 0) (subst (λ (n : ℕ). T (eqb n 0)) (sym e) tt) t,
  λ h. eqb→eq x 0 (not-not (eqb x 0) (not_intro (not (eqb x 0)) h)),
)

ones-nonzero : (l : List ℕ) → ((i : ℕ) → (get_or l i 0 ≡ 0) ⊎ (get_or l i 0 ≡ 1)) → nonzero l ≡ ones l
ones-nonzero [] h = refl
ones-nonzero (zero ∷ l) h = ones-nonzero l (λ i. h (suc i)) ∙ sym (zero-add (ones l))
ones-nonzero (suc x ∷ l) h =
    ⊎_elim
    (λ e. absurd (omega (arith, e)))
    (λ e.
    let later = ones-nonzero l (λ i. h (suc i)) in
    subst (λ (n : ℕ). suc (nonzero l) ≡ cond (eqb n 1) 1 0 + ones l) (sym e) (omega (arith, later)))
    (h 0)

-- a list at a place, mapped
at_map : {A : Type 0} (f : A → ℕ) (l : List A) (i : ℕ) (x : A) → get_elem? l i ≡ some x → get_or (map f l) i 0 ≡ f x
at_map f [] i x e = absurd (none-ne-some x e)
at_map f (y ∷ l) zero x e = ap f (some_injective y x e)
at_map f (y ∷ l) (suc i) x e = at_map f l i x e

module _ (file : List ℕ) (before : Buffers) (admitted : Admitted file) where
  abbrev m : ℕ
  m = length (states_of file)

  abbrev clauses : List Clause
  clauses = (rules_of file).clauses

  abbrev productions : List Production
  productions = (rules_of file).productions

  abbrev result : Analysed
  result = analysis_done file before

  sets_are : sets_in file result ≡ states_of file
  sets_are = take_at (states_of file) (drop m before.states) m refl

  -- the tables handed back are those of the file, and give the file's pre-interpretation
  abbrev J : ℕ → List ℕ → ℕ
  J = interpret_in file result

  agree : (f : ℕ) (row : List ℕ) → Declared (symbol_arities file) f (length row) → All (λ d. d < m) row → interpretation_of file f row ≡ J f row
  unfolding tables_of interpretation_of
  agree f row declared low =
      sym (needed_at (tables_of file) before.tables _ (subst (λ (n : ℕ). place m (symbol_arities file) f row < n) (sym (tables-length file)) (place-lt m (symbol_arities file) f row (declared, low)))
      ∙ tables-at (step_of file) (states_of file) (symbol_arities file) f row declared low)

  range : InRange (symbol_arities file) m J
  range f row declared low = subst (λ (d : ℕ). d < m) (agree f row declared low) (theorems.range file admitted f row declared low)

  well_clauses : All (WellClause (symbol_arities file) (predicate_arities file)) clauses
  well_clauses = theorems.well_clauses file admitted

  -- a ground term's state, by the sets handed back
  abbrev state_of_term : Tree → ℕ
  state_of_term = theorems.state_of_term file admitted

  state-exact : (t : Tree) → IsGround (symbol_arities file) t → IsStateOf productions (states_of file) t (state_of_term t)
  state-exact t g = ((theorems.homomorphism file admitted).below t g, (theorems.homomorphism file admitted).exact t g)

  state-only : (t : Tree) (d : ℕ) → IsStateOf productions (states_of file) t d → d ≡ state_of_term t
  state-only t d h =
      sym (rising_index (states_of file) (theorems.states_rise file admitted) d h.0)
      ∙ ap (λ (s : ℕ). index_of s (states_of file)) (sym ((type-set-exact productions (length (rules_of file).types) (theorems.targets file admitted) t _).1 h.1))

  states-only : (ts : Trees) (row : List ℕ) → AreStatesOf productions (states_of file) ts row → row ≡ each_state state_of_term ts
  states-only leaf [] h = refl
  states-only leaf (d ∷ row) h = absurd h
  states-only (t ▹ ts) [] h = absurd h
  states-only (t ▹ ts) (d ∷ row) h = λ i. state-only t d h.0 i ∷ states-only ts row h.1 i

  -- each cell of the tables: inside, and the state of the symbol over the terms
  cell-exact : (f : ℕ) (ts : Trees) (row : List ℕ)
      → Declared (symbol_arities file) f (tree_count ts)
      → AreGround (symbol_arities file) ts
      → AreStatesOf productions (states_of file) ts row
      → (place m (symbol_arities file) f row < length result.after.tables) × IsStateOf productions (states_of file) (node f ts) (J f row)
  cell-exact f ts row declared ground states =
      let e = states-only ts row states in
      let lt = subst (λ (r : List ℕ). place m (symbol_arities file) f r < length (tables_of file)) (sym e) (theorems.tables-inside file admitted f ts declared ground) in
      let value : J f row ≡ state_of_term (node f ts) =
      needed_at (tables_of file) before.tables _ lt
      ∙ ap (λ (r : List ℕ). get_or (tables_of file) (place m (symbol_arities file) f r) 0) e
      ∙ theorems.tables_compose file admitted f ts declared ground in (
        inside (tables_of file) before.tables _ lt,
        subst (IsStateOf productions (states_of file) (node f ts)) (sym value)
            (state-exact (node f ts) (declared-allowed (symbol_arities file) f (tree_count ts) declared, ground)),
      )

  -- the model by the tables handed back
  abbrev preds : List ℕ
  preds = predicate_arities file

  abbrev model_j : List ℕ
  model_j = model m J preds clauses

  model_is : model_of file ≡ model_j
  unfolding model_of
  model_is = model-same (symbol_arities file) m (interpretation_of file) J (theorems.range file admitted) agree preds clauses well_clauses

  rounds_are : rounds_of file ≡ rounds m J preds clauses
  unfolding rounds_of
  rounds_are = rounds-same (symbol_arities file) m (interpretation_of file) J (theorems.range file admitted) agree preds clauses well_clauses

  abbrev mark : ℕ → List ℕ → ℕ
  mark = mark_in file result

  place_inside : (p : ℕ) (row : List ℕ) → IsAtom m preds p row → place m preds p row < length (model_of file)
  place_inside p row h = subst (λ (n : ℕ). place m preds p row < n) (sym (marks-length file)) (place-lt m preds p row h)

  mark-is : (p : ℕ) (row : List ℕ) → IsAtom m preds p row → mark p row ≡ get_or model_j (place m preds p row) 0
  mark-is p row h =
      needed_at (model_of file) before.marks _ (place_inside p row h) ∙ ap (λ (l : List ℕ). get_or l (place m preds p row) 0) model_is

  model-bits : (i : ℕ) → (get_or model_j i 0 ≡ 0) ⊎ (get_or model_j i 0 ≡ 1)
  unfolding model
  model-bits = stage-bits m J preds clauses (rounds m J preds clauses)

  -- a mark is 1 exactly if its atom is marked, and 0 exactly if it is not
  mark-one : (p : ℕ) (row : List ℕ) → IsAtom m preds p row → (mark p row ≡ 1) ↔ T (marked m preds model_j p row)
  mark-one p row h =
      subst (λ (x : ℕ). (x ≡ 1) ↔ T (marked m preds model_j p row)) (sym (mark-is p row h)) (one-marked (get_or model_j (place m preds p row) 0) (model-bits _))

  mark-zero : (p : ℕ) (row : List ℕ) → IsAtom m preds p row → (mark p row ≡ 0) ↔ (¬ T (marked m preds model_j p row))
  mark-zero p row h =
      subst (λ (x : ℕ). (x ≡ 0) ↔ (¬ T (marked m preds model_j p row))) (sym (mark-is p row h)) (zero_unmarked (get_or model_j (place m preds p row) 0))

  model-exact : (p : ℕ) (row : List ℕ)
      → IsAtom m preds p row
      → (place m preds p row < length result.after.marks)
      × ((mark p row ≡ 1) ↔ InEveryClosed file result p row)
      × ((mark p row ≡ 0) ↔ (¬ InEveryClosed file result p row))
  model-exact p row h =
      let least = model-least (symbol_arities file) preds m J clauses range well_clauses p row h in (
        inside (model_of file) before.marks _ (place_inside p row h),
        (λ e. least.0 ((mark-one p row h).0 e), λ every. (mark-one p row h).1 (least.1 every)),
        (λ e every. (mark-zero p row h).0 e (least.1 every), λ none. (mark-zero p row h).1 (λ t. none (least.0 t))),
      )

  -- the number of atoms is the number of marks that are 1
  atoms-counted : length (atoms_of file) ≡ ones (take (cells m preds) result.after.marks)
  unfolding atoms_of
  atoms-counted =
      marked-count m preds (model_of file) (marks-length file)
      ∙ ap nonzero model_is
      ∙ ones-nonzero model_j model-bits
      ∙ ap ones (sym model_is)
      ∙ ap ones (sym (take_at (model_of file) (drop (length (model_of file)) before.marks) (cells m preds) (marks-length file)))

  last-stage : (p : ℕ) (row : List ℕ) → IsAtom m preds p row → (mark p row ≡ 1) ↔ Stage m J clauses (rounds_of file) p row
  unfolding model
  last-stage p row h =
      let set = stage-set (symbol_arities file) preds m J clauses range well_clauses (rounds m J preds clauses) p row h in
      subst (λ (k : ℕ). (mark p row ≡ 1) ↔ Stage m J clauses k p row) (sym rounds_are)
      (λ e. set.0 ((mark-one p row h).0 e), λ s. (mark-one p row h).1 (set.1 s))

  rounds-exact : Settled file result (rounds_of file) × ((k : ℕ) → k < rounds_of file → ¬ Settled file result k)
  rounds-exact =
      let exact = settled-exact (symbol_arities file) preds m J clauses range well_clauses in
      subst (λ (r : ℕ). Settled file result r × ((k : ℕ) → k < r → ¬ Settled file result k)) (sym rounds_are) (
        (exact (rounds m J preds clauses)).0 (rounds-settled (symbol_arities file) preds m J clauses range well_clauses),
        λ k lt s. rounds-least (symbol_arities file) preds m J clauses range well_clauses k lt ((exact k).1 s),
      )

  -- the verdict of a query, by the states, tables and marks handed back
  module _ (i : ℕ) (q : Query) (at : get_elem? (rules_of file).queries i ≡ some q) where
    listed : Memᴰ q (rules_of file).queries
    listed = at_mem (rules_of file).queries i q at

    i_inside : i < length (verdicts_of file)
    i_inside = subst (λ (n : ℕ). i < n) (sym (verdicts-length file)) (at_lt (rules_of file).queries i q at)

    verdict_is : get_or result.after.verdicts i 0 ≡ verdict_of file q
    unfolding verdicts_of
    verdict_is = needed_at (verdicts_of file) before.verdicts i i_inside ∙ at_map (verdict_of file) (rules_of file).queries i q at

    open_exact : T (is_open (states_of file) m (interpretation_of file) (marked m preds (model_of file)) q) ↔ OpenIn file result q
    open_exact = (
      λ t. to (exact.0 (subst T same t)),
      λ o. subst T (sym same) (exact.1 (back o)),
    )
      where
        well : WellQuery (length (rules_of file).types) (symbol_arities file) preds q
        well = theorems.queries_are_laid_out file admitted q listed

        same : is_open (states_of file) m (interpretation_of file) (marked m preds (model_of file)) q ≡ is_open (states_of file) m J (marked m preds (model_of file)) q
        same =
            open_same (symbol_arities file) m (interpretation_of file) J (theorems.range file admitted) agree preds
            (length (rules_of file).types) (states_of file) (marked m preds (model_of file)) q well

        Marked : AtomSet
        Marked p row = T (marked m preds (model_of file) p row)

        exact : T (is_open (states_of file) m J (marked m preds (model_of file)) q) ↔ Open (states_of file) m J Marked q
        exact = Verdicts.open_exact (states_of file) m J (marked m preds (model_of file)) q

        p : ℕ
        p = q.atom.predicate

        row : List ℕ → List ℕ
        row ν = term_states J ν q.atom.arguments

        atom : (ν : List ℕ) → IsValuation m (length q.conditions) ν → IsAtom m preds p (row ν)
        atom ν val = instance_atom (symbol_arities file) m J range (length q.conditions) ν val preds q.atom well.2

        to : Open (states_of file) m J Marked q → OpenIn file result q
        to o = (
          o.0,
          o.1,
          subst (λ (l : List ℕ). T (meets_all l q.conditions o.0)) (sym sets_are) o.2,
          (mark-one p (row o.0) (atom o.0 o.1)).1 (subst (λ (l : List ℕ). T (marked m preds l p (row o.0))) model_is o.3),
        )

        back : OpenIn file result q → Open (states_of file) m J Marked q
        back o = (
          o.0,
          o.1,
          subst (λ (l : List ℕ). T (meets_all l q.conditions o.0)) sets_are o.2,
          subst (λ (l : List ℕ). T (marked m preds l p (row o.0))) (sym model_is) ((mark-one p (row o.0) (atom o.0 o.1)).0 o.3),
        )

    verdict_exact : (i < length result.after.verdicts)
        × ((get_or result.after.verdicts i 0 ≡ 1) ↔ OpenIn file result q)
        × ((get_or result.after.verdicts i 0 ≡ 0) ↔ (¬ OpenIn file result q))
    unfolding verdict_of
    verdict_exact =
        let test = is_open (states_of file) m (interpretation_of file) (marked m preds (model_of file)) q in (
          inside (verdicts_of file) before.verdicts i i_inside,
          (λ e. open_exact.0 ((theorems.bit-one test).0 (sym verdict_is ∙ e)), λ o. verdict_is ∙ (theorems.bit-one test).1 (open_exact.1 o)),
          (
            λ e o. (theorems.bit-zero test).0 (sym verdict_is ∙ e) (open_exact.1 o),
            λ none. verdict_is ∙ (theorems.bit-zero test).1 (λ t. none (open_exact.0 t)),
          ),
        )

    clear-sound : get_or result.after.verdicts i 0 ≡ 0 → NoneDerivable (symbol_arities file) productions clauses q
    clear-sound e = theorems.clear-is-sound file admitted q listed (sym verdict_is ∙ e)

  states-exact : (s : ℕ) → Memᴰ s (sets_in file result) ↔ ((t : Tree) × IsGround (symbol_arities file) t × IsTypeSet productions t s)
  states-exact s =
      let exact = theorems.states_are_exact file admitted s in
      let set = type-set-exact productions (length (rules_of file).types) (theorems.targets file admitted) in
      subst (λ (l : List ℕ). Memᴰ s l ↔ ((t : Tree) × IsGround (symbol_arities file) t × IsTypeSet productions t s)) (sym sets_are) (
        λ at. let w = exact.0 at in (w.0, w.1, (set w.0 s).0 w.2),
        λ w. exact.1 (w.0, w.1, (set w.0 s).1 w.2),
      )

  done_meets : Demand2 file result
  unfolding states_of states_for
  done_meets =
      record {
        states = states-exact;
        rising = subst Rising (sym sets_are) (theorems.states_rise file admitted);
        determinised = sets_are;
        tables =
            λ f ts row declared ground states.
            subst
            (λ (l : List ℕ). AreStatesOf productions l ts row → (place m (symbol_arities file) f row < length result.after.tables) × IsStateOf productions l (node f ts) (J f row))
            (sym sets_are)
            (cell-exact f ts row declared ground)
            states;
        model = model-exact;
        atoms = atoms-counted;
        last_stage = last-stage;
        rounds = rounds-exact;
        bounded = theorems.rounds_are_bounded file admitted;
        verdicts = verdict_exact;
        clear = clear-sound;
      }

pub demand_2 : (file : List ℕ) {before : Buffers} {result : Analysed} → AnalysisOf file before result → result.answer.number ≡ 0 → Demand2 file result
demand_2 file {before} {result} w z =
    subst (Demand2 file) (sym ((demand_1 file).fills w z))
    (done_meets file before (theorems.accepted-is_admitted file (accepted-analysis file w z)))
