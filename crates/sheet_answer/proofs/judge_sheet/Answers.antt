-- `sheet_answer::judge_sheet` meets its contract: each search is made where no earlier number fits. Assumes nothing.
use Rattle.meaning.proofs.Prelude.{ℕ, List, max, ◌≡◌, refl, sym, ap, ◌∙◌, subst, none, lit<, length, drop}
use Rattle.meaning.proofs.Definitions.{lowest, look_up, violated_at, marked_atoms, atom_tag, fields, contents_of, first_field, misplaced, states_in, differ, wrong_atom}
use Rattle.acceptance.proofs.Handing.{handed_modelling, handed_clauses}
use Rattle.fields.specs.Found.{contents_from}
use Rattle.declarations.specs.Tests.{earlier_in}
use Rattle.evaluation.specs.Search.{clauses_in}
use Rattle.evaluation.proofs.Definitions.{Modelling}
use Rattle.sheet_atoms.specs.Holding.{Holding}
use Rattle.sheet_answer.proofs.Judging.{nowhere, somewhere, segmented, ends_ten, ends_eleven, ends_twelve, ends_thirteen, ends_passed}
use Rattle.sheet_answer.proofs.judge_sheet.Goals as goal
use Rattle.sheet_answer.proofs.judge_sheet.Goals.{In_default, In_default-first_difference, In_default-mark_atoms, After-section-clauses}

-- 10, 11 and 12 do not fit
none10 : (c : In_default) → first_field (misplaced c.args.handed.now.predicates.arities.now) (fields c.args.sheet.now) ≡ none
none10 c = nowhere (lit< tt) c.in_default.ensures refl

none11 : (c : In_default-first_difference) → lowest (max (length (states_in (fields c.args.sheet.now))) (length c.args.handed.now.accepted.states.now)) (differ (states_in (fields c.args.sheet.now)) c.args.handed.now.accepted.states.now) ≡ none
none11 c = nowhere (lit< tt) c.in_default-first_difference.ensures refl

none12 : (c : In_default-mark_atoms) → first_field (wrong_atom c.args.handed.now.automaton.m) (fields c.args.sheet.now) ≡ none
none12 c = nowhere (lit< tt) c.in_default-mark_atoms.ensures.fault refl

holding : (c : In_default-mark_atoms) → Holding c.args.handed.now.automaton.m c.args.handed.now.predicates.arities.now (contents_of atom_tag (fields c.args.sheet.now)) c.mark_atoms.new.marks
holding c = c.mark_atoms.ensures.holding (none12 c)

pub returns-in-Some-clause-answer : goal.returns-in-Some-clause-answer
returns-in-Some-clause-answer c = ends_ten c.requires.0.handed c.requires.0.states_are c.args.sheet.now (somewhere (lit< tt) c.in-Some.ensures refl)

pub first_difference-requires : goal.first_difference-requires
first_difference-requires c = record { preds = c.args.handed.now.predicates.arities.now; fits = none10 (goal.at.first_difference-requires c).In_default }

pub returns-in-Some-first_difference-clause-answer : goal.returns-in-Some-first_difference-clause-answer
returns-in-Some-first_difference-clause-answer c =
    ends_eleven c.requires.0.handed c.requires.0.states_are c.args.sheet.now (none10 (goal.at.returns-in-Some-first_difference-clause-answer c).In_default) (somewhere (lit< tt) c.in-Some-first_difference.ensures refl)

pub mark_atoms-requires : goal.mark_atoms-requires
mark_atoms-requires c = (none10 (goal.at.mark_atoms-requires c).In_default, segmented c.requires.0.handed, c.requires.1)

pub returns-in-Some-mark_atoms-clause-answer : goal.returns-in-Some-mark_atoms-clause-answer
returns-in-Some-mark_atoms-clause-answer c =
    ends_twelve c.requires.0.handed c.requires.0.states_are c.args.sheet.now (none10 (goal.at.returns-in-Some-mark_atoms-clause-answer c).In_default) (none11 (goal.at.returns-in-Some-mark_atoms-clause-answer c).In_default-first_difference) (somewhere (lit< tt) c.in-Some-mark_atoms.ensures.fault refl)

-- the clauses that are searched are the file's
searched : (c : After-section-clauses) → contents_from c.section-clauses.result.count (drop c.section-clauses.result.from c.section-clauses.result.bytes.now) ≡ earlier_in c.args.handed.now.accepted.file.now c.args.handed.now.accepted.known.now 5
searched c = let s = c.section-clauses.ensures in λ i. contents_from (s.2 i) (drop (s.1 i) (s.0 i).now)

pub first_violation-requires : goal.first_violation-requires
first_violation-requires c =
    let held = holding (goal.at.first_violation-requires c).In_default-mark_atoms in
    let e = searched (goal.at.first_violation-requires c).After-section-clauses in
    let a = c.args.handed.now in
    let h = c.requires.0.handed in record {
      modelling = (
        subst (λ (cs : List (List ℕ)). Modelling a.automaton.m a.automaton.arities.now a.automaton.starts.now a.automaton.tables.now a.predicates.arities.now a.predicates.segments.now cs) (sym e) (handed_modelling h),
        ap length e ∙ handed_clauses h ∙ sym c.section-clauses.ensures.2,
      );
      marks_len = (held.size, held.new);
    }

-- the search over the same contents
same_search : (m : ℕ) (symbols tables preds marks : List ℕ) {xs ys : List (List ℕ)} → xs ≡ ys
    → lowest (length (clauses_in symbols preds xs)) (violated_at m (look_up m symbols tables) (marked_atoms m preds marks) (clauses_in symbols preds xs))
    ≡ lowest (length (clauses_in symbols preds ys)) (violated_at m (look_up m symbols tables) (marked_atoms m preds marks) (clauses_in symbols preds ys))
same_search m symbols tables preds marks e =
    ap (λ (cs : List (List ℕ)). lowest (length (clauses_in symbols preds cs)) (violated_at m (look_up m symbols tables) (marked_atoms m preds marks) (clauses_in symbols preds cs))) e

pub returns-in-Some-first_violation-clause-answer : goal.returns-in-Some-first_violation-clause-answer
returns-in-Some-first_violation-clause-answer c =
    ends_thirteen c.requires.0.handed c.requires.0.states_are c.args.sheet.now (none10 (goal.at.returns-in-Some-first_violation-clause-answer c).In_default) (none11 (goal.at.returns-in-Some-first_violation-clause-answer c).In_default-first_difference) (none12 (goal.at.returns-in-Some-first_violation-clause-answer c).In_default-mark_atoms) (holding (goal.at.returns-in-Some-first_violation-clause-answer c).In_default-mark_atoms)
    (sym (same_search c.args.handed.now.automaton.m c.args.handed.now.automaton.arities.now c.args.handed.now.automaton.tables.now c.args.handed.now.predicates.arities.now c.mark_atoms.new.marks (searched (goal.at.returns-in-Some-first_violation-clause-answer c).After-section-clauses)) ∙ somewhere (lit< tt) c.in-Some-first_violation.ensures.result_value refl)

pub returns-clause-answer : goal.returns-clause-answer
returns-clause-answer c =
    ends_passed c.requires.0.handed c.requires.0.states_are c.args.sheet.now (none10 (goal.at.returns-clause-answer c).In_default) (none11 (goal.at.returns-clause-answer c).In_default-first_difference) (none12 (goal.at.returns-clause-answer c).In_default-mark_atoms) (holding (goal.at.returns-clause-answer c).In_default-mark_atoms)
    (sym (same_search c.args.handed.now.automaton.m c.args.handed.now.automaton.arities.now c.args.handed.now.automaton.tables.now c.args.handed.now.predicates.arities.now c.mark_atoms.new.marks (searched (goal.at.returns-clause-answer c).After-section-clauses)) ∙ nowhere (lit< tt) c.in_default-first_violation.ensures.result_value refl)
