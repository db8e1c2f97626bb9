-- What is handed on, by the names that the code has for it. Assumes nothing.
use Rattle.meaning.proofs.Prelude.{ℕ, ◌≤◌, ◌*◌, ◌≡◌, sym, ap, ◌∙◌, subst, ap₂, List, map, lit≤, length, get_or, take, le_trans}
use Rattle.meaning.proofs.Definitions.{All, lowest, cells, model, rounds, marked_atoms, violated_at, rules_of, states_of, interpretation_of, tables_of}
use Rattle.meaning.proofs.Definitions.{rounds_of, model_of, atoms_of, verdicts_of, written, query, look_up}
use Rattle.meaning.proofs.Lists.{All-map}
use Rattle.meaning.proofs.Stages.{stage-bits}
use Rattle.declarations.specs.declared.Known.{Known}
use Rattle.declarations.specs.Tests.{known_types, known_symbols, known_predicates, earlier_in}
use Rattle.parser.proofs.Limits.{accepted-read, accepted-few}
use Rattle.acceptance.proofs.Ready.{limited}
use Rattle.evaluation.proofs.Definitions.{both_masks, AllShown, clauses_in, Short, PresentOnly, Modelling, Asking}
use Rattle.evaluation.proofs.Empty.{room}
use Rattle.cells.specs.Starts.{Starts}
use Rattle.acceptance.specs.Handed.{Handed, Queries, verdict_in}
use Rattle.byte_runs.proofs.Written.{holds-room, holds-first}
use Rattle.acceptance.proofs.Handed as laws

module _ {file : List ℕ} {known : Known} {symbols preds : List ℕ} {m : ℕ} {starts segments tables : List ℕ} (h : Handed file known symbols preds m starts segments tables) where
  -- what holds of what is known holds of what is handed on
  at : (P : ℕ → List ℕ → List ℕ → List ℕ → Type 0) → P (length (states_of file)) (known_symbols known) (known_predicates known) (written (tables_of file) tables) → P m symbols preds tables
  at P p =
      subst (λ (n : ℕ). P n symbols preds tables) (sym h.count)
      (subst (λ (ss : List ℕ). P (length (states_of file)) ss preds tables) (sym h.symbols_are)
      (subst (λ (ps : List ℕ). P (length (states_of file)) (known_symbols known) ps tables) (sym h.preds_are)
      (subst (λ (t : List ℕ). P (length (states_of file)) (known_symbols known) (known_predicates known) t) (sym h.table) p)))

  starts_known : Starts (length (states_of file)) (known_symbols known) starts
  starts_known = subst (λ (n : ℕ). Starts n (known_symbols known) starts) h.count (subst (λ (ss : List ℕ). Starts m ss starts) h.symbols_are h.begin)

  segments_known : Starts (length (states_of file)) (known_predicates known) segments
  segments_known = subst (λ (n : ℕ). Starts n (known_predicates known) segments) h.count (subst (λ (ps : List ℕ). Starts m ps segments) h.preds_are h.segment)

  pub few-states : m ≤ 16
  few-states = subst (λ (n : ℕ). n ≤ 16) (sym h.count) (accepted-few file h.answer)

  pub few-preds : length preds ≤ 16
  few-preds = subst (λ (ps : List ℕ). length ps ≤ 16) (sym h.preds_are) (laws.few-predicates file known h.answer h.knows)

  pub narrow-preds : All (λ n. n ≤ 3) preds
  narrow-preds = subst (All (λ n. n ≤ 3)) (sym h.preds_are) (laws.narrow-predicates file known h.answer h.knows)

  pub fit_preds : All (λ n. n ≤ 4) preds
  fit_preds = All-map preds (λ n le. le_trans le (lit≤ tt)) narrow-preds

  pub handed_modelling : Modelling m symbols starts tables preds segments (earlier_in file known 5)
  handed_modelling =
      at (λ n ss ps t. Modelling n ss starts t ps segments (earlier_in file known 5))
      (laws.modelling file known h.answer h.knows tables starts segments starts_known.enough starts_known.each segments_known.enough segments_known.each)

  pub handed_clauses : length (earlier_in file known 5) ≡ get_or known.counts 5 0
  handed_clauses = laws.clauses-counted file known h.answer h.knows

  pub few-clauses : get_or known.counts 5 0 ≤ 64
  few-clauses = subst (λ (n : ℕ). n ≤ 64) handed_clauses handed_modelling.most

  pub handed_model : model m (look_up m symbols tables) preds (clauses_in symbols preds (earlier_in file known 5)) ≡ model_of file
  handed_model =
      at (λ n ss ps t. model n (look_up n ss t) ps (clauses_in ss ps (earlier_in file known 5)) ≡ model_of file) (laws.model_is file known h.answer h.knows tables)

  pub handed_rounds : rounds m (look_up m symbols tables) preds (clauses_in symbols preds (earlier_in file known 5)) ≡ rounds_of file
  handed_rounds =
      at (λ n ss ps t. rounds n (look_up n ss t) ps (clauses_in ss ps (earlier_in file known 5)) ≡ rounds_of file) (laws.rounds_are file known h.answer h.knows tables)

  pub handed_violations : (atoms : List (List ℕ))
      → lowest (length (clauses_in symbols preds (earlier_in file known 5))) (violated_at m (look_up m symbols tables) atoms (clauses_in symbols preds (earlier_in file known 5)))
      ≡ lowest (length (rules_of file).clauses) (violated_at (length (states_of file)) (interpretation_of file) atoms (rules_of file).clauses)
  handed_violations atoms =
      at (λ n ss ps t.
      lowest (length (clauses_in ss ps (earlier_in file known 5))) (violated_at n (look_up n ss t) atoms (clauses_in ss ps (earlier_in file known 5)))
      ≡ lowest (length (rules_of file).clauses) (violated_at (length (states_of file)) (interpretation_of file) atoms (rules_of file).clauses))
      (laws.violations_are file known h.answer h.knows tables atoms)

  pub handed_size : cells m preds ≡ length (model_of file)
  handed_size = at (λ n ss ps t. cells n ps ≡ length (model_of file)) (laws.model-size file known h.answer h.knows)

  pub handed_atoms : length (marked_atoms m preds (model_of file)) ≡ length (atoms_of file)
  unfolding atoms_of
  handed_atoms = at (λ n ss ps t. length (marked_atoms n ps (model_of file)) ≡ length (atoms_of file)) (laws.atoms_are file known h.answer h.knows)

  -- the marks of a model are 0 and 1
  pub handed_bits : PresentOnly (model_of file)
  unfolding model
  handed_bits =
      subst PresentOnly handed_model
      (stage-bits m (look_up m symbols tables) preds (clauses_in symbols preds (earlier_in file known 5)) (rounds m (look_up m symbols tables) preds (clauses_in symbols preds (earlier_in file known 5))))

  pub handed_asking : (sets masks marks : List ℕ)
      → sets ≡ states_of file
      → marks ≡ model_of file
      → AllShown m preds (model_of file) masks
      → length preds * both_masks ≤ length masks
      → Asking (known_types known) m sets symbols starts tables preds segments masks marks
  handed_asking sets masks marks is mark shown room =
      let asked = handed_modelling in
      record {
        searching =
            record {
              some = asked.some;
              setting = asked.setting;
              binary = asked.binary;
              few = asked.few;
              narrow = asked.narrow;
              enough = asked.enough;
              segmented = asked.segmented;
              size = ap length mark ∙ sym handed_size;
              masked = room;
              shown = subst (λ (l : List ℕ). AllShown m preds l masks) (sym mark) shown;
            };
        only = subst PresentOnly (sym mark) handed_bits;
        symbols = asked.symbols;
        few_types = (limited file known (accepted-read file h.answer) h.knows).bits;
        sized = ap length is ∙ sym h.count;
      }

  pub handed_queries : Queries (known_types known) symbols preds (earlier_in file known 6)
  handed_queries = at (λ n ss ps t. Queries (known_types known) ss ps (earlier_in file known 6)) (laws.queries-read file known h.answer h.knows)

  pub handed_short : Short (earlier_in file known 6)
  handed_short = laws.contents-short file known h.answer h.knows query

  pub handed_count : length (earlier_in file known 6) ≡ get_or known.counts 6 0
  handed_count = laws.queries-counted file known h.answer h.knows

  pub handed_verdicts : (sets marks : List ℕ) → sets ≡ states_of file → marks ≡ model_of file → map (verdict_in (known_types known) m sets symbols tables preds marks) (earlier_in file known 6) ≡ verdicts_of file
  handed_verdicts sets marks is mark =
      ap₂ (λ (s l : List ℕ). map (verdict_in (known_types known) m s symbols tables preds l) (earlier_in file known 6)) is mark
      ∙ at (λ n ss ps t. map (verdict_in (known_types known) n (states_of file) ss t ps (model_of file)) (earlier_in file known 6) ≡ verdicts_of file) (laws.verdicts_are_lem file known h.answer h.knows tables)

  pub handed_needed : length (verdicts_of file) ≡ get_or known.counts 6 0
  handed_needed = laws.verdicts_needed file known h.answer h.knows

  -- the model in the marks
  module _ {marks : List ℕ} (is : marks ≡ written (model_of file) marks) {n : ℕ} (e : n ≡ cells m preds) where
    size_is : length (model_of file) ≡ n
    size_is = sym (e ∙ handed_size)

    pub marks-room : n ≤ length marks
    marks-room = holds-room (model_of file) marks is (sym size_is)

    pub marks_are_lem : take n marks ≡ model_of file
    marks_are_lem = holds-first (model_of file) marks is (sym size_is)
