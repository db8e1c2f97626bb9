-- What an accepted file gives to those that are handed its arities and states: that they are few and narrow, and how much room they need. Assumes nothing.
use Rattle.meaning.proofs.Prelude.{ℕ, ◌≤◌, ◌≡◌, sym, ap, ◌∙◌, subst, ap₂, List, lit≤, length, get_or, le_trans, arith}
use Rattle.meaning.proofs.Definitions.{All, cells, tables_of, model_of, verdicts_of, written}
use Rattle.declarations.specs.declared.Known.{Known}
use Rattle.declarations.specs.Tests.{known_symbols, known_predicates}
use Rattle.parser.proofs.Limits.{accepted-read, accepted-few, predicates-few, predicates-count}
use Rattle.byte_runs.proofs.Written.{written_again}
use Rattle.cells.specs.Starts.{Starts}
use Rattle.acceptance.specs.Accepted.{IsAccepted}
use Rattle.acceptance.specs.Handed.{Handed}
use Rattle.acceptance.proofs.Ready as ready
use Rattle.acceptance.proofs.Handed as laws

-- so many states, and so many arities of at most 4
abbrev pub FewAndNarrow : ℕ → ℕ → List ℕ → Type 0
FewAndNarrow most m arities = (m ≤ 16) × (length arities ≤ most) × All (λ n. n ≤ 4) arities

module _ {file : List ℕ} {known : Known} {states : List ℕ} (h : IsAccepted file known states) where
  pub few-states : length states ≤ 16
  few-states = subst (λ (l : List ℕ). length l ≤ 16) (sym h.states_are) (accepted-few file h.answer)

  -- as many symbols and predicates as may be
  pub symbols-counted : get_or known.counts 1 0 ≤ 24
  symbols-counted = ready.symbols-counted file known (accepted-read file h.answer) h.knows

  pub predicates-counted : get_or known.counts 4 0 ≤ 16
  predicates-counted = omega (arith, predicates-count file h.answer known h.knows, predicates-few file h.answer)

  pub queries-counted : get_or known.counts 6 0 ≡ length (verdicts_of file)
  queries-counted = sym (laws.verdicts_needed file known h.answer h.knows)

  module _ {symbols : List ℕ} (e : symbols ≡ known_symbols known) where
    pub symbols-asked : FewAndNarrow 24 (length states) symbols
    symbols-asked = (
      few-states,
      subst (λ (l : List ℕ). length l ≤ 24) (sym e) (laws.few-symbols file known h.answer h.knows),
      subst (All (λ n. n ≤ 4)) (sym e) (laws.narrow-symbols file known h.answer h.knows),
    )

    pub table-cells : cells (length states) symbols ≡ length (tables_of file)
    table-cells = ap₂ (λ (l ss : List ℕ). cells (length l) ss) h.states_are e ∙ sym (ready.tables-length file known (accepted-read file h.answer) h.knows)

  module _ {preds : List ℕ} (e : preds ≡ known_predicates known) where
    pub preds-asked : FewAndNarrow 16 (length states) preds
    preds-asked = (
      few-states,
      subst (λ (l : List ℕ). length l ≤ 16) (sym e) (laws.few-predicates file known h.answer h.knows),
      subst (All (λ n. n ≤ 4)) (sym e) (laws.fit_predicates file known h.answer h.knows),
    )

    pub mark-cells : cells (length states) preds ≡ length (model_of file)
    mark-cells = ap₂ (λ (l ps : List ℕ). cells (length l) ps) h.states_are e ∙ laws.model-size file known h.answer h.knows

    -- more of them would do
    pub preds-within : (most : ℕ) → 16 ≤ most → FewAndNarrow most (length states) preds
    preds-within most le = (preds-asked.0, le_trans preds-asked.1 le, preds-asked.2)

  -- both, as the lengths of lent buffers are looked at
  pub lengths-asked : {symbols preds : List ℕ} → symbols ≡ known_symbols known → preds ≡ known_predicates known
      → (length states ≤ 16) × (length symbols ≤ 32) × All (λ n. n ≤ 4) symbols × (length preds ≤ 32) × All (λ n. n ≤ 4) preds
  lengths-asked s p =
      let symbols = symbols-asked s in
      let preds = preds-within p 32 (lit≤ tt) in
      (few-states, le_trans symbols.1 (lit≤ tt), symbols.2, preds.1, preds.2)

  -- what is handed on, once the tables are written
  pub handed : {symbols preds starts segments tables : List ℕ} (before : List ℕ)
      → symbols ≡ known_symbols known
      → preds ≡ known_predicates known
      → Starts (length states) symbols starts
      → Starts (length states) preds segments
      → tables ≡ written (tables_of file) before
      → Handed file known symbols preds (length states) starts segments tables
  handed before s p starts segments table =
      record {
        answer = h.answer;
        knows = h.knows;
        symbols_are = s;
        preds_are = p;
        count = ap length h.states_are;
        begin = starts;
        segment = segments;
        table = table ∙ (sym (written_again (tables_of file) before) ∙ ap (written (tables_of file)) (sym table));
      }
