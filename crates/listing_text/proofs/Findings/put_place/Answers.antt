-- `listing_text::Findings::put_place` meets its contract. Assumes nothing.
use Rattle.meaning.proofs.Prelude.{ℕ, ◌+◌, ◌≤◌, ◌<◌, ◌^◌, ◌≡◌, sym, ap, ◌∙◌, subst, List, length, get_or, arith}
use Rattle.meaning.proofs.Definitions.{All, start, cells, predicate_arities}
use Rattle.meaning.proofs.Lists.{All-map}
use Rattle.byte_runs.specs.Pasted.{Put}
use Rattle.byte_runs.proofs.Putting.{put_none}
use Rattle.meaning.proofs.Calls.{marks-length}
use Rattle.listing_text.proofs.Numbers.{line_marked, line_unmarked}
use Rattle.parser.proofs.Limits.{accepted-few, predicates-few, predicates-small, predicates_known, predicates-count}
use Rattle.listing_text.proofs.Findings.put_place.Goals as goal

pub returns-then-self-j-eq0 : goal.returns-then-self-j-eq0
returns-then-self-j-eq0 c = let a = c.args in (
  subst (λ (l : List ℕ). Put a.out.now a.at l a.out.now a.at)
      (line_unmarked a.self.now.file.now a.self.now.marks.now a.j c.requires.marks_value.0 c.requires.marks_value.1 c.if-self-j-eq0.true)
      (put_none a.out.now a.at),
  omega arith,
)

pub predicates-requires : goal.predicates-requires
predicates-requires c = let file = c.args.self.now.file.now in
    omega (arith, predicates-count file c.requires.file_value.0 c.args.self.now.known.now c.requires.file_value.1, predicates-few file c.requires.file_value.0)

pub place_of-place-requires : goal.place_of-place-requires
place_of-place-requires c =
    let a = c.args in
    let file = a.self.now.file.now in
    let m = length a.self.now.states.now in
    let arities = c.predicates.ensures ∙ predicates_known file c.requires.file_value.0 a.self.now.known.now c.requires.file_value.1 in
    subst (λ (l : List ℕ). (m ≤ 16) × All (λ n. n ≤ 4) l × (a.j < cells m l)) (sym arities) (
      omega (arith, accepted-few file c.requires.file_value.0),
      All-map (predicate_arities file) (λ n h. omega arith) (predicates-small file c.requires.file_value.0),
      subst (λ (m : ℕ). a.j < cells m (predicate_arities file)) (sym c.requires.file_value.2) (omega (arith, marks-length file, ap length c.requires.marks_value.0)),
    )

-- the predicate and the cell that are found are the place's
abbrev Found : ℕ → ℕ → ℕ → ℕ → List ℕ → Type 0
Found m j p c l = (p < length l) × (c < m ^ get_or l p 0) × (j ≡ start m l p + c)

pub put_cell-requires : goal.put_cell-requires
put_cell-requires c =
    let a = c.args in
    let p = c.place_of-place.result in
    let w = subst (Found (length a.self.now.states.now) a.j p.predicate p.cell) (c.predicates.ensures ∙ predicates_known a.self.now.file.now c.requires.file_value.0 a.self.now.known.now c.requires.file_value.1) c.place_of-place.ensures in
    record { file_value = c.requires.file_value; p_in_bounds = (w.0, w.1, c.requires.marks_value.2) }

pub returns : goal.returns
returns c =
    let a = c.args in
    let p = c.place_of-place.result in
    let w = subst (Found (length a.self.now.states.now) a.j p.predicate p.cell) (c.predicates.ensures ∙ predicates_known a.self.now.file.now c.requires.file_value.0 a.self.now.known.now c.requires.file_value.1) c.place_of-place.ensures in
    let put = c.put_cell in (
      subst (λ (l : List ℕ). Put a.out.now a.at l put.new.out put.result)
          (line_marked a.self.now.file.now a.self.now.marks.now (length a.self.now.states.now) a.j p.predicate p.cell c.requires.marks_value.0 c.requires.file_value.2 w.0 w.1 w.2 c.if-self-j-eq0.false)
          put.ensures.0,
      put.ensures.1,
    )
