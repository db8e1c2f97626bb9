-- `listing_text::Findings::put_cell` meets its contract. Assumes nothing.
use Rattle.meaning.proofs.Prelude.{ℕ, ap, ◌∙◌, refl, subst, List, length, get_or, length-take, arith}
use Rattle.byte_runs.specs.Pasted.{Put}
use Rattle.listing_text.proofs.Found.{nth_of_section}
use Rattle.parser.proofs.Limits.{predicates-few, predicates_known, predicates-count}
use Rattle.listing_text.proofs.AtomAt.{row-asked, content-some, row_fits, line-is, line-short}
use Rattle.listing_text.proofs.Findings.put_cell.Goals as goal

pub predicates-requires : goal.predicates-requires
predicates-requires c = let file = c.args.self.now.file.now in
    omega (arith, predicates-count file c.requires.file_value.0 c.args.self.now.known.now c.requires.file_value.1, predicates-few file c.requires.file_value.0)

pub bounds-predicates-p : goal.bounds-predicates-p
bounds-predicates-p c =
    omega (arith, ap length (c.predicates.ensures ∙ predicates_known c.args.self.now.file.now c.requires.file_value.0 c.args.self.now.known.now c.requires.file_value.1))

pub row_at-row-requires : goal.row_at-row-requires
row_at-row-requires c =
    let a = c.args in
    let q = c.requires in
    let arity = ap (λ (l : List ℕ). get_or l a.p 0) (c.predicates.ensures ∙ predicates_known a.self.now.file.now q.file_value.0 a.self.now.known.now q.file_value.1) in
    row-asked a.self.now.file.now q.file_value.0 q.file_value.1 q.file_value.2 q.p_in_bounds.0 q.p_in_bounds.1 arity

pub slice_bounds-put_atom-count : goal.slice_bounds-put_atom-count
slice_bounds-put_atom-count c =
    let a = c.args in
    let q = c.requires in
    let arity = ap (λ (l : List ℕ). get_or l a.p 0) (c.predicates.ensures ∙ predicates_known a.self.now.file.now q.file_value.0 a.self.now.known.now q.file_value.1) in
    content-some a.self.now.file.now q.file_value.0 q.file_value.1 q.file_value.2 q.p_in_bounds.0 q.p_in_bounds.1 arity c.row_at-row.ensures
    (nth_of_section a.self.now.file a.p c.nth_content-content.ensures c.section-predicates.ensures.0 c.section-predicates.ensures.1) refl

pub slice_bounds-put_atom-start : goal.slice_bounds-put_atom-start
slice_bounds-put_atom-start c =
    let a = c.args in
    let q = c.requires in
    let arity = ap (λ (l : List ℕ). get_or l a.p 0) (c.predicates.ensures ∙ predicates_known a.self.now.file.now q.file_value.0 a.self.now.known.now q.file_value.1) in
    content-some a.self.now.file.now q.file_value.0 q.file_value.1 q.file_value.2 q.p_in_bounds.0 q.p_in_bounds.1 arity c.row_at-row.ensures
    (nth_of_section a.self.now.file a.p c.nth_content-content.ensures c.section-predicates.ensures.0 c.section-predicates.ensures.1) refl

pub slice_bounds-row-end : goal.slice_bounds-row-end
slice_bounds-row-end c =
    let a = c.args in
    let q = c.requires in
    let arity = ap (λ (l : List ℕ). get_or l a.p 0) (c.predicates.ensures ∙ predicates_known a.self.now.file.now q.file_value.0 a.self.now.known.now q.file_value.1) in
    row_fits a.self.now.file.now q.file_value.0 q.file_value.1 q.file_value.2 q.p_in_bounds.0 q.p_in_bounds.1 arity c.row_at-row.ensures
    (nth_of_section a.self.now.file a.p c.nth_content-content.ensures c.section-predicates.ensures.0 c.section-predicates.ensures.1) c.from.ensures

pub slice_bounds-put_atom-end-2 : goal.slice_bounds-put_atom-end-2
slice_bounds-put_atom-end-2 c =
    let a = c.args in
    let q = c.requires in
    let arity = ap (λ (l : List ℕ). get_or l a.p 0) (c.predicates.ensures ∙ predicates_known a.self.now.file.now q.file_value.0 a.self.now.known.now q.file_value.1) in
    omega (
      arith,
      length-take c.from.result c.row_at-row.result,
      row_fits a.self.now.file.now q.file_value.0 q.file_value.1 q.file_value.2 q.p_in_bounds.0 q.p_in_bounds.1 arity c.row_at-row.ensures
          (nth_of_section a.self.now.file a.p c.nth_content-content.ensures c.section-predicates.ensures.0 c.section-predicates.ensures.1) c.from.ensures,
    )

pub put_atom-requires : goal.put_atom-requires
put_atom-requires c =
    let a = c.args in
    let q = c.requires in
    let arity = ap (λ (l : List ℕ). get_or l a.p 0) (c.predicates.ensures ∙ predicates_known a.self.now.file.now q.file_value.0 a.self.now.known.now q.file_value.1) in
    omega (
      arith,
      line-short a.self.now.file.now q.file_value.0 q.file_value.1 q.file_value.2 q.p_in_bounds.0 q.p_in_bounds.1 arity c.row_at-row.ensures
          (nth_of_section a.self.now.file a.p c.nth_content-content.ensures c.section-predicates.ensures.0 c.section-predicates.ensures.1) c.from.ensures,
    )

pub returns : goal.returns
returns c =
    let a = c.args in
    let q = c.requires in
    let arity = ap (λ (l : List ℕ). get_or l a.p 0) (c.predicates.ensures ∙ predicates_known a.self.now.file.now q.file_value.0 a.self.now.known.now q.file_value.1) in
    let content = (nth_of_section a.self.now.file a.p c.nth_content-content.ensures c.section-predicates.ensures.0 c.section-predicates.ensures.1) in
    let put = c.put_atom in (
      subst (λ (l : List ℕ). Put a.out.now a.at l put.new.out put.result)
          (line-is a.self.now.file.now q.file_value.0 q.file_value.1 q.file_value.2 q.p_in_bounds.0 q.p_in_bounds.1 arity c.row_at-row.ensures content c.from.ensures)
          put.ensures,
      omega (arith, put.ensures.1, line-short a.self.now.file.now q.file_value.0 q.file_value.1 q.file_value.2 q.p_in_bounds.0 q.p_in_bounds.1 arity c.row_at-row.ensures content c.from.ensures),
    )
