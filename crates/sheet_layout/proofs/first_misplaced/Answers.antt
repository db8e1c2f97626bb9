-- The goals that are not found.
use Rattle.meaning.proofs.Prelude.{ℕ, ◌+◌, ◌≡◌, sym, ap, ◌∙◌, ap₂, Bool, Option, List, take, drop}
use Rattle.meaning.proofs.Definitions.{Answer, accepted, refused_at}
use Rattle.meaning.proofs.Lists.{T_of, T-not_of}
use Rattle.sheet_layout.specs.Reading.{misplaced_after}
use Rattle.sheet_layout.proofs.Walking.{stands, walk_end, walk_cut, walk_stop, walk_on}
use Rattle.sheet_layout.proofs.Placing.{seen_next}
use Rattle.sheet_layout.proofs.first_misplaced.Goals as goal

-- the answer by the lowest place that 10 fits
abbrev answered : Option ℕ → Answer
answered place = refused_at 10 place accepted

-- what was said of the field that was found
module _ (preds sheet : List ℕ) (at tag len : ℕ) where
  said : {r atoms before : Bool} {content : List ℕ}
      → r ≡ misplaced_after preds atoms tag content
      → atoms ≡ before
      → content ≡ take len (drop (at + 3) sheet)
      → r ≡ misplaced_after preds before tag (take len (drop (at + 3) sheet))
  said e b l = e ∙ ap₂ (λ (b : Bool) (l : List ℕ). misplaced_after preds b tag l) b l

pub returns-then-is_misplaced : goal.returns-then-is_misplaced
returns-then-is_misplaced c =
    let stand = stands c.args.sheet.now c.loop-tag.at c.field_of.ensures c.in-Whole.is in
    let says = said c.args.preds.now c.args.sheet.now c.loop-tag.at c.in-Whole.tag c.in-Whole.field-1 c.is_misplaced.ensures c.loop-tag.invariant.2 (c.content_of.ensures.result_value ∙ stand.content-is) in
    ap answered (sym (walk_stop c.loop-tag.invariant.1 stand (T_of _ (sym says ∙ c.if-is_misplaced.true))))

pub loop-tag-preserved : goal.loop-tag-preserved
loop-tag-preserved c =
    let l = c.loop-tag in
    let stand = stands c.args.sheet.now l.at c.field_of.ensures c.in-Whole.is in
    let says = said c.args.preds.now c.args.sheet.now l.at c.in-Whole.tag c.in-Whole.field-1 c.is_misplaced.ensures l.invariant.2 (c.content_of.ensures.result_value ∙ stand.content-is) in
    let fine = T-not_of _ (sym says ∙ c.if-is_misplaced.false) in
    (_, walk_on l.invariant.1 stand c.next_of-at.ensures fine, seen_next c.args.preds.now l.invariant.0 c.in-Whole.tag _ fine)

pub returns-in-Cut : goal.returns-in-Cut
returns-in-Cut c = ap answered (sym (walk_cut c.loop-tag.invariant.1 c.field_of.ensures c.in-Cut.is tt))

pub returns-in-End : goal.returns-in-End
returns-in-End c = ap answered (sym (walk_end c.loop-tag.invariant.1 c.field_of.ensures c.in-End.is))
