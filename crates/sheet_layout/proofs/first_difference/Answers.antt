-- The goals that are not found.
use Rattle.meaning.proofs.Prelude.{ℕ, ◌+◌, ◌≡◌, sym, ap, ◌∙◌, subst, Option, List, length, get_or, arith}
use Rattle.meaning.proofs.Definitions.{word, Answer, refused, accepted, refused_at}
use Rattle.sheet_layout.proofs.Placing.{Reads, reads_none, state-found, none_found}
use Rattle.sheet_layout.proofs.Alike.{alike_none, alike_more, alike_shorter, alike_longer, alike_differ, alike_all}
use Rattle.sheet_layout.proofs.first_difference.Goals as goal
use Rattle.sheet_layout.proofs.first_difference.Goals.{then-tag_of-ne-STATE_TAG-via-then-tag_of-ne-STATE_TAG, then-tag_of-ne-STATE_TAG-via-else-tag_of-ne-STATE_TAG+then-word_of-state}

-- the answer by the lowest place that 11 fits
abbrev answered : Option ℕ → Answer
answered place = refused_at 11 place accepted

-- the two bytes of a state's field, as the number that was read
word-read : {r n : ℕ} {content front : List ℕ}
    → r ≡ word (get_or content 0 0) (get_or content 1 0)
    → content ≡ front
    → word (get_or front 0 0) (get_or front 1 0) ≡ n
    → r ≡ n
word-read says is means = says ∙ (ap (λ (l : List ℕ). word (get_or l 0 0) (get_or l 1 0)) is ∙ means)

pub loop-i-init : goal.loop-i-init
loop-i-init c = (reads_none c.args.sheet.now c.requires, alike_none _ _)

pub returns-then-tag_of-ne-STATE_TAG : goal.returns-then-tag_of-ne-STATE_TAG
returns-then-tag_of-ne-STATE_TAG c = let l = c.loop-i in
    elim c.then-tag_of-ne-STATE_TAG.branch [
      | then-tag_of-ne-STATE_TAG-via-then-tag_of-ne-STATE_TAG w ↦ ap answered (sym (alike_shorter l.invariant.1 (none_found c.args.sheet.now l.at l.i l.invariant.0 (λ e. w.if-tag_of-ne-STATE_TAG.true (c.tag_of.ensures ∙ e))) (omega arith)))
      | then-tag_of-ne-STATE_TAG-via-else-tag_of-ne-STATE_TAG+then-word_of-state w ↦
          let here = state-found c.args.sheet.now l.at l.i l.invariant.0 (sym c.tag_of.ensures ∙ w.if-tag_of-ne-STATE_TAG.false) in
          ap answered (sym (alike_differ l.invariant.1 here.place (omega arith) (λ e. w.if-word_of-state.true (word-read w.word_of.ensures w.content_of.ensures.result_value here.is ∙ e))))
    ]

pub word_of-requires : goal.word_of-requires
word_of-requires c =
    let here = state-found c.args.sheet.now c.loop-i.at c.loop-i.i c.loop-i.invariant.0 (sym c.tag_of.ensures ∙ c.if-tag_of-ne-STATE_TAG.false) in
    ap length c.content_of.ensures.result_value ∙ here.long

pub loop-i-preserved : goal.loop-i-preserved
loop-i-preserved c = let l = c.loop-i in
    let here = state-found c.args.sheet.now l.at l.i l.invariant.0 (sym c.tag_of.ensures ∙ c.if-tag_of-ne-STATE_TAG.false) in
    let says = word-read c.word_of.ensures c.content_of.ensures.result_value here.is in
    (subst (λ (n : ℕ). Reads c.args.sheet.now n (l.i + 1)) (sym c.next_of-at.ensures) here.next, alike_more l.invariant.1 here.place (omega arith) (sym says ∙ c.if-word_of-state.false))

pub returns-then-tag_of-eq-STATE_TAG : goal.returns-then-tag_of-eq-STATE_TAG
returns-then-tag_of-eq-STATE_TAG c = let l = c.loop-i in
    let all : length c.args.states.now ≡ l.i = omega (arith, l.invariant.1.right) in
    ap (refused 11) all ∙ ap answered (sym (alike_longer l.invariant.1 (state-found c.args.sheet.now l.at l.i l.invariant.0 (sym c.tag_of-2.ensures ∙ c.if-tag_of-eq-STATE_TAG.true)).place (omega arith)))

pub returns : goal.returns
returns c = let l = c.loop-i in
    ap answered (sym (alike_all l.invariant.1 (none_found c.args.sheet.now l.at l.i l.invariant.0 (λ e. c.if-tag_of-eq-STATE_TAG.false (c.tag_of-2.ensures ∙ e))) (omega arith)))
