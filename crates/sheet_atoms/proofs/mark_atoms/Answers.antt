-- The goals that are not found.
use Rattle.meaning.proofs.Prelude.{ℕ, sym, ◌∙◌, subst, List, [], T, arith}
use Rattle.meaning.proofs.Definitions.{is_atom_content}
use Rattle.sheet_atoms.proofs.Turns.{reached-none, ends, next_past, atom-here, stop_wrong, turn_atom, turn_other}
use Rattle.sheet_atoms.proofs.mark_atoms.Goals as goal
use Rattle.sheet_atoms.proofs.mark_atoms.Goals.{else-tag_of-eq-ATOM_TAG-via-else-tag_of-eq-ATOM_TAG, else-tag_of-eq-ATOM_TAG-via-then-tag_of-eq-ATOM_TAG+else-not-mark_atom}

pub loop-at-init : goal.loop-at-init
loop-at-init c = let a = c.args in
    ([], reached-none a.m a.predicates.now.arities.now a.sheet.now c.requires.2)

pub mark_atom-requires : goal.mark_atom-requires
mark_atom-requires c = let a = c.args in
    let h = c.requires in
    let l = c.loop-at in (
      subst (λ (content : List ℕ). T (is_atom_content a.predicates.now.arities.now content)) (sym c.content_of.ensures.result_value) (atom-here a.m a.predicates.now.arities.now a.sheet.now l.invariant.1 h.0 (omega arith) (sym c.tag_of.ensures ∙ c.if-tag_of-eq-ATOM_TAG.true)),
      h.1,
      l.invariant.1.holding.size,
    )

pub returns-then-not-mark_atom : goal.returns-then-not-mark_atom
returns-then-not-mark_atom c = let a = c.args in
    let h = c.requires in
    let l = c.loop-at in
    let r = stop_wrong a.m a.predicates.now.arities.now a.sheet.now l.invariant.1 h.0 (omega arith) (sym c.tag_of.ensures ∙ c.if-tag_of-eq-ATOM_TAG.true) c.content_of.ensures.result_value c.mark_atom.ensures.0 c.mark_atom.ensures.1 c.if-not-mark_atom.true in
    record { fault = r.0; size = r.1.0; holding = r.1.1 }

pub loop-at-smaller : goal.loop-at-smaller
loop-at-smaller c = let a = c.args in
    let h = c.requires in
    let l = c.loop-at in
    omega (arith, c.next_of-at.ensures, next_past a.m a.predicates.now.arities.now a.sheet.now l.invariant.1 h.0 (omega arith))

pub loop-at-preserved : goal.loop-at-preserved
loop-at-preserved c = let a = c.args in
    let h = c.requires in
    let l = c.loop-at in
    elim c.else-tag_of-eq-ATOM_TAG.branch [
      | else-tag_of-eq-ATOM_TAG-via-then-tag_of-eq-ATOM_TAG+else-not-mark_atom w ↦ turn_atom a.m a.predicates.now.arities.now a.sheet.now l.invariant.1 h.0 (omega arith) (sym c.tag_of.ensures ∙ w.if-tag_of-eq-ATOM_TAG.true) w.content_of.ensures.result_value w.mark_atom.ensures.0 (w.marks-is ∙ w.mark_atom.ensures.1) c.next_of-at.ensures w.if-not-mark_atom.false
      | else-tag_of-eq-ATOM_TAG-via-else-tag_of-eq-ATOM_TAG w ↦ turn_other a.m a.predicates.now.arities.now a.sheet.now l.invariant.1 h.0 (omega arith) c.next_of-at.ensures (λ e. w.if-tag_of-eq-ATOM_TAG.false (c.tag_of.ensures ∙ e)) w.marks-is
    ]

pub returns : goal.returns
returns c = let a = c.args in
    let l = c.loop-at in
    let r = ends a.m a.predicates.now.arities.now a.sheet.now l.invariant.1 (omega arith) in
    record { fault = r.0; size = r.1.0; holding = r.1.1 }
