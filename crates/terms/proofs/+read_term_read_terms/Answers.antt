-- Each way out of `terms::read_term` and `terms::read_terms` is one law of proofs/Walk.antt. Assumes nothing.
use Rattle.meaning.proofs.Prelude.{◌+◌, ◌-◌, sym, ◌∙◌, arith}
use Rattle.terms.proofs.Walk.{term-end, term-variable, term_no_variable, term-symbol, term_no_symbol, term_past, terms_none, terms_bad, terms_past}
use Rattle.terms.proofs.+read_term_read_terms.Goals as goal

pub read_term-returns-in_err-b : goal.read_term-returns-in_err-b
read_term-returns-in_err-b t c = let past = c.in_err-b.ensures.lookup.3 in
    c.from_residual.ensures ∙ sym (term-end _ _ c.args.s.now c.args.at (omega arith))

pub read_term-returns-then-b-signature : goal.read_term-returns-then-b-signature
read_term-returns-then-b-signature t c = let b = c.in_ok-b.ensures.lookup.3 in
    let byte = b.1 0 in
    sym (term-variable _ _ c.args.s.now c.args.at b.0 (omega arith) (omega arith))

pub read_term-returns-then-b-ge-FIRST_VARIABLE : goal.read_term-returns-then-b-ge-FIRST_VARIABLE
read_term-returns-then-b-ge-FIRST_VARIABLE t c = let b = c.in_ok-b.ensures.lookup.3 in
    let byte = b.1 0 in
    sym (term_no_variable _ _ c.args.s.now c.args.at b.0 (omega arith) (omega arith))

pub read_term-returns-in_err-arity : goal.read_term-returns-in_err-arity
read_term-returns-in_err-arity t c = let b = c.in_ok-b.ensures.lookup.3 in
    let past = c.in_err-arity.ensures.lookup.3 in
    c.from_residual-in_err-arity.ensures
    ∙ sym (term_no_symbol _ _ c.args.s.now c.args.at b.0 _ (c.from.ensures ∙ b.1 0) (omega arith) past)

pub read_term-returns : goal.read_term-returns
read_term-returns t c = let b = c.in_ok-b.ensures.lookup.3 in
    let arity = c.in_ok-arity.ensures.lookup.3 in
    c.read_terms.ensures
    ∙ term-symbol _ _ c.args.s.now c.args.at b.0 _ (c.from.ensures ∙ b.1 0) (omega arith) arity.0 _ (arity.1 0)

pub read_terms-returns-in_err-end : goal.read_terms-returns-in_err-end
read_terms-returns-in_err-end t c = let l = c.loop in
    c.from_residual.ensures
    ∙ (sym (terms_bad _ _ c.args.s.now (c.args.n - l.counter) l.end (omega arith) c.in_err-end.ensures) ∙ l.invariant.left)

pub read_terms-loop-preserved : goal.read_terms-loop-preserved
read_terms-loop-preserved t c = let l = c.loop in
    let read = term_past _ _ c.args.s.now l.end _ l.invariant.inside c.in_ok-end.ensures in
    record {
      ahead = omega (arith, read.ahead);
      inside = read.inside;
      left = terms_past _ _ c.args.s.now (c.args.n - l.counter) (c.args.n - (l.counter + 1)) l.end _ (omega arith) l.invariant.inside c.in_ok-end.ensures
          ∙ l.invariant.left;
    }

pub read_terms-returns : goal.read_terms-returns
read_terms-returns t c = let l = c.loop in
    sym (terms_none _ _ c.args.s.now (c.args.n - l.counter) l.end (omega arith) l.invariant.inside) ∙ l.invariant.left
