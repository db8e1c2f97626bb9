-- The measures of `terms::read_term` and `terms::read_terms`: twice the bytes left, and one more for a list, which calls the reader of a term at
-- the same place. The invariant of the list: what is left of it, from where the loop stands, ends where the whole list does. Assumes nothing.
use Rattle.meaning.proofs.Prelude.{◌≡◌, ◌≤◌, ◌-◌, ◌*◌, suc, length}
use Rattle.terms.proofs.Walk.{terms_at}
use Rattle.terms.proofs.+read_term_read_terms.Given as goal

abbrev pub decreases-read_term : goal.decreases-read_term
decreases-read_term l = 2 * (length l.s.now - l.at)

abbrev pub decreases-read_terms : goal.decreases-read_terms
decreases-read_terms l = suc (2 * (length l.s.now - l.at))

abbrev pub invariant-read_terms-loop : goal.invariant-read_terms-loop
invariant-read_terms-loop l = record {
  ahead : l.at ≤ l.end;
  inside : l.end ≤ length l.s;
  left : terms_at l.signature.arities.now l.signature.variables l.s (l.n - l.counter) l.end
      ≡ terms_at l.signature.arities.now l.signature.variables l.s l.n l.at;
}
