-- `automaton::fill` meets its contract. The loop's invariant: the productions left, marked in the buffer as it is, give what all of them give in the
-- emptied buffer. Assumes nothing.
use Rattle.meaning.proofs.Prelude.{ℕ, ◌≤◌, ◌-◌, ◌≡◌, drop}
use Rattle.fields.specs.Found.{contents_from}
use Rattle.automaton.specs.Marking.{AreProductions}
use Rattle.automaton.proofs.Turns.{mark_from}
use Rattle.automaton.proofs.fill.Given as goal

abbrev pub invariant-loop : goal.invariant-loop
invariant-loop l = record {
  left : (types : ℕ) × (types ≤ 16) × AreProductions types l.arities (l.section.count - l.counter) (contents_from (l.section.count - l.counter) (drop l.at l.section.bytes.now));
  marked : mark_from l.states l.arities l.section.bytes.now (l.section.count - l.counter) l.at l.sets
      ≡ mark_from l.states l.arities l.section.bytes.now l.section.count l.section.from l.initial.sets;
}
