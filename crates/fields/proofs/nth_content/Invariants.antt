-- `fields::nth_content` meets its contract. The loop's invariant: the field that is left to reach from where the loop stands is field `k` from the
-- start. Assumes nothing.
use Rattle.meaning.proofs.Prelude.{◌≡◌, ◌-◌, drop}
use Rattle.fields.specs.Found.{nth_in}
use Rattle.fields.proofs.nth_content.Given as goal

abbrev pub invariant-loop : goal.invariant-loop
invariant-loop l = nth_in (l.k - l.counter) (drop l.at l.s) ≡ nth_in l.k (drop l.from l.s)
