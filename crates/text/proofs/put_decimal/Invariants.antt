-- `text::put_decimal` meets its contract. The invariant: the buffer with the digits of what is left pasted, as many as there is place for
-- before `i`, is the buffer at the start with the whole number pasted. Assumes nothing.
use Rattle.meaning.proofs.Prelude.{◌≤◌, ◌-◌, ◌≡◌}
use Rattle.text.specs.Decimal.{decimal}
use Rattle.byte_runs.specs.Pasted.{pasted}
use Rattle.text.proofs.Decimal.{last_digits}
use Rattle.text.proofs.put_decimal.Given as goal

abbrev pub invariant-loop-i : goal.invariant-loop-i
invariant-loop-i l = (l.at ≤ l.i) × (pasted l.out l.at (last_digits (l.i - l.at) l.rest) ≡ pasted l.initial.out l.at (decimal l.n))
