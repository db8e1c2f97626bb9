-- `declarations::is_named_before` meets its contract. The loop's invariant: what is left to look through says the same as all of it.
-- Assumes nothing.
use Rattle.meaning.proofs.Prelude.{◌-◌, ◌≡◌}
use Rattle.declarations.proofs.Earlier.{named}
use Rattle.declarations.proofs.is_named_before.Given as goal

abbrev pub invariant-loop : goal.invariant-loop
invariant-loop l = named l.name l.skip l.earlier.bytes.now (l.end - l.counter) l.at ≡ named l.name l.skip l.earlier.bytes.now l.end l.initial.at
