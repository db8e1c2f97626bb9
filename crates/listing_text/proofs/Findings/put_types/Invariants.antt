-- `listing_text::Findings::put_types` meets its contract. The invariant: the types from `t` on are left to be put. Assumes nothing.
use Rattle.meaning.proofs.Prelude.{drop}
use Rattle.meaning.specs.Files.{rules_of}
use Rattle.byte_runs.proofs.Putting.{Left}
use Rattle.listing_text.specs.Lines.{held_names}
use Rattle.listing_text.proofs.Findings.put_types.Given as goal

abbrev pub invariant-loop-t : goal.invariant-loop-t
invariant-loop-t l = Left l.initial.out l.at (held_names l.state 0 (rules_of l.self.file.now).types) l.out l.next (held_names l.state l.t (drop l.t (rules_of l.self.file.now).types))
