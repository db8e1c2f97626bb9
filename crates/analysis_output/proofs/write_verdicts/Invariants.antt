-- `analysis_output::write_verdicts` meets its contract: the first i places hold the verdicts of the first i queries, and the others stand from the position on.
-- Assumes nothing.
use Rattle.meaning.proofs.Prelude.{◌≡◌, length, drop}
use Rattle.fields.specs.Found.{contents_from}
use Rattle.acceptance.specs.Handed.{verdict_in}
use Rattle.analysis_output.proofs.Contents.{Read}
use Rattle.analysis_output.proofs.write_verdicts.Given as goal

abbrev pub invariant-loop-i : goal.invariant-loop-i
invariant-loop-i l = let s = l.section in
    (length l.verdicts ≡ length l.initial.verdicts)
    × Read s.bytes.now s.count (contents_from s.count (drop s.from s.bytes.now)) (verdict_in l.types l.automaton.m l.sets l.automaton.arities.now l.automaton.tables.now l.predicates.arities.now l.marks) l.initial.verdicts l.verdicts l.at l.i
