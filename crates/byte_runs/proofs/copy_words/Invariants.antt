-- `byte_runs::copy_words` meets its contract: the first places hold the first words. Assumes nothing.
use Rattle.meaning.proofs.Prelude.{◌≡◌}
use Rattle.byte_runs.proofs.Written.{front}
use Rattle.byte_runs.proofs.copy_words.Given as goal

abbrev pub invariant-loop-i : goal.invariant-loop-i
invariant-loop-i l = l.to ≡ front l.from l.initial.to l.i
