-- No more files differ than were played.
use Rattle.std.proofs.Common.{◌≤◌}
use Rattle.folders.proofs.play.Given as goal

abbrev pub invariant-loop-k : goal.invariant-loop-k
invariant-loop-k g l = l.differences ≤ l.k
