-- The buffer keeps its length, and the pieces put lie in it.
use Rattle.std.proofs.Common.{◌≤◌, ◌≡◌, length}
use Rattle.listing.proofs.write_pieces.Given as goal

abbrev pub invariant-loop-k : goal.invariant-loop-k
invariant-loop-k g l = (length l.out ≡ length l.fn.out) × (l.at ≤ length l.out)
