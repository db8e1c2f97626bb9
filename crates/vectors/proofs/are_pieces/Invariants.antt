-- The listing is the pieces so far, and what is left of it.
use Rattle.std.proofs.Common.{◌≡◌, ◌++◌}
use Rattle.meaning.specs.Lists.{joined, table}
use Rattle.listing_text.specs.Listing.{piece}
use Rattle.vectors.proofs.are_pieces.Given as goal

abbrev pub invariant-loop-k : goal.invariant-loop-k
invariant-loop-k l = joined (table l.k (piece l.findings.file.now)) ++ l.rest ≡ l.expected
