-- The number and place of 01 for what a search of a sheet finds, where `number` is the one that is looked for: the lowest place that it fits, if there
-- is one.
use Rattle.std.specs.Prelude.{ℕ, Option, Some, None}
use Rattle.meaning.specs.Refusals.{Answer, refused, accepted}

abbrev pub fault_answer : ℕ → Option ℕ → Answer
fault_answer number None = accepted
fault_answer number (Some k) = refused number k
