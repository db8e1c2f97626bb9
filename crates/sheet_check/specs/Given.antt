-- What a sheet check hands back, as `meaning` has it: number and place, with the buffers afterwards.
use Rattle.std.specs.Prelude.{Result}
use Rattle.meaning.specs.Calls.{Lent, Checked}
use Rattle.answers.specs.declared.Refusal.{Refusal}
use Rattle.answers.specs.Refused.{answered}

abbrev pub gave : {A : Type 0} → Result A Refusal → Lent → Checked
gave r after = record { answer = answered r; after = after }
