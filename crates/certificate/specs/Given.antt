-- What writing a sheet hands back, as `meaning` has it.
use Rattle.std.specs.Prelude.{ℕ, List, Result, Ok, Err}
use Rattle.meaning.specs.Calls as meant
use Rattle.answers.specs.declared.Refusal.{Refusal}
use Rattle.answers.specs.Refused.{answered}
use Rattle.certificate.specs.declared.Written.{Written}

-- the counts: every one is 0 with a refusal
abbrev pub written_given : Result Written Refusal → Written
written_given (Ok written) = written
written_given (Err r) = record { counts = record { states = 0; atoms = 0; rounds = 0 }; bytes = 0 }

-- number, place and counts, with the buffers afterwards
abbrev pub wrote : Result Written Refusal → meant.Buffers → List ℕ → meant.Written
wrote r after sheet =
    record {
      answer = answered r;
      states = (written_given r).counts.states;
      atoms = (written_given r).counts.atoms;
      rounds = (written_given r).counts.rounds;
      bytes = (written_given r).bytes;
      after = after;
      sheet = sheet;
    }
