-- The tag of a field that was found, 0 where none is whole.
use Rattle.std.specs.Prelude.{ℕ}
use Rattle.meaning.specs.Fields.{Front, empty, short, front}

abbrev pub tag_in : Front → ℕ
tag_in empty = 0
tag_in short = 0
tag_in (front tag content rest) = tag
