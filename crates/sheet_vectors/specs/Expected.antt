-- Bytes that are the sheet of a file.
use Rattle.std.specs.Prelude.{ℕ, ◌≡◌, List}
use Rattle.meaning.specs.Certificates.{encode_sheet}
use Rattle.meaning.specs.Calls.{states_of, OrderOf}

-- a sheet that may be written for a file
abbrev pub IsSheet : List ℕ → List ℕ → Type 0
IsSheet file bytes = (order : List (List ℕ)) × OrderOf file order × (bytes ≡ encode_sheet (states_of file) order)
