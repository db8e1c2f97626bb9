-- The files of a folder, numbered by three digits.
use Rattle.std.specs.Prelude.{ℕ, ◌+◌, ◌/◌, ◌%◌, List, set}

-- a path with three digits at place 5
abbrev pub numbered_path : List ℕ → ℕ → List ℕ
numbered_path path k = set (set (set path 5 (48 + k / 100)) 6 (48 + k / 10 % 10)) 7 (48 + k % 10)
