-- A list with other elements in the place of its own, from a position on.
use Rattle.std.specs.Prelude.{ℕ, ◌+◌, ◌≡◌, List, ◌++◌, length, take, drop}

unfoldable pub pasted : List ℕ → ℕ → List ℕ → List ℕ
pasted out at bytes = take at out ++ (bytes ++ drop (at + length bytes) out)

-- what a function that puts bytes into a buffer from a position on leaves behind: the buffer with the bytes, and the position past them
abbrev pub Put : List ℕ → ℕ → List ℕ → List ℕ → ℕ → Type 0
Put before at bytes after next = (after ≡ pasted before at bytes) × (next ≡ at + length bytes)
