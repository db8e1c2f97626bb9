-- A field that was found, from the front of the bytes (01: "under 3 bytes left, or the length passes the end").
use Rattle.std.specs.Prelude.{ℕ, zero, suc, ◌+◌, Bool, true, false, List, [], ◌∷◌, length}
use Rattle.meaning.specs.Fields.{Front, empty, short, front, front_of}
use Rattle.fields.specs.declared.Found.{Found}
use Rattle.fields.specs.declared.Found.TheVariants.{End, Cut, Whole}

abbrev pub found_in : Front → Found
found_in empty = End
found_in short = Cut
found_in (front tag content rest) = Whole tag (length content)

-- the contents of the first n fields of some bytes
abbrev pub on_content : Front → (List ℕ → List (List ℕ)) → List (List ℕ)
on_content empty later = []
on_content short later = []
on_content (front tag content rest) later = content ∷ later rest

abbrev pub contents_from : ℕ → List ℕ → List (List ℕ)
contents_from zero bytes = []
contents_from (suc n) bytes = on_content (front_of bytes) (λ rest. contents_from n rest)

-- whether a whole field stands there, and its content, none where it does not
abbrev pub is_whole : Front → Bool
is_whole empty = false
is_whole short = false
is_whole (front tag content rest) = true

abbrev pub content_in : Front → List ℕ
content_in empty = []
content_in short = []
content_in (front tag content rest) = content

-- where the field after one at a position starts: the position itself where no whole field stands
abbrev pub next_in : ℕ → Front → ℕ
next_in at empty = at
next_in at short = at
next_in at (front tag content rest) = at + (3 + length content)

-- the content of field k of some bytes, none where there are not so many
abbrev pub on_rest : Front → (List ℕ → List ℕ) → List ℕ
on_rest empty later = []
on_rest short later = []
on_rest (front tag content rest) later = later rest

abbrev pub nth_in : ℕ → List ℕ → List ℕ
nth_in zero bytes = content_in (front_of bytes)
nth_in (suc k) bytes = on_rest (front_of bytes) (λ rest. nth_in k rest)
