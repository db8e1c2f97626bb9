-- Bytes as fields (01: a tag of one byte, a length of two bytes, high byte first, then that many content bytes), for rule files and
-- sheets alike.
use Rattle.std.specs.Prelude.{ℕ, zero, suc, ◌+◌, ◌*◌, ◌/◌, ◌%◌, ◌<◌, Bool, cond, List, [], ◌∷◌, ◌++◌, eqb, leb, length, get_or, take, drop}
use Rattle.std.proofs.Math.Option.{Option}
use Rattle.meaning.specs.Lists.{All, lowest}

-- numbers that are bytes
abbrev pub Bytes : List ℕ → Type 0
Bytes numbers = All (λ b. b < 256) numbers

pub data Field : Type 0 where
  -- tag and content
  whole : ℕ → List ℕ → Field
  -- under 3 bytes left, or the length passes the end
  cut : Field

-- two bytes as a number, high byte first
abbrev pub word : ℕ → ℕ → ℕ
word high low = high * 256 + low

-- the first field of some bytes: none where no byte is left, else a cut field, or a whole one with the bytes after it
pub data Front : Type 0 where
  empty : Front
  short : Front
  front : ℕ → List ℕ → List ℕ → Front

abbrev pub front_of : List ℕ → Front
front_of [] = empty
front_of (tag ∷ []) = short
front_of (tag ∷ high ∷ []) = short
front_of (tag ∷ high ∷ low ∷ bytes) =
    cond (leb (word high low) (length bytes)) (front tag (take (word high low) bytes) (drop (word high low) bytes)) short

abbrev pub on_front : (List ℕ → List Field) → Front → List Field
on_front later empty = []
on_front later short = cut ∷ []
on_front later (front tag content rest) = whole tag content ∷ later rest

-- at most the first k fields
abbrev pub fields_within : ℕ → List ℕ → List Field
fields_within zero bytes = []
fields_within (suc k) bytes = on_front (λ rest. fields_within k rest) (front_of bytes)

-- all fields, to the end or to the first that is cut (a field has a byte at least)
unfoldable pub fields : List ℕ → List Field
fields bytes = fields_within (length bytes) bytes

-- the contents of the whole fields with a tag, in file order
abbrev pub contents_of : ℕ → List Field → List (List ℕ)
contents_of tag [] = []
contents_of tag (cut ∷ fs) = contents_of tag fs
contents_of tag (whole t content ∷ fs) = cond (eqb t tag) (content ∷ []) [] ++ contents_of tag fs

-- a field as bytes
abbrev pub encode_field : ℕ → List ℕ → List ℕ
encode_field tag content = tag ∷ length content / 256 ∷ length content % 256 ∷ content

-- the lowest field that passes a test over the fields before it and the field itself
unfoldable pub first_field : (List Field → Field → Bool) → List Field → Option ℕ
first_field test fs = lowest (length fs) (λ k. test (take k fs) (get_or fs k cut))
