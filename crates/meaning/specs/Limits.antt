-- The limits of 01, each named once.
use Rattle.std.specs.Prelude.{ℕ}

abbrev pub most_file_bytes : ℕ
most_file_bytes = 32768

abbrev pub most_content : ℕ
most_content = 250

abbrev pub most_name : ℕ
most_name = 8

abbrev pub most_symbol_arity : ℕ
most_symbol_arity = 2

abbrev pub most_predicate_arity : ℕ
most_predicate_arity = 3

abbrev pub most_variables : ℕ
most_variables = 6

abbrev pub most_body : ℕ
most_body = 4

abbrev pub most_states : ℕ
most_states = 16

-- the byte of variable 0 and of the condition "not of type 0"
abbrev pub first_variable : ℕ
first_variable = 128

-- the condition byte "free"
abbrev pub free_byte : ℕ
free_byte = 255

-- the kinds of fields, with their tags and the most of each
pub data Kind : Type 0 where
  symbol type production predicate clause query : Kind

abbrev pub tag_of : Kind → ℕ
tag_of symbol = 1
tag_of type = 2
tag_of production = 3
tag_of predicate = 4
tag_of clause = 5
tag_of query = 6

abbrev pub most_of : Kind → ℕ
most_of symbol = 24
most_of type = 12
most_of production = 200
most_of predicate = 16
most_of clause = 64
most_of query = 32

-- the tags of a sheet: a state, a domain atom
abbrev pub state_tag : ℕ
state_tag = 16

abbrev pub atom_tag : ℕ
atom_tag = 17
