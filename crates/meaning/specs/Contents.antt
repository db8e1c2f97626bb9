-- What the content of each kind of field says (01, the table of kinds): a test that it is as laid out, or what is read of it.
-- `arities` are the declared symbols' arities, `types` is the number of declared types, `preds` are the declared predicates' arities.
use Rattle.std.specs.Prelude.{ℕ, zero, suc, ◌-◌, ◌*◌, Bool, true, false, cond, ◌&&◌, ◌||◌, List, [], ◌∷◌, eqb, leb, ltb, length, get_or}
use Rattle.std.proofs.Math.Option.{Option, none, some}
use Rattle.meaning.specs.Lists.{all_of}
use Rattle.meaning.specs.Syntax.{Term, Terms, var, app, end, ◌▸◌, Atom, Clause, Condition, is_of, not_of, free, Query}
use Rattle.meaning.specs.Limits.{most_name, most_variables, most_body, first_variable, free_byte}

-- what was read off the front of some bytes, and the bytes after it
pub record Read (A : Type 0) : Type 0 where
  pub value : A
  pub rest : List ℕ

module _ {A : Type 0} where
  -- reading goes on with what was read; what cannot be read stays so
  abbrev pub ◌>>=◌ : {B : Type 0} → Option A → (A → Option B) → Option B
  ◌>>=◌ none next = none
  ◌>>=◌ (some a) next = next a

  abbrev pub provided : Bool → Option A → Option A
  provided true read = read
  provided false read = none

  -- no byte is left over
  abbrev pub complete : Option (Read A) → Option A
  complete none = none
  complete (some r) = elim r.rest [ [] ↦ some r.value | b ∷ bytes ↦ none ]

  abbrev pub is_some : Option A → Bool
  is_some none = false
  is_some (some a) = true

-- a-z, 0-9, `[`, `]`, `_`
abbrev pub name_byte : ℕ → Bool
name_byte b = leb 97 b && leb b 122 || (leb 48 b && leb b 57) || eqb b 91 || eqb b 93 || eqb b 95

-- a name: 1 to 8 of these bytes
abbrev pub is_name : List ℕ → Bool
is_name bytes = leb 1 (length bytes) && leb (length bytes) most_name && all_of name_byte bytes

-- a symbol or a predicate: arity, name
abbrev pub is_named : ℕ → List ℕ → Bool
is_named most_arity [] = false
is_named most_arity (arity ∷ name) = leb arity most_arity && is_name name

-- the symbol or predicate of this number is declared, with arity n
abbrev pub declared : List ℕ → ℕ → ℕ → Bool
declared arities number n = ltb number (length arities) && eqb (get_or arities number 0) n

-- a production: type, symbol, one type per argument
abbrev pub is_production : ℕ → List ℕ → List ℕ → Bool
is_production types arities [] = false
is_production types arities (target ∷ []) = false
is_production types arities (target ∷ symbol ∷ arguments) =
    ltb target types && declared arities symbol (length arguments) && all_of (λ t. ltb t types) arguments

module _ (arities : List ℕ) (variables : ℕ) where
  -- A byte 128 + i is variable i, below the field's variable count. Any other byte is a declared symbol, followed by as many terms as
  -- its arity. The first number bounds how deep the calls go.
  unfoldable mutual
    pub term_within : ℕ → List ℕ → Option (Read Term)
    term_within zero bytes = none
    term_within (suc k) [] = none
    term_within (suc k) (b ∷ bytes) =
        elim (leb first_variable b) [
          | true ↦ provided (ltb (b - first_variable) variables) (some (record { value = var (b - first_variable); rest = bytes }))
          | false ↦ provided (ltb b (length arities)) do
            ts ← terms_within k (get_or arities b 0) bytes
            some (record { value = app b ts.value; rest = ts.rest })
        ]

    pub terms_within : ℕ → ℕ → List ℕ → Option (Read Terms)
    terms_within zero n bytes = none
    terms_within (suc k) zero bytes = some (record { value = end; rest = bytes })
    terms_within (suc k) (suc n) bytes = do
      t ← term_within k bytes
      ts ← terms_within k n t.rest
      some (record { value = t.value ▸ ts.value; rest = ts.rest })

  -- a term, and n terms, off the front of some bytes; a call that takes no byte is followed by one that does, so the bounds are enough
  unfoldable pub read_term : List ℕ → Option (Read Term)
  read_term bytes = term_within (2 * length bytes) bytes

  unfoldable pub read_terms : ℕ → List ℕ → Option (Read Terms)
  read_terms n bytes = terms_within (suc (2 * length bytes)) n bytes

  module _ (preds : List ℕ) where
    -- an atom: a predicate byte and as many terms as its arity
    unfoldable pub read_atom : List ℕ → Option (Read Atom)
    read_atom [] = none
    read_atom (p ∷ bytes) = provided (ltb p (length preds)) do
      ts ← read_terms (get_or preds p 0) bytes
      some (record { value = record { predicate = p; arguments = ts.value }; rest = ts.rest })

    unfoldable pub read_atoms : ℕ → List ℕ → Option (Read (List Atom))
    read_atoms zero bytes = some (record { value = []; rest = bytes })
    read_atoms (suc n) bytes = do
      a ← read_atom bytes
      later ← read_atoms n a.rest
      some (record { value = a.value ∷ later.value; rest = later.rest })

-- a clause: variables 0 to 6, body atoms 0 to 4, head, body
unfoldable pub read_clause : List ℕ → List ℕ → List ℕ → Option Clause
read_clause arities preds [] = none
read_clause arities preds (v ∷ []) = none
read_clause arities preds (v ∷ n ∷ bytes) = provided (leb v most_variables && leb n most_body) (complete do
  head ← read_atom arities v preds bytes
  body ← read_atoms arities v preds n head.rest
  some (record { value = record { variables = v; head = head.value; body = body.value }; rest = body.rest }))

-- a condition: t (of type t), 128 + t (not of type t), 255 (free)
abbrev pub read_condition : ℕ → ℕ → Option Condition
read_condition types b =
    cond (ltb b types) (some (is_of b))
    (cond (leb first_variable b && ltb (b - first_variable) types) (some (not_of (b - first_variable)))
    (cond (eqb b free_byte) (some free) none))

unfoldable pub read_conditions : ℕ → ℕ → List ℕ → Option (Read (List Condition))
read_conditions types zero bytes = some (record { value = []; rest = bytes })
read_conditions types (suc n) [] = none
read_conditions types (suc n) (b ∷ bytes) = do
  c ← read_condition types b
  later ← read_conditions types n bytes
  some (record { value = c ∷ later.value; rest = later.rest })

-- a query: variables 0 to 6, a condition byte for each, one atom
unfoldable pub read_query : ℕ → List ℕ → List ℕ → List ℕ → Option Query
read_query types arities preds [] = none
read_query types arities preds (v ∷ bytes) = provided (leb v most_variables) (complete do
  conditions ← read_conditions types v bytes
  atom ← read_atom arities v preds conditions.rest
  some (record { value = record { conditions = conditions.value; atom = atom.value }; rest = atom.rest }))
