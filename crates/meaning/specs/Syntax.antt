-- The abstract syntax of rule files (01, "The rule file"): what the fields of each kind say, without their bytes.
-- Things of a kind are numbered from 0 in file order, and stand elsewhere by their number.
use Rattle.std.specs.Prelude.{ℕ, suc, List}

infixr 67 ◌▸◌ ◌▹◌
-- a term: a variable, or a symbol followed by its list of arguments; a list is a term followed by the rest
mutual
  pub data Term : Type 0 where
    var : ℕ → Term
    app : ℕ → Terms → Term

  pub data Terms : Type 0 where
    end : Terms
    ◌▸◌ : Term → Terms → Terms

-- a ground term: a symbol with its list of ground terms
mutual
  pub data Tree : Type 0 where
    node : ℕ → Trees → Tree

  pub data Trees : Type 0 where
    leaf : Trees
    ◌▹◌ : Tree → Trees → Trees

-- how many terms a list has
abbrev pub term_count : Terms → ℕ
term_count end = 0
term_count (t ▸ ts) = suc (term_count ts)

abbrev pub tree_count : Trees → ℕ
tree_count leaf = 0
tree_count (t ▹ ts) = suc (tree_count ts)

-- a symbol or a predicate
pub record Named : Type 0 where
  pub arity : ℕ
  pub name : List ℕ

-- target, symbol, one type per argument
pub record Production : Type 0 where
  pub target : ℕ
  pub symbol : ℕ
  pub arguments : List ℕ

pub record Atom : Type 0 where
  pub predicate : ℕ
  pub arguments : Terms

-- the head holds if each body atom does; variables are numbered below `variables`, used or not
pub record Clause : Type 0 where
  pub variables : ℕ
  pub head : Atom
  pub body : List Atom

-- of type t, not of type t, or free
pub data Condition : Type 0 where
  is_of : ℕ → Condition
  not_of : ℕ → Condition
  free : Condition

-- one condition for each variable
pub record Query : Type 0 where
  pub conditions : List Condition
  pub atom : Atom

pub record Rules : Type 0 where
  pub symbols : List Named
  pub types : List (List ℕ)
  pub productions : List Production
  pub predicates : List Named
  pub clauses : List Clause
  pub queries : List Query
