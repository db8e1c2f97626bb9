-- Demand 2, each field under the user's own sentence, of what an analysis hands back with 0; `demand_2` (proofs/Demand2.antt) proves it.
use Rattle.std.specs.Prelude.{ℕ, suc, ◌<◌, ◌≤◌, ◌≡◌, ◌↔◌, length, get_or, take}
use mathlib.Core.List.{List, [], ◌∷◌, Memᴰ}
use Rattle.std.proofs.Math.Option.{some}
use Rattle.std.proofs.Math.ListN.{get_elem?}
use Rattle.meaning.specs.Lists.{Rising, ones}
use Rattle.meaning.specs.Syntax.{Tree, Trees, node, leaf, ◌▹◌, tree_count, Production, Query}
use Rattle.meaning.specs.Legal.{Declared}
use Rattle.meaning.specs.Types.{IsGround, AreGround, IsTypeSet, step, signature}
use Rattle.meaning.specs.Cells.{cells}
use Rattle.meaning.specs.States.{determinise, look_up}
use Rattle.meaning.specs.Clauses.{AtomSet, IsAtom, place, Closed, Stage, Open}
use Rattle.meaning.specs.Ground.{NoneDerivable}
use Rattle.meaning.specs.Files.{rules_of}
use Rattle.meaning.specs.Calls.{symbol_arities, predicate_arities, Analysed}

-- the state of a ground term, among some sets of types: the number of the set that is exactly the set of its types; the states of a list of them
module _ (productions : List Production) (sets : List ℕ) where
  abbrev pub IsStateOf : Tree → ℕ → Type 0
  IsStateOf t d = (d < length sets) × IsTypeSet productions t (get_or sets d 0)

  abbrev pub AreStatesOf : Trees → List ℕ → Type 0
  AreStatesOf leaf [] = Unit
  AreStatesOf leaf (d ∷ row) = ⊥
  AreStatesOf (t ▹ ts) [] = ⊥
  AreStatesOf (t ▹ ts) (d ∷ row) = IsStateOf t d × AreStatesOf ts row

module _ (file : List ℕ) (result : Analysed) where
  -- what was handed back: the states as sets of types, the tables as a pre-interpretation, the marks as numbers of domain atoms
  abbrev pub sets_in : List ℕ
  sets_in = take result.states result.after.states

  abbrev pub interpret_in : ℕ → List ℕ → ℕ
  interpret_in = look_up result.states (symbol_arities file) result.after.tables

  abbrev pub mark_in : ℕ → List ℕ → ℕ
  mark_in p row = get_or result.after.marks (place result.states (predicate_arities file) p row) 0

  abbrev pub DomainAtom : ℕ → List ℕ → Type 0
  DomainAtom p row = IsAtom result.states (predicate_arities file) p row

  abbrev pub InEveryClosed : ℕ → List ℕ → Type 1
  InEveryClosed p row = (S : AtomSet) → Closed result.states interpret_in (rules_of file).clauses S → S p row

  abbrev pub StageIn : ℕ → AtomSet
  StageIn k = Stage result.states interpret_in (rules_of file).clauses k

  -- stage k equals the next
  abbrev pub Settled : ℕ → Type 0
  Settled k = (p : ℕ) (row : List ℕ) → DomainAtom p row → StageIn (suc k) p row ↔ StageIn k p row

  abbrev pub OpenIn : Query → Type 0
  OpenIn q = Open sets_in result.states interpret_in (λ p row. mark_in p row ≡ 1) q

  pub record Demand2 : Type 1 where
    -- "The states are exactly the sets of types that ground terms have,
    pub states : (s : ℕ)
        → Memᴰ s sets_in ↔ ((t : Tree) × IsGround (symbol_arities file) t × IsTypeSet (rules_of file).productions t s)
    -- (numbered by rising number)
    pub rising : Rising sets_in
    -- by the published determinisation of tree automata,
    pub determinised : sets_in ≡ determinise (step (rules_of file).productions (length (rules_of file).types)) (signature (symbol_arities file))
    -- and the tables compose them."
    pub tables : (f : ℕ) (ts : Trees) (row : List ℕ)
        → Declared (symbol_arities file) f (tree_count ts)
        → AreGround (symbol_arities file) ts
        → AreStatesOf (rules_of file).productions sets_in ts row
        → (place result.states (symbol_arities file) f row < length result.after.tables)
        × IsStateOf (rules_of file).productions sets_in (node f ts) (interpret_in f row)
    -- "A domain atom is in the model exactly if it lies in every set closed under the clauses."
    pub model : (p : ℕ) (row : List ℕ)
        → DomainAtom p row
        → (place result.states (predicate_arities file) p row < length result.after.marks)
        × ((mark_in p row ≡ 1) ↔ InEveryClosed p row)
        × ((mark_in p row ≡ 0) ↔ (¬ InEveryClosed p row))
    -- (the count of atoms; the model as a stage; the round count, the least k whose stage equals the next, never above the number of domain atoms)
    pub atoms : result.atoms ≡ ones (take (cells result.states (predicate_arities file)) result.after.marks)
    pub last_stage : (p : ℕ) (row : List ℕ) → DomainAtom p row → (mark_in p row ≡ 1) ↔ StageIn result.rounds p row
    pub rounds : Settled result.rounds × ((k : ℕ) → k < result.rounds → ¬ Settled k)
    pub bounded : result.rounds ≤ cells result.states (predicate_arities file)
    -- "A query is OPEN exactly if an instance meeting its conditions is in the model."
    pub verdicts : (i : ℕ) (q : Query)
        → get_elem? (rules_of file).queries i ≡ some q
        → (i < length result.after.verdicts)
        × ((get_or result.after.verdicts i 0 ≡ 1) ↔ OpenIn q)
        × ((get_or result.after.verdicts i 0 ≡ 0) ↔ (¬ OpenIn q))
    -- (so that with CLEAR no ground instance meeting the conditions is derivable, at any height)
    pub clear : (i : ℕ) (q : Query)
        → get_elem? (rules_of file).queries i ≡ some q
        → get_or result.after.verdicts i 0 ≡ 0
        → NoneDerivable (symbol_arities file) (rules_of file).productions (rules_of file).clauses q
