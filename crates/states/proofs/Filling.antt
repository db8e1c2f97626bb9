-- The sets that fill a buffer of 6144 places: that they fit, that they stand at its front, and what is made of them. Assumes nothing.
use Rattle.meaning.proofs.Prelude.{ℕ, ◌≤◌, ◌≡◌, sym, ap, ◌∙◌, List, ◌++◌, length, length-append, take, drop, replicate, length-replicate, take_at}
use Rattle.meaning.proofs.Prelude.{arith}
use Rattle.meaning.proofs.Definitions.{All, Production, cells, step, signature, insert_all, grow, tables}
use Rattle.meaning.proofs.Lists.{All-map}
use Rattle.fields.specs.Found.{contents_from}
use Rattle.automaton.specs.Sets.{given_sets}
use Rattle.automaton.specs.Marking.{AreProductions, Fillable}
use Rattle.states.specs.Asked.{Limited, Determinable, productions_at, most_cells}
use Rattle.states.specs.Packed.{indices}
use Rattle.states.proofs.Tables.{length-reached, indices-tables, cells-most}

in_zeros : (n k : ℕ) → k ≤ n → k ≤ length {A = ℕ} (replicate n 0)
in_zeros n k h = simp length-replicate h

module _ (arities : List ℕ) (types : ℕ) (limited : Limited arities types) where
  pub small : All (λ n. n ≤ 4) arities
  small = All-map arities (λ n h. omega arith) limited.small

  pub fillable : (states : List ℕ) → length states ≤ 16 → Fillable states arities (replicate most_cells 0)
  fillable states few =
      record {
        few = few;
        symbols = omega (arith, limited.symbols);
        small = small;
        room =
            in_zeros most_cells (cells (length states) arities) (omega (arith, limited.symbols, cells-most (length states) arities few limited.small));
      }

-- a buffer of zeros after it is filled, and how many places the sets take
pub record Filled (productions : List Production) (types : ℕ) (states arities buffer : List ℕ) (k : ℕ) : Type 0 where
  pub holds : buffer ≡ given_sets productions types states arities ++ drop (cells (length states) arities) (replicate most_cells 0)
  pub counts : k ≡ cells (length states) arities

-- as the automaton's pass over the productions leaves it
pub filled_of :
    {file arities sets : List ℕ} {from count k types : ℕ} (states : List ℕ)
    → ((u : ℕ)
    → u ≤ 16
    → AreProductions u arities count (contents_from count (drop from file))
    → sets ≡ given_sets (productions_at file from count) u states arities ++ drop (cells (length states) arities) (replicate most_cells 0))
    → k ≡ cells (length states) arities
    → Determinable file from count arities types
    → Filled (productions_at file from count) types states arities sets k
filled_of {types = types} states fills counts given = record { holds = fills types given.limited.bits given.productions; counts = counts }

module _
    {productions : List Production} {types : ℕ} {states arities buffer : List ℕ} {k : ℕ}
    (filled : Filled productions types states arities buffer k)
  where
    abbrev given : List ℕ
    given = given_sets productions types states arities

    abbrev behind : List ℕ
    behind = drop (cells (length states) arities) (replicate most_cells 0)

    given-length : length given ≡ k
    unfolding given_sets
    given-length = length-reached (step productions types) states 0 arities ∙ sym filled.counts

    pub front : take k buffer ≡ given
    front = ap (take k) filled.holds ∙ take_at given behind k given-length

    pub front_fits : k ≤ length buffer
    front_fits = omega (arith, ap (λ (l : List ℕ). length l) filled.holds ∙ length-append given behind, given-length)

    pub front_length : length (take k buffer) ≡ k
    front_length = ap (λ (l : List ℕ). length l) front ∙ given-length

    pub front-grow : insert_all (take k buffer) states ≡ grow (step productions types) (signature arities) states
    unfolding given_sets signature
    front-grow = ap (λ (l : List ℕ). insert_all l states) front

    pub front-tables : indices states (take k buffer) ≡ tables (step productions types) states arities
    unfolding given_sets
    front-tables = ap (indices states) front ∙ indices-tables (step productions types) states arities
