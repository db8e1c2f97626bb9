-- What is known of a file that was read is what determinising asks for, and gives the file's states and tables. Assumes nothing.
use Rattle.meaning.proofs.Prelude.{ℕ, ◌+◌, ◌≤◌, ◌≡◌, sym, ap, ◌∙◌, subst, subst₂, ap₂, List, [], ◌∷◌, ◌++◌, map, T, lit<, length, length-append, length-map}
use Rattle.meaning.proofs.Prelude.{get_or, drop, arith}
use Rattle.std.specs.Prelude.{sum}
use Rattle.meaning.proofs.Definitions.{All, symbol, type, production, most_symbol_arity, Field, fields, contents_of, is_production, accepted}
use Rattle.meaning.proofs.Definitions.{contents, arities_in, types_in, first_byte, WellProduction, step, cells, tables, read_answer, states_for}
use Rattle.meaning.proofs.Definitions.{production_of, states_of, tables_of, written, symbol_arities, step_of}
use Rattle.meaning.proofs.Lists.{All-map}
use Rattle.meaning.proofs.Contents.{is_named-exact}
use Rattle.meaning.proofs.ByKind.{TagsRise, rising-by_tag}
use Rattle.meaning.proofs.States.{length-tables}
use Rattle.meaning.proofs.Acceptance.{All-over, read-productions}
use Rattle.declarations.specs.declared.Known.{Known}
use Rattle.declarations.specs.Known.{Knows, fields_read}
use Rattle.declarations.specs.Tests.{known_types, known_symbols, earlier_in}
use Rattle.declarations.proofs.Knowing.{length-arities, count_of, known_types_lem, known_symbols_lem}
use Rattle.parser.proofs.Whole.{well, knows_all, earlier, reads}
use Rattle.automaton.specs.Marking.{AreProductions}
use Rattle.states.specs.Asked.{Limited, Determinable, productions_at}

-- fields with rising tags are as many as there are of the six kinds
rising-length : (fs : List Field) → TagsRise 1 7 fs
    → length fs ≡ length (contents_of 1 fs) + length (contents_of 2 fs) + length (contents_of 3 fs) + length (contents_of 4 fs) + length (contents_of 5 fs) + length (contents_of 6 fs)
rising-length fs h = ap length (rising-by_tag 6 1 7 fs (omega arith) h) ∙ simp (length-append, length-map) (omega arith)

-- a production has a target and a symbol
two_bytes : (types : ℕ) (symbols content : List ℕ) → T (is_production types symbols content) → 2 ≤ length content
two_bytes types symbols [] t = absurd t
two_bytes types symbols (target ∷ []) t = absurd t
two_bytes types symbols (target ∷ f ∷ arguments) t = omega arith

module _ (file : List ℕ) (known : Known) (e : read_answer file ≡ accepted) (knows : Knows known (fields_read file)) where
  abbrev fs : List Field
  fs = fields file

  symbols_are_lem : known_symbols known ≡ arities_in symbol fs
  symbols_are_lem = known_symbols_lem known fs (knows_all file known e knows)

  types_are : known_types known ≡ types_in fs
  types_are = known_types_lem known fs (knows_all file known e knows)

  pub field_count_lem : sum (drop 1 known.counts) ≡ length (fields file)
  field_count_lem = ap (λ (counts : List ℕ). sum (drop 1 counts)) (knows_all file known e knows).counts ∙ omega (arith, rising-length fs (well file known e knows).rising)

  -- the arities of the symbols stand in their array
  pub symbols-counted : get_or known.counts 1 0 ≤ 24
  symbols-counted = omega (arith, count_of known fs (knows_all file known e knows) 1 (lit< tt), (well file known e knows).counts symbol)

  pub limited : Limited (known_symbols known) (known_types known)
  limited =
      let w = well file known e knows in
      record {
        symbols = omega (arith, ap length symbols_are_lem, length-arities symbol fs, w.counts symbol);
        small = subst (All (λ n. n ≤ most_symbol_arity)) (sym symbols_are_lem)
            (All-over _ first_byte (contents symbol fs) (All-map (contents symbol fs) (λ c t. ((is_named-exact most_symbol_arity c).0 t).1) (w.laid symbol)));
        bits = omega (arith, types_are, w.counts type);
      }

  productions : AreProductions (known_types known) (known_symbols known) (get_or known.counts 3 0) (earlier_in file known 3)
  productions =
      let w = well file known e knows in
      let found = earlier file known e knows production in
      record {
        number = ap length found ∙ sym (count_of known fs (knows_all file known e knows) 3 (lit< tt));
        long = subst (All (λ (c : List ℕ). 2 ≤ length c)) (sym found) (All-map (contents production fs) (λ c t. two_bytes _ _ c t) (w.laid production));
        well =
            subst (All (WellProduction (known_types known) (known_symbols known))) (ap (map production_of) (sym found))
            (subst₂ (λ (n : ℕ) (ss : List ℕ). All (WellProduction n ss) (map production_of (contents production fs))) (sym types_are) (sym symbols_are_lem) (read-productions fs w).1);
      }

  determinable : Determinable file (get_or known.starts 3 0) (get_or known.counts 3 0) (known_symbols known) (known_types known)
  determinable = record { limited = limited; productions = productions }

  -- the states and the tables by what is known are the file's
  pub states_are_lem : states_for (known_symbols known) (known_types known) (map production_of (earlier_in file known 3)) ≡ states_of file
  unfolding states_of symbol_arities
  states_are_lem = let r = reads file known e knows in λ i. states_for (r.symbols i) (r.types i) (r.productions i)

  pub tables_are : tables (step (map production_of (earlier_in file known 3)) (known_types known)) (states_of file) (known_symbols known) ≡ tables_of file
  unfolding tables_of step_of symbol_arities
  tables_are = let r = reads file known e knows in λ i. tables (step (r.productions i) (r.types i)) (states_of file) (r.symbols i)

  pub tables-length : length (tables_of file) ≡ cells (length (states_of file)) (known_symbols known)
  tables-length =
      ap length (sym tables_are) ∙ length-tables (step (map production_of (earlier_in file known 3)) (known_types known)) (states_of file) (known_symbols known)

  -- the section of the productions, and the arities of the symbols
  module _ {bytes arities : List ℕ} {from count : ℕ} (b : bytes ≡ file) (f : from ≡ get_or known.starts 3 0) (n : count ≡ get_or known.counts 3 0) (a : arities ≡ known_symbols known) where
    pub asked : Determinable bytes from count arities (known_types known)
    asked =
        subst₂ (λ (l : List ℕ) (k : ℕ). Determinable l k count arities (known_types known)) (sym b) (sym f)
        (subst₂ (λ (k : ℕ) (l : List ℕ). Determinable file (get_or known.starts 3 0) k l (known_types known)) (sym n) (sym a) determinable)

    pub states_asked : states_for arities (known_types known) (productions_at bytes from count) ≡ states_of file
    states_asked = (λ i. states_for (a i) (known_types known) (productions_at (b i) (f i) (n i))) ∙ states_are_lem

    pub tables_asked : {states : List ℕ} (buffer : List ℕ)
        → states ≡ states_of file
        → tables (step (productions_at bytes from count) (known_types known)) states arities ++ drop (cells (length states) arities) buffer ≡ written (tables_of file) buffer
    tables_asked buffer is =
        (λ i. tables (step (productions_at (b i) (f i) (n i)) (known_types known)) (is i) (a i) ++ drop (cells (length (is i)) (a i)) buffer)
        ∙ ap₂ (λ (t : List ℕ) (k : ℕ). t ++ drop k buffer) tables_are (sym tables-length)
