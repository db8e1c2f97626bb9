-- What is known of an accepted file: its limits, and the arities of its predicates. Assumes nothing.
use Rattle.meaning.proofs.Prelude.{ℕ, ◌≤◌, ◌≡◌, sym, ap, ◌∙◌, subst, List, [], lit<, length, get_or, arith}
use Rattle.meaning.proofs.Definitions.{All, predicate, most_of, most_predicate_arity, most_states, fields, accepted, contents, arities_in, first_byte}
use Rattle.meaning.proofs.Definitions.{is_refused, first_refused, rules_in, rules_of, read_answer, file_answer, symbol_arities, predicate_arities, states_of}
use Rattle.meaning.proofs.Lists.{All-map, mem-place}
use Rattle.meaning.proofs.Contents.{is_named-exact}
use Rattle.meaning.proofs.Fields.{first_field-none}
use Rattle.meaning.proofs.ByKind.{WellFields, fine-well}
use Rattle.meaning.proofs.Acceptance.{All-over, arities-named}
use Rattle.meaning.proofs.Answers.{none-refused, read-accepted, symbols_of, accepted-exact}
use Rattle.meaning.proofs.States.{cell_range}
use Rattle.declarations.specs.declared.Known.{Known}
use Rattle.declarations.specs.Known.{Knows, fields_read}
use Rattle.declarations.specs.Tests.{known_predicates}
use Rattle.declarations.proofs.Knowing.{length-arities, count_of}
use Rattle.parser.proofs.Keeping.{length-padded}
use Rattle.parser.proofs.Whole.{knows_all, reads}

-- an accepted file is read, and its states are few
module _ (file : List ℕ) where
  pub accepted-read : file_answer file ≡ accepted → read_answer file ≡ accepted
  accepted-read e = let w = (accepted-exact file).0 e in (read-accepted file).1 (w.0, w.1)

  pub accepted-few : file_answer file ≡ accepted → length (states_of file) ≤ most_states
  unfolding states_of symbol_arities
  accepted-few e = ((accepted-exact file).0 e).2

-- an accepted file keeps the limits
module _ (file : List ℕ) (e : file_answer file ≡ accepted) where
  whole : read_answer file ≡ accepted
  whole = accepted-read file e

  pub fields-well : WellFields (fields file)
  unfolding first_refused
  fields-well = fine-well (fields file) ((first_field-none is_refused (fields file)).0 ((none-refused (fields file)).1 ((read-accepted file).0 whole).0.fine))

  -- the predicates: at most 16, of arity at most 3
  abbrev preds : List (List ℕ)
  preds = contents predicate (fields file)

  pub arities_are : predicate_arities file ≡ arities_in predicate (fields file)
  unfolding predicate_arities rules_of rules_in
  arities_are = arities-named preds

  pub arities-length : length (predicate_arities file) ≡ length preds
  arities-length = ap length arities_are ∙ length-arities predicate (fields file)

  pub predicates-few : length (predicate_arities file) ≤ 16
  predicates-few = omega (arith, arities-length, fields-well.counts predicate)

  pub predicates-small : All (λ n. n ≤ 3) (predicate_arities file)
  predicates-small =
      subst (All (λ n. n ≤ 3)) (sym arities_are)
      (All-over (λ n. n ≤ 3) first_byte preds (All-map preds (λ c t. ((is_named-exact most_predicate_arity c).0 t).1) (fields-well.laid predicate)))

  -- at least one state, that of a constant
  pub states-some : 1 ≤ length (states_of file)
  unfolding states_of symbol_arities
  states-some =
      let w = (accepted-exact file).0 e in
      let c = mem-place (symbols_of file) 0 0 w.1 in
      let below = cell_range (symbols_of file) (length (rules_of file).types) (rules_of file).productions w.2 c.0 [] (c.1, c.2) tt in
      omega (arith, below)

  -- what is known of the predicates: their arities, in an array of 16
  module _ (known : Known) (knows : Knows known (fields_read file)) where
    pub all_known : Knows known (fields file)
    all_known = knows_all file known whole knows

    pub predicates_known : known_predicates known ≡ predicate_arities file
    unfolding predicate_arities
    predicates_known = (reads file known whole knows).predicates

    few : length (arities_in predicate (fields file)) ≤ most_of predicate
    few = omega (arith, length-arities predicate (fields file), fields-well.counts predicate)

    pub predicates-length : length known.predicates ≡ 16
    predicates-length = ap length all_known.predicates ∙ length-padded (most_of predicate) (arities_in predicate (fields file)) few

    pub predicates-count : get_or known.counts 4 0 ≡ length (predicate_arities file)
    predicates-count = count_of known (fields file) all_known 4 (lit< tt) ∙ sym arities-length
