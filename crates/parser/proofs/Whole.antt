-- A file that is read whole: what is known of it are its rules, and where to find them. Assumes nothing.
use Rattle.meaning.proofs.Prelude.{ℕ, ◌+◌, ◌<◌, ◌≡◌, refl, sym, ap, ◌∙◌, subst, ap₂, not, none, List, [], ◌∷◌, map, ltb, T, length, get_or, drop, arith}
use lib.Arith.{le→nltb}
use Rattle.meaning.proofs.Definitions.{All, Kind, symbol, production, predicate, clause, query, tag_of, most_file_bytes, Field, whole, cut, Front, empty}
use Rattle.meaning.proofs.Definitions.{short, front, front_of, on_front, fields, read_clause, read_query, arities, accepted, is_refused, is_cut, contents}
use Rattle.meaning.proofs.Definitions.{types_in, first_refused, read_all, production_of, rules_in, rules_of, read_answer}
use Rattle.meaning.proofs.Lists.{cond_no}
use Rattle.meaning.proofs.Fields.{fields-step, first_field-none}
use Rattle.meaning.proofs.Answers.{none-refused, read-accepted}
use Rattle.meaning.proofs.ByKind.{tag_range, WellFields, fine-well}
use Rattle.meaning.proofs.Acceptance.{arities-named, rising_whole}
use Rattle.declarations.specs.declared.Known.{Known}
use Rattle.fields.specs.Found.{contents_from, nth_in}
use Rattle.declarations.specs.Known.{Knows, before, fields_read}
use Rattle.declarations.specs.Tests.{known_types, known_symbols, known_predicates, earlier_in}
use Rattle.fields.proofs.Fronts.{front_rest}
use Rattle.fields.proofs.Nth.{nth_of_contents}
use Rattle.declarations.proofs.Knowing.{count_of, start_of, known_types_lem, known_symbols_lem, known_predicates_lem}
use Rattle.parser.proofs.Reached.{Chain, contents-found}

-- fields of which none is cut stand one after the other
fields_chain : (file : List ℕ) (fs : List Field) (at : ℕ)
    → fields (drop at file) ≡ fs
    → All (λ f. T (not (is_cut f))) fs
    → (next : ℕ) × Chain file at fs next
fields_chain file [] at e w = (at, refl)
fields_chain file (cut ∷ fs) at e w = absurd w.0
fields_chain file (whole t c ∷ fs) at e w = go (front_of (drop at file)) refl (sym (fields-step (drop at file)) ∙ e) (λ h. fields_chain file fs (at + (3 + length c)) h w.1)
  where
    next : ℕ
    next = at + (3 + length c)

    go : (f : Front)
        → front_of (drop at file) ≡ f
        → on_front fields f ≡ whole t c ∷ fs
        → (fields (drop next file) ≡ fs → (n : ℕ) × Chain file next fs n)
        → (n : ℕ) × ((front_of (drop at file) ≡ front t c (drop next file)) × Chain file next fs n)
    go empty is h rec = absurd (let z : ◌≡◌ {A = ℕ} 0 1 = cc in omega arith)
    go short is h rec = absurd (let z : ◌≡◌ {A = ℕ} 0 1 = cc in omega arith)
    go (front t' c' rest) is h rec =
        let content : c' ≡ c = cc in
        let tag : t' ≡ t = cc in
        let past : rest ≡ drop next file = front_rest file at t' c' rest is ∙ ap (λ (l : List ℕ). drop (at + (3 + length l)) file) content in
        let later : fields rest ≡ fs = cc in
        let w = rec (ap fields (sym past) ∙ later) in
        (w.0, (is ∙ (ap₂ (λ (n : ℕ) (l : List ℕ). front n l rest) tag content ∙ ap (front t c) past), w.1))

ap₃ : {A B C D : Type 0} (f : A → B → C → D) {a a' : A} {b b' : B} {c c' : C} → a ≡ a' → b ≡ b' → c ≡ c' → f a b c ≡ f a' b' c'
ap₃ f p q r i = f (p i) (q i) (r i)

-- what a file that is read whole has
pub record Reads (file : List ℕ) (known : Known) : Type 0 where
  pub symbols : known_symbols known ≡ arities (rules_of file).symbols
  pub types : known_types known ≡ length (rules_of file).types
  pub predicates : known_predicates known ≡ arities (rules_of file).predicates
  pub productions : map production_of (earlier_in file known 3) ≡ (rules_of file).productions
  pub clauses : read_all (read_clause (known_symbols known) (known_predicates known)) (earlier_in file known 5) ≡ (rules_of file).clauses
  pub queries : read_all (read_query (known_types known) (known_symbols known) (known_predicates known)) (earlier_in file known 6) ≡ (rules_of file).queries

module _ (file : List ℕ) (known : Known) (e : read_answer file ≡ accepted) (knows : Knows known (fields_read file)) where
  -- no field is refused, so that all are read
  none_is : first_refused (fields file) ≡ none
  none_is = (none-refused (fields file)).1 ((read-accepted file).0 e).0.fine

  pub all_read : fields_read file ≡ fields file
  unfolding fields_read
  all_read =
      cond_no (ltb most_file_bytes (length file)) [] (before (fields file) (first_refused (fields file))) (le→nltb most_file_bytes (length file) ((read-accepted file).0 e).0.size)
      ∙ ap (before (fields file)) none_is

  pub well : WellFields (fields file)
  unfolding first_refused
  well = fine-well (fields file) ((first_field-none is_refused (fields file)).0 none_is)

  pub knows_all : Knows known (fields file)
  knows_all = subst (Knows known) all_read knows

  -- the contents of each kind stand where it starts
  pub earlier : (k : Kind) → earlier_in file known (tag_of k) ≡ contents k (fields file)
  earlier k =
      let lt = (tag_range k).1 in
      let chain = fields_chain file (fields file) 0 refl (rising_whole 1 7 (fields file) well.rising) in
      ap₂ (λ (n at : ℕ). contents_from n (drop at file)) (count_of known (fields file) knows_all (tag_of k) lt) (start_of known (fields file) knows_all (tag_of k) lt)
      ∙ contents-found file (tag_of k) 1 0 (fields file) chain.0 well.rising chain.1

  -- content i of a kind stands i fields after the kind's start
  pub nth_earlier : (k : Kind) (i : ℕ) → i < length (contents k (fields file)) → nth_in i (drop (get_or known.starts (tag_of k) 0) file) ≡ get_or (contents k (fields file)) i []
  nth_earlier k i h =
      let found = earlier k in
      nth_of_contents (get_or known.counts (tag_of k) 0) i (drop (get_or known.starts (tag_of k) 0) file) (subst (λ (cs : List (List ℕ)). i < length cs) (sym found) h)
      ∙ ap (λ (cs : List (List ℕ)). get_or cs i []) found

  -- What is known of a file that is read whole are its rules.
  pub reads : Reads file known
  unfolding rules_of rules_in
  reads =
      let all = knows_all in
      let symbols_are_lem = known_symbols_lem known (fields file) all in
      let predicates-are = known_predicates_lem known (fields file) all in
      let types_are = known_types_lem known (fields file) all in
      record {
        symbols = symbols_are_lem ∙ sym (arities-named (contents symbol (fields file)));
        types = types_are;
        predicates = predicates-are ∙ sym (arities-named (contents predicate (fields file)));
        productions = ap (map production_of) (earlier production);
        clauses = ap₃ (λ (a p : List ℕ) (cs : List (List ℕ)). read_all (read_clause a p) cs) symbols_are_lem predicates-are (earlier clause);
        queries = ap (λ (t : ℕ). read_all (read_query t (known_symbols known) (known_predicates known)) (earlier_in file known 6)) types_are
            ∙ ap₃ (λ (a p : List ℕ) (cs : List (List ℕ)). read_all (read_query (types_in (fields file)) a p) cs) symbols_are_lem predicates-are (earlier query);
      }
