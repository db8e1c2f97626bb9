-- What is known of an accepted file: where its types' and predicates' names stand, and its limits. Assumes nothing.
use Rattle.meaning.proofs.Prelude.{ℕ, ◌≤◌, ◌<◌, ◌≡◌, sym, ap, ◌∙◌, ap₂, subst, ◌&&◌, List, [], ◌∷◌, map, T, leb, leb→le, length, get_or, drop}
use Rattle.std.proofs.Common.{Bor}
use Rattle.meaning.proofs.Prelude.{get_or-map, arith}
use Rattle.meaning.proofs.Definitions.{All, all_of, type, predicate, most_name, most_predicate_arity, fields, is_name, is_named, name_byte, names, accepted}
use Rattle.meaning.proofs.Definitions.{contents, named, rules_in, rules_of, read_answer, file_answer, predicate_arities, states_of, model_of}
use Rattle.meaning.specs.Syntax as Syntax
use Rattle.meaning.proofs.Lists.{All-map, All-get_or, both}
use Rattle.meaning.proofs.Contents.{is_named-exact}
use Rattle.declarations.specs.declared.Known.{Known}
use Rattle.declarations.specs.Known.{Knows, fields_read}
use Rattle.fields.specs.Found.{nth_in}
use Rattle.parser.proofs.Whole.{nth_earlier, reads}
use Rattle.cells.proofs.Segments.{start_all, start-most}
use Rattle.parser.proofs.Limits.{accepted-read, accepted-few, fields-well, arities-length, predicates-few, predicates-small}
use Rattle.meaning.proofs.Calls.{marks-length}

-- a name has at most 8 bytes
name-short : (name : List ℕ) → T (is_name name) → length name ≤ most_name
name-short name t =
    let least = leb 1 (length name) in
    let most = leb (length name) most_name in
    leb→le (length name) most_name (both least most (both (least && most) (all_of name_byte name) t).0).1

named_some : (content : List ℕ) → T (is_named most_predicate_arity content) → 1 ≤ length content
named_some [] t = absurd t
named_some (arity ∷ name) t = omega arith

-- a content that is found in a section of the file is found where the section starts
pub nth_of_section : {content : List ℕ} {bytes : Bor (List ℕ)} {first start : ℕ} (given : Bor (List ℕ)) (k : ℕ)
    → content ≡ nth_in k (drop first bytes.now)
    → bytes ≡ given
    → first ≡ start
    → content ≡ nth_in k (drop start given.now)
nth_of_section given k found e f = found ∙ ap₂ (λ (n : ℕ) (b : Bor (List ℕ)). nth_in k (drop n b.now)) f e

-- an accepted file keeps the limits
module _ (file : List ℕ) (e : file_answer file ≡ accepted) where
  whole : read_answer file ≡ accepted
  whole = accepted-read file e

  pub types-few : length (rules_of file).types ≤ 12
  unfolding rules_of rules_in
  types-few = (fields-well file e).counts type

  pub types-short : All (λ (name : List ℕ). length name ≤ 8) (rules_of file).types
  unfolding rules_of rules_in
  types-short = All-map (contents type (fields file)) name-short ((fields-well file e).laid type)

  abbrev preds : List (List ℕ)
  preds = contents predicate (fields file)

  -- the states: at most 16, and at least one, that of a constant
  -- at most 16 segments, of at most 65536 marks each
  pub marks-few : length (model_of file) ≤ 1048576
  marks-few =
      omega (
        arith,
        marks-length file,
        start_all (length (states_of file)) (predicate_arities file),
        start-most (length (states_of file)) (predicate_arities file) (length (predicate_arities file)) (accepted-few file e) (All-map (predicate_arities file) (λ n h. omega arith) (predicates-small file e)),
        (predicates-few file e),
      )

  -- what is known of it: where the names stand, and the arities
  module _ (known : Known) (knows : Knows known (fields_read file)) where
    pub types_known : get_or known.counts 2 0 ≡ length (rules_of file).types
    types_known = (reads file known whole knows).types

    pub type-name : (t : ℕ) → t < length (rules_of file).types → nth_in t (drop (get_or known.starts 2 0) file) ≡ get_or (rules_of file).types t []
    unfolding rules_of rules_in
    type-name t h = nth_earlier file known whole knows type t h

    -- the content of a predicate is its arity and its name
    pub record NameIn (p : ℕ) (content : List ℕ) : Type 0 where
      pub some : 1 ≤ length content
      pub name : drop 1 content ≡ get_or (names (rules_of file).predicates) p []
      pub short : length (drop 1 content) ≤ 8

    pub predicate-name : (p : ℕ) → p < length (predicate_arities file) → NameIn p (nth_in p (drop (get_or known.starts 4 0) file))
    unfolding rules_of rules_in
    predicate-name p h =
        let at : p < length preds = omega (arith, (arities-length file e)) in
        let laid : T (is_named most_predicate_arity (get_or preds p [])) = All-get_or (λ (c : List ℕ). T (is_named most_predicate_arity c)) preds [] ((fields-well file e).laid predicate) p at in
        subst (NameIn p) (sym (nth_earlier file known whole knows predicate p at))
        (record {
          some = named_some (get_or preds p []) laid;
          name = sym (get_or-map (λ (d : Syntax.Named). d.name) (map named preds) p (named []) ∙ ap (λ (d : Syntax.Named). d.name) (get_or-map named preds p []));
          short = name-short (drop 1 (get_or preds p [])) ((is_named-exact most_predicate_arity (get_or preds p [])).0 laid).2;
        })
