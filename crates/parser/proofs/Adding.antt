-- What is known with one field more of a kind, as `add_field` writes it. Assumes nothing.
use Rattle.meaning.proofs.Prelude.{ℕ, ◌+◌, ◌<◌, ◌≡◌, refl, sym, ap, ◌∙◌, subst, ◌≢◌, not, List, [], ◌∷◌, ◌++◌, T, eqb, eqb→eq, length, get_or, set, arith}
use Rattle.meaning.proofs.Definitions.{All, padded, arities_in, symbol, predicate, tag_of, first_byte, is_cut, Field, whole, contents_of}
use Rattle.meaning.proofs.Lists.{cond_yes, cond_no, not_intro}
use Rattle.meaning.proofs.ByKind.{tag_range}
use Rattle.declarations.specs.declared.Known.{Known}
use Rattle.declarations.specs.declared.Kind.{Kind}
use Rattle.declarations.specs.declared.Kind.TheVariants.{Symbol, «Type», Production, Predicate, Clause, Query}
use Rattle.declarations.specs.Kinds.{meant}
use Rattle.declarations.specs.Known.{Knows}
use Rattle.declarations.proofs.Knowing.{count_of}
use Rattle.parser.specs.Read.{bytes_in, room_for}
use Rattle.parser.proofs.Keeping.{counted, room-symbol, room-predicate, knows_more, arities-more, arities-kept}

-- a field is counted: its start is written if it is the first of its tag, and no other is
module _ (known : Known) (t at : ℕ) where
  abbrev pub with_starts : List ℕ → Known
  with_starts starts = record { counts = set known.counts t (get_or known.counts t 0 + 1); starts = starts; symbols = known.symbols; predicates = known.predicates }

  pub counted_first : {now : Known} → now ≡ with_starts (set known.starts t at) → get_or known.counts t 0 ≡ 0 → now ≡ counted known t at
  counted_first is e = is ∙ sym (ap with_starts (cond_yes (eqb (get_or known.counts t 0) 0) _ _ (subst (λ (n : ℕ). T (eqb n 0)) (sym e) tt)))

  pub counted_later : {now : Known} → now ≡ with_starts known.starts → get_or known.counts t 0 ≢ 0 → now ≡ counted known t at
  counted_later is ne = is ∙ sym (ap with_starts (cond_no (eqb (get_or known.counts t 0) 0) _ _ (not_intro _ (λ e. ne (eqb→eq _ 0 e)))))

-- the tags of symbols and of predicates are theirs alone
symbol_tag : (kind : Kind) → tag_of symbol ≡ tag_of (meant kind) → kind ≡ Symbol
symbol_tag Symbol e = refl
symbol_tag «Type» e = absurd (omega arith)
symbol_tag Production e = absurd (omega arith)
symbol_tag Predicate e = absurd (omega arith)
symbol_tag Clause e = absurd (omega arith)
symbol_tag Query e = absurd (omega arith)

predicate_tag : (kind : Kind) → tag_of predicate ≡ tag_of (meant kind) → kind ≡ Predicate
predicate_tag Symbol e = absurd (omega arith)
predicate_tag «Type» e = absurd (omega arith)
predicate_tag Production e = absurd (omega arith)
predicate_tag Predicate e = refl
predicate_tag Clause e = absurd (omega arith)
predicate_tag Query e = absurd (omega arith)

-- by the kind: the arity of a symbol or of a predicate is written behind those before it
module _ {known now : Known} {t at : ℕ} (kind : Kind) (index : t ≡ tag_of (meant kind)) (is : now ≡ counted known t at) (done : List Field) (content : List ℕ) (knows : Knows known done) (w : All (λ f. T (not (is_cut f))) done) (bytes : bytes_in done ≡ at) where
  abbrev pub More : Known → Type 0
  More known' = Knows known' (done ++ (whole (tag_of (meant kind)) content ∷ []))

  counted-kind : now ≡ counted known (tag_of (meant kind)) at
  counted-kind = is ∙ ap (λ (u : ℕ). counted known u at) index

  pub adds_other : (kind ≡ Symbol → ⊥) → (kind ≡ Predicate → ⊥) → More now
  adds_other s p =
      let tag = tag_of (meant kind) in
      subst More (sym counted-kind)
      (knows_more known done knows tag at content known.symbols known.predicates (tag_range (meant kind)).1 w bytes
      (arities-kept known done knows symbol 24 tag known.symbols content knows.symbols (λ e. s (symbol_tag kind e)))
      (arities-kept known done knows predicate 16 tag known.predicates content knows.predicates (λ e. p (predicate_tag kind e))))

  module _ (room : get_or known.counts (tag_of (meant kind)) 0 < room_for (tag_of (meant kind))) {first i : ℕ} (byte : first_byte content ≡ first) (place : i ≡ get_or known.counts t 0) where
    tag : ℕ
    tag = tag_of (meant kind)

    held : i ≡ get_or known.counts (tag_of (meant kind)) 0
    held = place ∙ ap (λ (u : ℕ). get_or known.counts u 0) index

    count : i ≡ length (contents_of (tag_of (meant kind)) done)
    count = held ∙ count_of known done knows (tag_of (meant kind)) (tag_range (meant kind)).1

    pub adds_symbol : kind ≡ Symbol → More (record { counts = now.counts; starts = now.starts; symbols = set now.symbols i first; predicates = now.predicates })
    unfolding tag
    adds_symbol e =
        let one : tag ≡ 1 = ap (λ (g : Kind). tag_of (meant g)) e in
        let few : i < 24 = let h = room-symbol tag (get_or known.counts tag 0) one room in omega (arith, held) in
        subst (λ (k : Known). More (record { counts = k.counts; starts = k.starts; symbols = set k.symbols i first; predicates = k.predicates })) (sym counted-kind)
        (knows_more known done knows tag at content (set known.symbols i first) known.predicates (tag_range (meant kind)).1 w bytes
        (arities-more known done knows symbol 24 known.symbols content first i knows.symbols byte (subst (λ (t : ℕ). i ≡ length (contents_of t done)) one count) few
        ∙ ap (λ (t : ℕ). padded 24 (arities_in symbol (done ++ (whole t content ∷ [])))) (sym one))
        (arities-kept known done knows predicate 16 tag known.predicates content knows.predicates (λ z. let four : 4 ≡ 1 = z ∙ one in omega arith)))

    pub adds_predicate : kind ≡ Predicate → More (record { counts = now.counts; starts = now.starts; symbols = now.symbols; predicates = set now.predicates i first })
    unfolding tag
    adds_predicate e =
        let four : tag ≡ 4 = ap (λ (g : Kind). tag_of (meant g)) e in
        let few : i < 16 = let h = room-predicate tag (get_or known.counts tag 0) four room in omega (arith, held) in
        subst (λ (k : Known). More (record { counts = k.counts; starts = k.starts; symbols = k.symbols; predicates = set k.predicates i first })) (sym counted-kind)
        (knows_more known done knows tag at content known.symbols (set known.predicates i first) (tag_range (meant kind)).1 w bytes
        (arities-kept known done knows symbol 24 tag known.symbols content knows.symbols (λ z. let one : 1 ≡ 4 = z ∙ four in omega arith))
        (arities-more known done knows predicate 16 known.predicates content first i knows.predicates byte (subst (λ (t : ℕ). i ≡ length (contents_of t done)) four count) few
        ∙ ap (λ (t : ℕ). padded 16 (arities_in predicate (done ++ (whole t content ∷ [])))) (sym four)))
