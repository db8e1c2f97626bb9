-- The loop over the fields: what holds after some of them are read, and what follows at each way out. Assumes nothing.
use Rattle.meaning.proofs.Prelude.{ℕ, ◌+◌, ◌≤◌, ◌<◌, suc, zero-le, ◌≡◌, refl, sym, ap, ◌∙◌, subst, ap₂, ◌≢◌, ⊎_elim, ◌⊎◌, inl, inr, cond, not, none}
use Rattle.meaning.proofs.Prelude.{some, List, [], ◌∷◌, ◌++◌, append-nil, T, eqb, eqb→eq, eqb_refl, length, length-append, drop, take-append_seam}
use Rattle.meaning.proofs.Prelude.{get_or-append_seam, add-zero, eq-or-lt_of_le, add_assoc, le_refl, le_of_eq, add-one, arith}
use Rattle.meaning.proofs.Definitions.{All, Field, whole, cut, Front, empty, short, front, front_of, on_front, fields, contents_of, refuse_if, no_constant}
use Rattle.meaning.proofs.Definitions.{contents, arities_in, is_refused, is_cut, last_tag, refusal, first_refused, refused, symbol, answer_at, rules_in}
use Rattle.meaning.proofs.Lists.{decide, cond_yes, cond_no, not_intro}
use Rattle.meaning.proofs.Fields.{first-after, fields-step, NoField, NoField-append, first_field-none}
use Rattle.meaning.proofs.ByKind.{last_tag-snoc, TagsRise, contents_below}
use Rattle.meaning.proofs.Acceptance.{arities-named}
use Rattle.fields.proofs.Fronts.{front_rest, front-inside}
use Rattle.fields.specs.Found.{contents_from, on_content}
use Rattle.declarations.specs.Known.{Knows, before, first_at}
use Rattle.declarations.specs.declared.Known.{Known}
use Rattle.parser.specs.Read.{bytes_in, Outcome}

-- the fields from a position on, one after the other, up to a position
abbrev pub Chain : List ℕ → ℕ → List Field → ℕ → Type 0
Chain file at [] next = at ≡ next
Chain file at (cut ∷ fs) next = ⊥
Chain file at (whole tag content ∷ fs) next =
    (front_of (drop at file) ≡ front tag content (drop (at + (3 + length content)) file)) × Chain file (at + (3 + length content)) fs next

chain_snoc : (file : List ℕ) (a : ℕ) (fs : List Field) (at tag : ℕ) (content : List ℕ)
    → Chain file a fs at
    → front_of (drop at file) ≡ front tag content (drop (at + (3 + length content)) file)
    → Chain file a (fs ++ (whole tag content ∷ [])) (at + (3 + length content))
chain_snoc file a [] at tag content c e = (
  subst (λ (i : ℕ). front_of (drop i file) ≡ front tag content (drop (i + (3 + length content)) file)) (sym c) e,
  ap (λ (i : ℕ). i + (3 + length content)) c,
)
chain_snoc file a (cut ∷ fs) at tag content c e = absurd c
chain_snoc file a (whole t d ∷ fs) at tag content c e = (c.0, chain_snoc file (a + (3 + length d)) fs at tag content c.1 e)

chain_fields : (file : List ℕ) (a : ℕ) (fs : List Field) (next : ℕ) → Chain file a fs next → fields (drop a file) ≡ fs ++ fields (drop next file)
chain_fields file a [] next c = ap (λ (i : ℕ). fields (drop i file)) c
chain_fields file a (cut ∷ fs) next c = absurd c
chain_fields file a (whole t d ∷ fs) next c =
    fields-step (drop a file) ∙ (ap (on_front fields) c.0 ∙ ap (λ (l : List Field). whole t d ∷ l) (chain_fields file (a + (3 + length d)) fs next c.1))

pub chain_bytes : (file : List ℕ) (a : ℕ) (fs : List Field) (next : ℕ) → Chain file a fs next → next ≡ a + bytes_in fs
chain_bytes file a [] next c = sym c ∙ sym (add-zero a)
chain_bytes file a (cut ∷ fs) next c = absurd c
chain_bytes file a (whole t d ∷ fs) next c = chain_bytes file (a + (3 + length d)) fs next c.1 ∙ add_assoc a (3 + length d) (bytes_in fs)

pub chain_whole : (file : List ℕ) (a : ℕ) (fs : List Field) (next : ℕ) → Chain file a fs next → All (λ f. T (not (is_cut f))) fs
chain_whole file a [] next c = tt
chain_whole file a (cut ∷ fs) next c = absurd c
chain_whole file a (whole t d ∷ fs) next c = (tt, chain_whole file (a + (3 + length d)) fs next c.1)

-- the contents of a tag stand one after the other, from the first
contents_in_row : (file : List ℕ) (tag a : ℕ) (fs : List Field) (next : ℕ)
    → TagsRise tag 7 fs
    → Chain file a fs next
    → contents_from (length (contents_of tag fs)) (drop a file) ≡ contents_of tag fs
contents_in_row file tag a [] next r c = refl
contents_in_row file tag a (cut ∷ fs) next r c = absurd r
contents_in_row file tag a (whole t d ∷ fs) next r c = ⊎_elim (λ e. here e (λ h. contents_in_row file tag (a + (3 + length d)) fs next h c.1)) above (eq-or-lt_of_le r.0)
  where
    Goal : List (List ℕ) → Type 0
    Goal l = contents_from (length l) (drop a file) ≡ l

    above : tag < t → Goal (contents_of tag (whole t d ∷ fs))
    above lt = subst Goal (sym (contents_below tag t 7 (whole t d ∷ fs) lt (le_refl t, r.1, r.2))) refl

    here : tag ≡ t
        → (TagsRise tag 7 fs → contents_from (length (contents_of tag fs)) (drop (a + (3 + length d)) file) ≡ contents_of tag fs)
        → Goal (contents_of tag (whole t d ∷ fs))
    here e rec =
        subst
        Goal
        (sym (ap (λ (l : List (List ℕ)). l ++ contents_of tag fs) (cond_yes (eqb t tag) (d ∷ []) [] (subst (λ (n : ℕ). T (eqb n tag)) e (eqb_refl tag)))))
        (ap (λ (f : Front). on_content f (λ rest. contents_from (length (contents_of tag fs)) rest)) c.0
        ∙ ap (λ (l : List (List ℕ)). d ∷ l) (rec (subst (λ (n : ℕ). TagsRise n 7 fs) (sym e) r.2)))

pub contents-found : (file : List ℕ) (tag u a : ℕ) (fs : List Field) (next : ℕ)
    → TagsRise u 7 fs
    → Chain file a fs next
    → contents_from (length (contents_of tag fs)) (drop (first_at tag a fs) file) ≡ contents_of tag fs
contents-found file tag u a [] next r c = refl
contents-found file tag u a (cut ∷ fs) next r c = absurd r
contents-found file tag u a (whole t d ∷ fs) next r c = go (decide (eqb t tag)) (contents-found file tag t (a + (3 + length d)) fs next r.2 c.1)
  where
    later : ℕ
    later = first_at tag (a + (3 + length d)) fs

    go : T (eqb t tag) ⊎ T (not (eqb t tag))
        → contents_from (length (contents_of tag fs)) (drop later file) ≡ contents_of tag fs
        → contents_from (length (contents_of tag (whole t d ∷ fs))) (drop (cond (eqb t tag) a later) file) ≡ contents_of tag (whole t d ∷ fs)
    go (inl t') rec =
        let e = eqb→eq t tag t' in
        ap (λ (n : ℕ). contents_from (length (contents_of tag (whole t d ∷ fs))) (drop n file)) (cond_yes (eqb t tag) a later t')
        ∙ contents_in_row file tag a (whole t d ∷ fs) next (le_of_eq (sym e), r.1, r.2) c
    go (inr t') rec =
        let skip = cond_no (eqb t tag) (d ∷ []) [] t' in
        ap₂ (λ (l : List (List ℕ)) (n : ℕ). contents_from (length (l ++ contents_of tag fs)) (drop n file)) skip (cond_no (eqb t tag) a later t')
        ∙ (rec ∙ ap (λ (l : List (List ℕ)). l ++ contents_of tag fs) (sym skip))

-- what holds after the fields `done` are read: the next field starts at `at`
pub record Reached (file : List ℕ) (at k last : ℕ) (known : Known) (done : List Field) : Type 0 where
  pub chain : Chain file 0 done at
  pub count : length done ≡ k
  pub tag : last_tag done ≡ last
  pub fine : NoField is_refused [] done
  pub knows : Knows known done
  pub inside : at ≤ length file
  pub few : k ≤ at

pub reached-none : (file : List ℕ) (known : Known) → Knows known [] → Reached file 0 0 0 known []
reached-none file known h = record { chain = refl; count = refl; tag = refl; fine = tt; knows = h; inside = zero-le; few = zero-le }

module _ (file : List ℕ) (at k last : ℕ) (known : Known) (done : List Field) (r : Reached file at k last known done) where
  split : fields file ≡ done ++ fields (drop at file)
  split = chain_fields file 0 done at r.chain

  -- a field that is refused ends it
  pub stop_refused : (f : Field) (later : List Field) (n : ℕ)
      → fields (drop at file) ≡ f ∷ later
      → refusal done f ≡ n
      → n ≢ 0
      → Outcome file (refused n k) known
  unfolding first_refused
  stop_refused f later n e is pos =
      let whole_file : fields file ≡ done ++ f ∷ later = split ∙ ap (λ (l : List Field). done ++ l) e in
      let first : first_refused (fields file) ≡ some (length done) =
      ap first_refused whole_file ∙ first-after is_refused done f later r.fine (not_intro (eqb (refusal done f) 0) (λ t. pos (sym is ∙ eqb→eq (refusal done f) 0 t))) in (
        ap₂ refused (sym is) (sym r.count)
            ∙ (sym (ap₂ (λ (d : List Field) (g : Field). refused (refusal d g) (length done)) (take-append_seam done (f ∷ later)) (get_or-append_seam done f later cut))
            ∙ sym (ap₂ answer_at whole_file first)),
        subst (Knows known) (sym (ap₂ before whole_file first ∙ take-append_seam done (f ∷ later))) r.knows,
      )

  pub stop_cut : front_of (drop at file) ≡ short → Outcome file (refused 2 k) known
  unfolding refusal
  stop_cut e = stop_refused cut [] 2 (fields-step (drop at file) ∙ ap (on_front fields) e) refl (λ (z : ◌≡◌ {A = ℕ} 2 0). omega arith)

  -- the end of the file
  pub stop_end : front_of (drop at file) ≡ empty → Outcome file (refuse_if (no_constant (arities_in symbol done)) 7 k) known
  unfolding rules_in first_refused
  stop_end e =
      let all : fields file ≡ done = split ∙ (ap (λ (l : List Field). done ++ l) (fields-step (drop at file) ∙ ap (on_front fields) e) ∙ append-nil done) in
      let first : first_refused (fields file) ≡ none = ap first_refused all ∙ (first_field-none is_refused done).1 r.fine in (
        ap₂ (λ (l : List ℕ) (n : ℕ). refuse_if (no_constant l) 7 n) (sym (arities-named (contents symbol done))) (sym r.count)
            ∙ sym (ap₂ answer_at all first),
        subst (Knows known) (sym (ap₂ before all first)) r.knows,
      )

  module _ (tag : ℕ) (content rest : List ℕ) (is : front_of (drop at file) ≡ front tag content rest) where
    here : fields (drop at file) ≡ whole tag content ∷ fields rest
    here = fields-step (drop at file) ∙ ap (on_front fields) is

    pub stop_field : (n : ℕ) → refusal done (whole tag content) ≡ n → n ≢ 0 → Outcome file (refused n k) known
    stop_field n e pos = stop_refused (whole tag content) (fields rest) n here e pos

    -- one field more
    pub reached-more : (known' : Known)
        → refusal done (whole tag content) ≡ 0
        → Knows known' (done ++ (whole tag content ∷ []))
        → Reached file (at + (3 + length content)) (suc k) tag known' (done ++ (whole tag content ∷ []))
    reached-more known' e knows =
        record {
          chain = chain_snoc file 0 done at tag content r.chain (is ∙ ap (front tag content) (front_rest file at tag content rest is));
          count = length-append done (whole tag content ∷ []) ∙ (ap (λ (n : ℕ). n + 1) r.count ∙ add-one k);
          tag = last_tag-snoc done tag content;
          fine = (NoField-append is_refused [] done (whole tag content ∷ [])).1 (r.fine, (subst (λ (n : ℕ). T (not (not (eqb n 0)))) (sym e) tt, tt));
          knows = knows;
          inside = front-inside file at tag content rest is;
          few = omega (arith, r.few);
        }
