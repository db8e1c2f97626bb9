-- What each turn of the loop over the fields asks, from what the loop keeps. Assumes nothing.
use Rattle.meaning.proofs.Prelude.{ℕ, ◌+◌, ◌≤◌, ◌<◌, zero, suc, ◌≡◌, refl, sym, ap, ◌∙◌, subst, subst₂, ◌≢◌, cond, Bool, not, List, [], ◌∷◌, ◌++◌, T}
use Rattle.meaning.proofs.Prelude.{lit<, eqb-suc-zero, length, get_or, take, drop, zero-add, suc-ne-zero, add-one, arith}
use Rattle.meaning.proofs.Definitions.{All, Kind, symbol, type, production, predicate, clause, query, tag_of, most_of, Field, whole, front, front_of}
use Rattle.meaning.proofs.Definitions.{contents_of, Answer, arities_in, refused, accepted, ok, is_cut, refusal, first_byte, refuse_if, no_constant}
use Rattle.meaning.proofs.Answers.{fine-refusal}
use Rattle.meaning.proofs.ByKind.{WellFields, tag_range, fine-well, fine-some}
use Rattle.fields.specs.Found.{found_in}
use Rattle.fields.specs.declared.Found.{Found}
use Rattle.fields.specs.declared.Found.TheVariants.{End, Cut, Whole}
use Rattle.declarations.specs.declared.Known.{Known}
use Rattle.declarations.specs.Known.{Knows}
use Rattle.fields.proofs.Fronts.{front-inside, front-content, found-whole, found-cut, found-end}
use Rattle.declarations.specs.Tests.{known_symbols, field_answer, Stands, CountsFit}
use Rattle.parser.specs.Read.{room_for, bytes_in, Outcome}
use Rattle.declarations.proofs.Knowing.{count_of, length-arities, known_symbols_lem}
use Rattle.parser.proofs.Keeping.{length-padded}
use Rattle.parser.proofs.Reached.{Reached, contents-found, chain_whole, chain_bytes, stop_cut, stop_end, stop_field, reached-more}

-- a kind with room left finds room
room_of : (k : Kind) (n : ℕ) → n < most_of k → n < room_for (tag_of k)
room_of symbol n h = h
room_of type n h = omega arith
room_of production n h = omega arith
room_of predicate n h = h
room_of clause n h = omega arith
room_of query n h = omega arith

-- a refusal of field k by a number
numbered-none : (k n : ℕ) → T (ok (field_answer k n)) → n ≡ 0
numbered-none k zero t = refl
numbered-none k (suc n) t = absurd (subst T (eqb-suc-zero n) (subst (λ (b : Bool). T (ok (cond b accepted (refused (suc n) k)))) (eqb-suc-zero n) t))

numbered-some : (k n : ℕ) → T (not (ok (field_answer k n))) → (n ≢ 0) × (field_answer k n ≡ refused n k)
numbered-some k zero t = absurd t
numbered-some k (suc n) t = (suc-ne-zero n, ap (λ (b : Bool). cond b accepted (refused (suc n) k)) (eqb-suc-zero n))

module _ {file : List ℕ} {at k last : ℕ} {known : Known} (kept : (done : List Field) × Reached file at k last known done) where
  abbrev done : List Field
  done = kept.0

  abbrev reached : Reached file at k last known kept.0
  reached = kept.1

  well : WellFields kept.0
  well = fine-well done reached.fine

  pub turn_fits : CountsFit known
  turn_fits = (
    subst (λ (n : ℕ). n ≤ 24) (sym (count_of known done reached.knows 1 (lit< tt))) (well.counts symbol),
    subst (λ (n : ℕ). n ≤ 16) (sym (count_of known done reached.knows 4 (lit< tt))) (well.counts predicate),
    ap length reached.knows.symbols ∙ length-padded 24 (arities_in symbol done) (subst (λ (n : ℕ). n ≤ 24) (sym (length-arities symbol done)) (well.counts symbol)),
    ap length reached.knows.predicates ∙ length-padded 16 (arities_in predicate done) (subst (λ (n : ℕ). n ≤ 16) (sym (length-arities predicate done)) (well.counts predicate)),
  )

  stands : Stands file known last kept.0
  stands = record { knows = reached.knows; tag = reached.tag; found = λ t. contents-found file t 1 0 done at well.rising reached.chain }

  -- what was found at the position: no whole field, no field, a whole field
  module _ {f : Found} (found : f ≡ found_in (front_of (drop at file))) where
    pub turn_cut : f ≡ Cut → Outcome file (refused 2 k) known
    turn_cut is = stop_cut file at k last known done reached (found-cut (front_of (drop at file)) (sym is ∙ found))

    pub turn_end : f ≡ End → {answer : Answer} → answer ≡ refuse_if (no_constant (known_symbols known)) 7 k → Outcome file answer known
    turn_end is e =
        let end = stop_end file at k last known done reached (found-end (front_of (drop at file)) (sym is ∙ found)) in
        (e ∙ (ap (λ (ns : List ℕ). refuse_if (no_constant ns) 7 k) (known_symbols_lem known done reached.knows) ∙ end.0), end.1)

    module _ {tag len : ℕ} (is : f ≡ Whole tag len) where
      record Here : Type 0 where
        rest : List ℕ
        front_is : front_of (drop at file) ≡ front tag (take len (drop (at + 3) file)) rest
        size : length (take len (drop (at + 3) file)) ≡ len

      here : Here
      here =
          let w = found-whole (front_of (drop at file)) tag len (sym is ∙ found) in
          let same : take len (drop (at + 3) file) ≡ w.0 = ap (λ (n : ℕ). take n (drop (at + 3) file)) (sym w.3) ∙ front-content file at tag w.0 w.1 w.2 in
          record { rest = w.1; front_is = w.2 ∙ ap (λ (l : List ℕ). front tag l w.1) (sym same); size = ap length same ∙ w.3 }

      pub turn_inside : at + 3 + len ≤ length file
      turn_inside = let h = here in omega (arith, front-inside file at tag (take len (drop (at + 3) file)) h.rest h.front_is, h.size)

      -- its content was judged: a refusal ends the reading, else it goes on
      module _ {content : List ℕ} (read : content ≡ take len (drop (at + 3) file)) {answer : Answer} (judged : (done : List Field) → Stands file known last done → answer ≡ field_answer k (refusal done (whole tag content))) where
        number : ℕ
        number = refusal done (whole tag (take len (drop (at + 3) file)))

        says : answer ≡ field_answer k number
        unfolding number
        says = judged done stands ∙ ap (λ (c : List ℕ). field_answer k (refusal done (whole tag c))) read

        pub turn_refused : T (not (ok answer)) → Outcome file answer known
        unfolding number
        turn_refused t =
            let w = numbered-some k number (subst (λ (a : Answer). T (not (ok a))) says t) in
            subst (λ (a : Answer). Outcome file a known) (sym (says ∙ w.1))
            (stop_field file at k last known done reached tag (take len (drop (at + 3) file)) here.rest here.front_is number refl w.0)

        module _ (t : T (ok answer)) (kind : Kind) (tagged : tag ≡ tag_of kind) where
          fine : refusal kept.0 (whole tag (take len (drop (at + 3) file))) ≡ 0
          unfolding number
          fine = numbered-none k number (subst (λ (a : Answer). T (ok a)) says t)

          pub turn_room : get_or known.counts (tag_of kind) 0 < room_for (tag_of kind)
          turn_room =
              let w = fine-some done tag (take len (drop (at + 3) file)) (fine-refusal done (whole tag (take len (drop (at + 3) file))) fine) in
              let held : get_or known.counts tag 0 ≡ length (contents_of tag done) = count_of known done reached.knows tag (subst (λ (t : ℕ). t < 7) (sym w.1) (tag_range w.0).1) in
              subst (λ (g : ℕ). get_or known.counts g 0 < room_for g) tagged
              (subst (λ (n : ℕ). n < room_for tag) (sym held) (subst (λ (g : ℕ). length (contents_of g done) < room_for g) (sym w.1) (room_of w.0 _ w.2.count)))

          pub turn_again : {known' : Known} {first : ℕ} → first ≡ first_byte content
              → ((done : List Field) (c : List ℕ)
              → Knows known done
              → All (λ f. T (not (is_cut f))) done
              → bytes_in done ≡ at
              → first_byte c ≡ first
              → Knows known' (done ++ (whole (tag_of kind) c ∷ [])))
              → (done : List Field) × Reached file (at + (3 + len)) (k + 1) tag known' done
          turn_again {known'} first more =
              let text = take len (drop (at + 3) file) in
              let h = here in
              let knows =
              more done text reached.knows (chain_whole file 0 done at reached.chain) (sym (chain_bytes file 0 done at reached.chain ∙ zero-add (bytes_in done)))
              (sym (first ∙ ap first_byte read)) in
              let all : Knows known' (done ++ (whole tag text ∷ [])) = subst (λ (g : ℕ). Knows known' (done ++ (whole g text ∷ []))) (sym tagged) knows in (
                done ++ (whole tag text ∷ []),
                subst₂ (λ (i n : ℕ). Reached file i n tag known' (done ++ (whole tag text ∷ []))) (ap (λ (n : ℕ). at + (3 + n)) h.size) (sym (add-one k))
                    (reached-more file at k last known done reached tag text h.rest h.front_is known' fine all),
              )
