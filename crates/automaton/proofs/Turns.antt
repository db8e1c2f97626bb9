-- One production of a file, and the productions from a position on, field by field. Assumes nothing.
use Rattle.meaning.proofs.Prelude.{ℕ, ◌+◌, ◌≤◌, zero, suc, ◌^◌, ◌≡◌, refl, sym, ap, ◌∙◌, subst, ap₂, List, [], ◌∷◌, map, length, get_or, take}
use Rattle.meaning.proofs.Prelude.{drop, not-suc-le-zero, lt_of_lt_of_le, one-mul, add-one, arith}
use Rattle.meaning.proofs.Definitions.{Front, front_of, Production, start, WellProduction, production_of}
use Rattle.meaning.proofs.Lists.{All-map}
use Rattle.meaning.proofs.Cells.{start-le}
use Rattle.fields.specs.Found.{found_in, contents_from, on_content}
use Rattle.fields.specs.declared.Found.{Found}
use Rattle.fields.specs.declared.Found.TheVariants.{Whole}
use Rattle.meaning.specs.Fields.{empty, short, front}
use Rattle.fields.proofs.Fronts.{found-whole, front_rest, front-inside, front-content}
use Rattle.automaton.specs.Sets.{added}
use Rattle.automaton.specs.Marking.{mark_rows, mark_production, mark_all, Markable, AreProductions, Fillable}
use Rattle.automaton.proofs.Marking.{length-mark_rows}

-- among more types a production is well formed all the same
pub well-more : {types more : ℕ} (arities : List ℕ) (p : Production) → types ≤ more → WellProduction types arities p → WellProduction more arities p
well-more arities p h w = (lt_of_lt_of_le w.0 h, w.1, All-map p.arguments (λ t lt. lt_of_lt_of_le lt h) w.2)

-- a buffer of the same length serves as well
pub fillable_same : {states arities sets l : List ℕ} → Fillable states arities sets → length l ≡ length sets → Fillable states arities l
fillable_same h e = record { few = h.few; symbols = h.symbols; small = h.small; room = omega (arith, h.room, e) }

-- one production: where its segment starts, and what it asks of the buffer
module _ (states arities sets content : List ℕ) (fill : Fillable states arities sets) (well : WellProduction 16 arities (production_of content)) where
  module _ {number base : ℕ} (read : number ≡ get_or content 1 0) (starts : base ≡ start (length states) arities number) where
    base_is : base ≡ start (length states) arities (get_or content 1 0)
    base_is = starts ∙ ap (start (length states) arities) read

    pub production_markable : Markable states base (drop 2 content) 0 sets
    production_markable =
        let m : ℕ = length states in
        let n : ℕ = length (drop 2 content) in
        record {
          asked = well.2;
          room = omega (arith, fill.room, base_is, one-mul (m ^ n), start-le m arities (get_or content 1 0) n well.1);
        }

    pub production-marked : {target : ℕ} {l : List ℕ}
        → target ≡ added 0 (get_or content 0 0)
        → l ≡ mark_rows states base target (drop 2 content) 0 sets
        → l ≡ mark_production states arities (production_of content) sets
    unfolding mark_production
    production-marked target e = e ∙ ap₂ (λ (b t : ℕ). mark_rows states b t (drop 2 content) 0 sets) base_is target

-- marking it keeps the length
pub length-mark_production : (states arities : List ℕ) (p : Production) (sets : List ℕ) {l : List ℕ}
    → l ≡ mark_production states arities p sets
    → length l ≡ length sets
unfolding mark_production
length-mark_production states arities p sets e =
    ap (λ (k : List ℕ). length k) e ∙ length-mark_rows states (start (length states) arities p.symbol) (added 0 p.target) p.arguments 0 sets

-- the productions of the next `left` fields, in order
unfoldable pub mark_from : List ℕ → List ℕ → List ℕ → ℕ → ℕ → List ℕ → List ℕ
mark_from states arities file left at sets = mark_all states arities (map production_of (contents_from left (drop at file))) sets

pub from_none : (states arities file : List ℕ) (left at : ℕ) (sets : List ℕ) → left ≤ 0 → mark_from states arities file left at sets ≡ sets
unfolding mark_from
from_none states arities file zero at sets h = refl
from_none states arities file (suc left) at sets h = absurd (not-suc-le-zero h)

module _
    (file : List ℕ) (at later : ℕ) {types left : ℕ} {arities : List ℕ}
    (more : left ≡ later + 1)
    (are : AreProductions types arities left (contents_from left (drop at file)))
  where
    -- by what stands at the position
    on_first : Front → List (List ℕ)
    on_first f = on_content f (λ rest. contents_from later rest)

    first : contents_from left (drop at file) ≡ on_first (front_of (drop at file))
    unfolding on_first
    first = ap (λ (n : ℕ). contents_from n (drop at file)) (more ∙ add-one later)

    module _ {f : Found} (found : f ≡ found_in (front_of (drop at file))) where
      -- a whole field stands there
      pub never_none : ((tag len : ℕ) → f ≡ Whole tag len → ⊥) → ⊥
      unfolding on_first
      never_none none = go (front_of (drop at file)) refl
        where
          no_content : (x : Front) → front_of (drop at file) ≡ x → on_first x ≡ [] → ⊥
          no_content x e nothing =
              let number : left ≡ 0 = sym are.number ∙ ap (λ (l : List (List ℕ)). length l) (first ∙ (ap on_first e ∙ nothing)) in
              omega arith

          go : (x : Front) → front_of (drop at file) ≡ x → ⊥
          go empty e = no_content empty e refl
          go short e = no_content short e refl
          go (front tag content rest) e = none tag (length content) (found ∙ ap found_in e)

      module _ {tag len : ℕ} (whole : f ≡ Whole tag len) where
        pub field_inside : at + 3 + len ≤ length file
        field_inside =
            let w = found-whole (front_of (drop at file)) tag len (sym whole ∙ found) in
            omega (arith, w.3, front-inside file at tag w.0 w.1 w.2)

        module _ {content : List ℕ} (read : content ≡ take len (drop (at + 3) file)) where
          contents-next : contents_from left (drop at file) ≡ content ∷ contents_from later (drop (at + (3 + len)) file)
          unfolding on_first
          contents-next =
              let w = found-whole (front_of (drop at file)) tag len (sym whole ∙ found) in
              let same : w.0 ≡ content =
              sym (read ∙ (ap (λ (n : ℕ). take n (drop (at + 3) file)) (sym w.3) ∙ front-content file at tag w.0 w.1 w.2)) in
              let place : at + (3 + length w.0) ≡ at + (3 + len) = omega (arith, w.3) in
              first
              ∙ (ap on_first w.2
              ∙ ap₂ (λ (c rest : List ℕ). c ∷ contents_from later rest) same
              (front_rest file at tag w.0 w.1 w.2 ∙ ap (λ (n : ℕ). drop n file) place))

          next_are : AreProductions types arities left (content ∷ contents_from later (drop (at + (3 + len)) file))
          next_are = subst (AreProductions types arities left) contents-next are

          pub first-long : 2 ≤ length content
          first-long = next_are.long.0

          pub first-well : types ≤ 16 → WellProduction 16 arities (production_of content)
          first-well low = well-more arities (production_of content) low next_are.well.0

          pub rest_are : AreProductions types arities later (contents_from later (drop (at + (3 + len)) file))
          rest_are = record { number = omega (arith, next_are.number); long = next_are.long.1; well = next_are.well.1 }

          pub from_next : (states sets : List ℕ) {l : List ℕ}
              → l ≡ mark_production states arities (production_of content) sets
              → mark_from states arities file later (at + (3 + len)) l ≡ mark_from states arities file left at sets
          unfolding mark_from
          from_next states sets e =
              ap (mark_all states arities (map production_of (contents_from later (drop (at + (3 + len)) file)))) e
              ∙ sym (ap (λ (cs : List (List ℕ)). mark_all states arities (map production_of cs) sets) contents-next)
