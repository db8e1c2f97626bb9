-- A name among the contents from a position on, field by field. Assumes nothing.
use Rattle.meaning.proofs.Prelude.{ℕ, ◌+◌, ◌≤◌, ◌-◌, ◌<◌, zero, suc, ◌≡◌, refl, sym, ap, ◌∙◌, ap₂, Bool, true, false, ◌&&◌, ◌||◌}
use Rattle.meaning.proofs.Prelude.{List, [], ◌∷◌, map, length, take, drop, eqb, not-suc-le-zero, arith}
use lib.Pointwise.{pointwise}
use Rattle.meaning.proofs.Definitions.{any_of, same, Front, empty, short, front, front_of}
use Rattle.fields.specs.Found.{found_in}
use Rattle.fields.specs.declared.Found.{Found}
use Rattle.fields.specs.declared.Found.TheVariants.{Whole}
use Rattle.fields.specs.Found.{contents_from, on_content}
use Rattle.fields.proofs.Fronts.{found-whole, front_rest, front-inside, front-content}

-- the name is that of one of the next `left` fields, past the first few bytes of the content
unfoldable pub named : List ℕ → ℕ → List ℕ → ℕ → ℕ → Bool
named name skip file left at = any_of (same name) (map (drop skip) (contents_from left (drop at file)))

-- a field that was found lies inside the file
pub inside : (file : List ℕ) (at : ℕ) {tag len : ℕ} {f : Found} → f ≡ found_in (front_of (drop at file)) → f ≡ Whole tag len → at + 3 + len ≤ length file
inside file at {tag} {len} found whole =
    let w = found-whole (front_of (drop at file)) tag len (sym whole ∙ found) in
    omega (arith, w.3, front-inside file at tag w.0 w.1 w.2)

-- the comparison of two slices is that of `meaning`
pointwise_same : (xs ys : List ℕ) → pointwise eqb xs ys ≡ same xs ys
pointwise_same [] [] = refl
pointwise_same [] (y ∷ ys) = refl
pointwise_same (x ∷ xs) [] = refl
pointwise_same (x ∷ xs) (y ∷ ys) = ap (λ (b : Bool). eqb x y && b) (pointwise_same xs ys)

module _ (name : List ℕ) (skip : ℕ) (file : List ℕ) where
  pub named_none : (left at : ℕ) → left ≤ 0 → named name skip file left at ≡ false
  unfolding named
  named_none zero at h = refl
  named_none (suc left) at h = absurd (not-suc-le-zero h)

  module _ (left at : ℕ) (h : 0 < left) where
    -- by what stands at the position
    on_first : Front → Bool
    on_first f = any_of (same name) (map (drop skip) (on_content f (λ rest. contents_from (left - 1) rest)))

    first : named name skip file left at ≡ on_first (front_of (drop at file))
    unfolding named on_first
    first = let e : left ≡ suc (left - 1) = omega arith in ap (λ (n : ℕ). any_of (same name) (map (drop skip) (contents_from n (drop at file)))) e

    module _ {f : Found} (found : f ≡ found_in (front_of (drop at file))) where
      pub named_not_whole : ((tag len : ℕ) → f ≡ Whole tag len → ⊥) → named name skip file left at ≡ false
      unfolding on_first
      named_not_whole other = first ∙ go (front_of (drop at file)) found
        where
          go : (g : Front) → f ≡ found_in g → on_first g ≡ false
          go empty e = refl
          go short e = refl
          go (front tag content rest) e = absurd (other tag (length content) e)

      module _ {tag len : ℕ} (whole : f ≡ Whole tag len) where
        step : named name skip file left at ≡ (same name (drop skip (take len (drop (at + 3) file))) || named name skip file (left - 1) (at + (3 + len)))
        unfolding named on_first
        step =
            let w = found-whole (front_of (drop at file)) tag len (sym whole ∙ found) in
            let content : w.0 ≡ take len (drop (at + 3) file) =
            sym (ap (λ (n : ℕ). take n (drop (at + 3) file)) (sym w.3) ∙ front-content file at tag w.0 w.1 w.2) in
            let place : at + (3 + length w.0) ≡ at + (3 + len) = ap (λ (n : ℕ). at + (3 + n)) w.3 in
            first
            ∙ (ap on_first w.2
            ∙ ap₂ (λ (c rest : List ℕ). same name (drop skip c) || any_of (same name) (map (drop skip) (contents_from (left - 1) rest))) content
            (front_rest file at tag w.0 w.1 w.2 ∙ ap (λ (n : ℕ). drop n file) place))

        -- by what comparing with the field's name gives
        module _ {content tail : List ℕ} (read : content ≡ take len (drop (at + 3) file)) (past : tail ≡ drop skip content) {r : Bool} (compared : r ≡ pointwise eqb name tail) where
          compare : named name skip file left at ≡ (r || named name skip file (left - 1) (at + (3 + len)))
          compare =
              step
              ∙ ap (λ (b : Bool). b || named name skip file (left - 1) (at + (3 + len)))
              (sym (compared ∙ (pointwise_same name tail ∙ ap (same name) (past ∙ ap (drop skip) read))))

          pub named_here : r ≡ true → named name skip file left at ≡ true
          named_here e = compare ∙ ap (λ (b : Bool). b || named name skip file (left - 1) (at + (3 + len))) e

          pub named-next : r ≡ false → named name skip file left at ≡ named name skip file (left - 1) (at + (3 + len))
          named-next e = compare ∙ ap (λ (b : Bool). b || named name skip file (left - 1) (at + (3 + len))) e
