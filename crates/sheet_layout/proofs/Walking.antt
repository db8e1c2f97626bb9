-- The fields of a sheet one after the other: what holds after some of them are read and none passes a test, and what follows at each way
-- out. Assumes nothing.
use Rattle.meaning.proofs.Prelude.{ℕ, ◌+◌, ◌≤◌, zero-le, ◌≡◌, refl, sym, ap, ◌∙◌, subst, subst₂, Bool, not, none, some, List, [], ◌∷◌, ◌++◌}
use Rattle.meaning.proofs.Prelude.{append_assoc, append-nil, T, length, length-append, take, drop, arith}
use Rattle.meaning.specs.Fields.{Field, whole, cut, front_of, on_front, fields, first_field}
use Rattle.meaning.proofs.Fields.{fields-step, NoField, NoField-append, first-after, first_field-none}
use Rattle.fields.specs.Found.{found_in, content_in, next_in}
use Rattle.fields.specs.declared.Found.{Found}
use Rattle.fields.specs.declared.Found.TheVariants.{End, Cut, Whole}
use Rattle.fields.proofs.Fronts.{front_rest, front-inside, front-content, found-whole, found-cut, found-end}

-- the fields before a position: how many they are, and that none passes
pub record Walked (test : List Field → Field → Bool) (sheet : List ℕ) (at k : ℕ) (done : List Field) : Type 0 where
  pub split : fields sheet ≡ done ++ fields (drop at sheet)
  pub count : length done ≡ k
  pub fine : NoField test [] done
  pub inside : at ≤ length sheet
  pub few : k ≤ at

pub walked_none : (test : List Field → Field → Bool) (sheet : List ℕ) → Walked test sheet 0 0 []
walked_none test sheet = record { split = refl; count = refl; fine = tt; inside = zero-le; few = zero-le }

-- a whole field that was found at a position: its content and what comes after it
pub record Stands (sheet : List ℕ) (at tag len : ℕ) : Type 0 where
  pub inside : at + 3 + len ≤ length sheet
  pub content-is : content_in (front_of (drop at sheet)) ≡ take len (drop (at + 3) sheet)
  pub next-is : next_in at (front_of (drop at sheet)) ≡ at + 3 + len
  pub fields_are : fields (drop at sheet) ≡ whole tag (take len (drop (at + 3) sheet)) ∷ fields (drop (at + 3 + len) sheet)

pub stands : (sheet : List ℕ) (at : ℕ) {f : Found} {tag len : ℕ} → f ≡ found_in (front_of (drop at sheet)) → f ≡ Whole tag len → Stands sheet at tag len
stands sheet at {f} {tag} {len} found is =
    let w = found-whole (front_of (drop at sheet)) tag len (sym is ∙ found) in
    let same : w.0 ≡ take len (drop (at + 3) sheet) =
    sym (front-content sheet at tag w.0 w.1 w.2) ∙ ap (λ (n : ℕ). take n (drop (at + 3) sheet)) w.3 in
    let long : length w.0 ≡ len = w.3 in
    let next : at + (3 + length w.0) ≡ at + 3 + len = omega arith in
    record {
      inside = omega (arith, front-inside sheet at tag w.0 w.1 w.2);
      content-is = ap content_in w.2 ∙ same;
      next-is = ap (next_in at) w.2 ∙ next;
      fields_are =
          fields-step (drop at sheet)
          ∙ (ap (on_front fields) w.2
          ∙ subst₂
          (λ (content rest : List ℕ). whole tag w.0 ∷ fields w.1 ≡ whole tag content ∷ fields rest)
          same
          (front_rest sheet at tag w.0 w.1 w.2 ∙ ap (λ (n : ℕ). drop n sheet) next)
          refl);
    }

module _ {test : List Field → Field → Bool} {sheet : List ℕ} {at k : ℕ} {done : List Field} (w : Walked test sheet at k done) where
  -- no byte is left
  pub walk_end : {f : Found} → f ≡ found_in (front_of (drop at sheet)) → f ≡ End → first_field test (fields sheet) ≡ none
  walk_end found is =
      let e = found-end (front_of (drop at sheet)) (sym is ∙ found) in
      let all : fields sheet ≡ done = w.split ∙ (ap (λ (l : List Field). done ++ l) (fields-step (drop at sheet) ∙ ap (on_front fields) e) ∙ append-nil done) in
      ap (first_field test) all ∙ (first_field-none test done).1 w.fine

  -- a field that passes
  stop : (f : Field) (later : List Field) → fields (drop at sheet) ≡ f ∷ later → T (test done f) → first_field test (fields sheet) ≡ some k
  stop f later e t =
      ap (first_field test) (w.split ∙ ap (λ (l : List Field). done ++ l) e) ∙ (first-after test done f later w.fine t ∙ ap some w.count)

  pub walk_cut : {f : Found} → f ≡ found_in (front_of (drop at sheet)) → f ≡ Cut → T (test done cut) → first_field test (fields sheet) ≡ some k
  walk_cut found is t =
      stop cut [] (fields-step (drop at sheet) ∙ ap (on_front fields) (found-cut (front_of (drop at sheet)) (sym is ∙ found))) t

  module _ {tag len : ℕ} (s : Stands sheet at tag len) where
    pub walk_stop : T (test done (whole tag (take len (drop (at + 3) sheet)))) → first_field test (fields sheet) ≡ some k
    walk_stop t = stop (whole tag (take len (drop (at + 3) sheet))) (fields (drop (at + 3 + len) sheet)) s.fields_are t

    -- one field more
    pub walk_on : {next : ℕ}
        → next ≡ next_in at (front_of (drop at sheet))
        → T (not (test done (whole tag (take len (drop (at + 3) sheet)))))
        → Walked test sheet next (k + 1) (done ++ (whole tag (take len (drop (at + 3) sheet)) ∷ []))
    walk_on {next} moved t =
        let f = whole tag (take len (drop (at + 3) sheet)) in
        let later = fields (drop (at + 3 + len) sheet) in
        subst (λ (n : ℕ). Walked test sheet n (k + 1) (done ++ (f ∷ []))) (sym (moved ∙ s.next-is))
        (record {
          split = w.split ∙ (ap (λ (l : List Field). done ++ l) s.fields_are ∙ sym (append_assoc done (f ∷ []) later));
          count = length-append done (f ∷ []) ∙ ap (λ (n : ℕ). n + 1) w.count;
          fine = (NoField-append test [] done (f ∷ [])).1 (w.fine, (t, tt));
          inside = s.inside;
          few = omega (arith, w.few);
        })
