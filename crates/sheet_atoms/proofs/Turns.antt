-- The walk over the fields of a sheet of which none is misplaced: what holds after some fields, and what each turn brings. Assumes nothing.
use Rattle.meaning.proofs.Prelude.{ℕ, ◌+◌, ◌≤◌, ◌<◌, zero-le, ◌≡◌, refl, sym, ap, ◌∙◌, subst, subst₂, ap₂, ◌≢◌, cond, Bool, true, false, not, ◌&&◌}
use Rattle.meaning.proofs.Prelude.{◌||◌, Option, none, some, some-ne-none, List, [], ◌∷◌, ◌++◌, append-nil, ltb, T, eqb, length, length-append}
use Rattle.meaning.proofs.Prelude.{get_or, drop, replicate, set, length-drop, drop_of_length-le, append_snoc, arith, ne_eqb}
use Rattle.meaning.proofs.Definitions.{all_of, any_of, same, atom_tag, Field, whole, Front, empty, short, front, front_of, on_front, fields, contents_of}
use Rattle.meaning.proofs.Definitions.{first_field, cells, place, accepted, is_atom_content, misplaced, wrong_atom, refused_at}
use Rattle.meaning.proofs.Lists.{T_of, T-not_of, not-not}
use Rattle.meaning.proofs.Fields.{first-after, FrontIs, front_law, fields-step, fields-nil, contents_of-append, contents_of_other, NoField, NoField-append, first_field-none}
use Rattle.fields.specs.Found.{content_in, next_in}
use Rattle.sheet_reader.specs.Tags.{tag_in}
use Rattle.fields.proofs.Fronts.{front_rest}
use Rattle.std.specs.Prelude.{Some, None}
use Rattle.sheet_reader.specs.Faults.{fault_answer}
use Rattle.sheet_atoms.specs.Holding.{is_free, Holding}
use Rattle.sheet_atoms.proofs.Atoms.{hold_none, wrong_is, hold_free}

-- a field that is no atom's is not wrong, and adds no atom
other_fine : (m : ℕ) (done : List Field) (tag : ℕ) (content : List ℕ) → tag ≢ atom_tag → T (not (wrong_atom m done (whole tag content)))
other_fine m done tag [] ne = tt
other_fine m done tag (p ∷ row) ne =
    T-not_of
    (eqb tag atom_tag && (not (all_of (λ d. ltb d m) row) || any_of (same (p ∷ row)) (contents_of atom_tag done)))
    (ap (λ (b : Bool). b && (not (all_of (λ d. ltb d m) row) || any_of (same (p ∷ row)) (contents_of atom_tag done))) (ne_eqb tag atom_tag ne))

other_atoms : (done : List Field) (tag : ℕ) (content : List ℕ) → tag ≢ atom_tag → contents_of atom_tag (done ++ (whole tag content ∷ [])) ≡ contents_of atom_tag done
other_atoms done tag content ne =
    contents_of-append atom_tag done (whole tag content ∷ [])
    ∙ (ap (λ (l : List (List ℕ)). contents_of atom_tag done ++ l) (contents_of_other atom_tag tag (content ∷ []) (T-not_of (eqb tag atom_tag) (ne_eqb tag atom_tag ne)))
    ∙ append-nil (contents_of atom_tag done))

-- what holds after the fields `done`: none of them is wrong, the marks hold their atoms, and the next field starts at `at`
pub record Reached (m : ℕ) (preds sheet : List ℕ) (at k : ℕ) (marks : List ℕ) (done : List Field) : Type 0 where
  pub split : fields sheet ≡ done ++ fields (drop at sheet)
  pub count : length done ≡ k
  pub fine : NoField (wrong_atom m) [] done
  pub holding : Holding m preds (contents_of atom_tag done) marks
  pub few : k ≤ at

module _ (m : ℕ) (preds sheet : List ℕ) where
  pub reached-none : {marks : List ℕ} → marks ≡ replicate (cells m preds) 0 → Reached m preds sheet 0 0 marks []
  reached-none e = record { split = refl; count = refl; fine = tt; holding = subst (Holding m preds []) (sym e) (hold_none m preds); few = zero-le }

  module _ {at k : ℕ} {marks : List ℕ} {done : List Field} (r : Reached m preds sheet at k marks done) where
    -- at the end
    pub ends : length sheet ≤ at
        → (fault_answer 12 None ≡ refused_at 12 (first_field (wrong_atom m) (fields sheet)) accepted)
        × ((length marks ≡ cells m preds)
        × (first_field (wrong_atom m) (fields sheet) ≡ none → Holding m preds (contents_of atom_tag (fields sheet)) marks))
    ends le =
        let whole-sheet : done ≡ fields sheet = sym (r.split ∙ (ap (λ (l : List ℕ). done ++ fields l) (drop_of_length-le sheet le) ∙ (ap (λ (l : List Field). done ++ l) fields-nil ∙ append-nil done))) in (
          sym (ap (λ (place : Option ℕ). refused_at 12 place accepted) ((first_field-none (wrong_atom m) (fields sheet)).1 (subst (NoField (wrong_atom m) []) whole-sheet r.fine))),
          (r.holding.size, λ _. subst (λ (fs : List Field). Holding m preds (contents_of atom_tag fs) marks) whole-sheet r.holding),
        )

    module _ (placed : first_field (misplaced preds) (fields sheet) ≡ none) (lt : at < length sheet) where
      -- a whole field stands at the position
      record Here : Type 0 where
        tag : ℕ
        content : List ℕ
        rest : List ℕ
        is : front_of (drop at sheet) ≡ front tag content rest
        fits : T (not (misplaced preds done (whole tag content)))

      here : Here
      here = go (front_of (drop at sheet)) refl
        where
          left : NoField (misplaced preds) done (fields (drop at sheet))
          left =
              ((NoField-append (misplaced preds) [] done (fields (drop at sheet))).0
              (subst (NoField (misplaced preds) []) r.split ((first_field-none (misplaced preds) (fields sheet)).0 placed))).1

          go : (f : Front) → front_of (drop at sheet) ≡ f → Here
          go empty e =
              let none_left : drop at sheet ≡ [] = subst (FrontIs (drop at sheet)) e (front_law (drop at sheet)) in
              absurd (omega (arith, length-drop at sheet, ap length none_left))
          go short e = absurd (subst (NoField (misplaced preds) done) (fields-step (drop at sheet) ∙ ap (on_front fields) e) left).0
          go (front tag content rest) e =
              record {
                tag = tag;
                content = content;
                rest = rest;
                is = e;
                fits = (subst (NoField (misplaced preds) done) (fields-step (drop at sheet) ∙ ap (on_front fields) e) left).0;
              }

      tag_is : tag_in (front_of (drop at sheet)) ≡ here.tag
      tag_is = ap tag_in here.is

      content-is : content_in (front_of (drop at sheet)) ≡ here.content
      content-is = ap content_in here.is

      next-is : next_in at (front_of (drop at sheet)) ≡ at + (3 + length here.content)
      next-is = ap (next_in at) here.is

      fields-here : fields (drop at sheet) ≡ whole here.tag here.content ∷ fields here.rest
      fields-here = fields-step (drop at sheet) ∙ ap (on_front fields) here.is

      pub next_past : at < next_in at (front_of (drop at sheet))
      next_past = subst (λ (n : ℕ). at < n) (sym next-is) (omega arith)

      -- with one field more
      more : {at' : ℕ} {marks' : List ℕ}
          → at' ≡ next_in at (front_of (drop at sheet))
          → T (not (wrong_atom m done (whole here.tag here.content)))
          → Holding m preds (contents_of atom_tag (done ++ (whole here.tag here.content ∷ []))) marks'
          → (later : List Field) × Reached m preds sheet at' (k + 1) marks' later
      more next fine holds =
          let f = whole here.tag here.content in (
            done ++ (f ∷ []),
            record {
              split =
                  r.split
                  ∙ (ap (λ (l : List Field). done ++ l) fields-here
                  ∙ (sym (append_snoc done f (fields here.rest))
                  ∙ ap (λ (l : List ℕ). done ++ (f ∷ []) ++ fields l) (front_rest sheet at here.tag here.content here.rest here.is ∙ ap (λ (n : ℕ). drop n sheet) (sym (next ∙ next-is)))));
              count = length-append done (f ∷ []) ∙ ap (λ (n : ℕ). n + 1) r.count;
              fine = (NoField-append (wrong_atom m) [] done (f ∷ [])).1 (r.fine, (fine, tt));
              holding = holds;
              few = omega (arith, r.few, next, next_past);
            },
          )

      -- a field that is no atom's
      pub turn_other : {at' : ℕ} {marks' : List ℕ}
          → at' ≡ next_in at (front_of (drop at sheet))
          → tag_in (front_of (drop at sheet)) ≢ 17
          → marks' ≡ marks
          → (later : List Field) × Reached m preds sheet at' (k + 1) marks' later
      turn_other next ne e =
          let other : here.tag ≢ atom_tag = λ t. ne (tag_is ∙ t) in
          more
          next
          (other_fine m done here.tag here.content other)
          (subst₂ (Holding m preds) (sym (other_atoms done here.tag here.content other)) (sym e) r.holding)

      -- an atom's
      module _ (seventeen : tag_in (front_of (drop at sheet)) ≡ 17) where
        pub atom-here : T (is_atom_content preds (content_in (front_of (drop at sheet))))
        atom-here =
            subst
            (λ (l : List ℕ). T (is_atom_content preds l))
            (sym content-is)
            (not-not
            (is_atom_content preds here.content)
            (subst (λ (n : ℕ). T (not (misplaced preds done (whole n here.content)))) (sym tag_is ∙ seventeen) here.fits))

        module _ {content marks' : List ℕ} {b : Bool}
            (is : content ≡ content_in (front_of (drop at sheet)))
            (says : b ≡ is_free m preds marks content)
            (puts : marks' ≡ cond b (set marks (place m preds (get_or content 0 0) (drop 1 content)) 2) marks) where
          field_is : whole atom_tag content ≡ whole here.tag here.content
          field_is = ap₂ whole (sym seventeen ∙ tag_is) (is ∙ content-is)

          atom : T (is_atom_content preds content)
          atom = subst (λ (l : List ℕ). T (is_atom_content preds l)) (sym is) atom-here

          wrong : wrong_atom m done (whole here.tag here.content) ≡ not b
          wrong = ap (wrong_atom m done) (sym field_is) ∙ (wrong_is m preds done marks r.holding content atom ∙ ap not (sym says))

          puts_by : {a : Bool} → b ≡ a → marks' ≡ cond a (set marks (place m preds (get_or content 0 0) (drop 1 content)) 2) marks
          puts_by e = puts ∙ ap (λ (a : Bool). cond a (set marks (place m preds (get_or content 0 0) (drop 1 content)) 2) marks) e

          pub stop_wrong : b ≡ false
              → (fault_answer 12 (Some k) ≡ refused_at 12 (first_field (wrong_atom m) (fields sheet)) accepted)
              × ((length marks' ≡ cells m preds)
              × (first_field (wrong_atom m) (fields sheet) ≡ none → Holding m preds (contents_of atom_tag (fields sheet)) marks'))
          stop_wrong e =
              let first : first_field (wrong_atom m) (fields sheet) ≡ some k =
              ap (first_field (wrong_atom m)) (r.split ∙ ap (λ (l : List Field). done ++ l) fields-here)
              ∙ (first-after (wrong_atom m) done (whole here.tag here.content) (fields here.rest) r.fine (T_of (wrong_atom m done (whole here.tag here.content)) (wrong ∙ ap not e))
              ∙ ap some r.count) in
              (sym (ap (λ (place : Option ℕ). refused_at 12 place accepted) first), (ap length (puts_by e) ∙ r.holding.size, λ z. absurd (some-ne-none k (sym first ∙ z))))

          pub turn_atom : {at' : ℕ} → at' ≡ next_in at (front_of (drop at sheet)) → b ≡ true → (later : List Field) × Reached m preds sheet at' (k + 1) marks' later
          turn_atom next e =
              more
              next
              (T-not_of (wrong_atom m done (whole here.tag here.content)) (wrong ∙ ap not e))
              (subst₂
              (λ (f : Field) (l : List ℕ). Holding m preds (contents_of atom_tag (done ++ (f ∷ []))) l)
              field_is
              (sym (puts_by e))
              (hold_free m preds done marks r.holding content atom (sym says ∙ e)))
