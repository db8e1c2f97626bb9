-- What 10 says of a field; and in bytes to which it does not fit, where the states stand. Assumes nothing.
use Rattle.meaning.proofs.Prelude.{ℕ, ◌+◌, ◌<◌, ◌≡◌, refl, sym, ap, ◌∙◌, subst, ⊎_elim, ◌⊎◌, inl, inr, cond, Bool, true, false, not}
use Rattle.meaning.proofs.Prelude.{◌||◌, List, [], ◌∷◌, map, ◌++◌, map-append, append_assoc, append-nil, ltb, T, eqb, eqb→eq}
use Rattle.meaning.proofs.Prelude.{length, length-append, length-map, get_or, drop, get_or_at, arith, ne_eqb, eq-eqb, lt-ltb}
use Rattle.meaning.proofs.Definitions.{state_tag, atom_tag, Field, whole, cut, word, Front, empty, short, front, front_of, on_front, fields, contents_of}
use Rattle.meaning.proofs.Definitions.{is_atom_content, misplaced, states_in}
use Rattle.meaning.proofs.Lists.{T_of, T_false, clash, not-not, neither}
use Rattle.meaning.proofs.Fields.{fields-step, contents_of-append, NoField, first_field-none}
use Rattle.fields.specs.Found.{content_in, next_in}
use Rattle.fields.proofs.Fronts.{front_rest}
use Rattle.sheet_reader.specs.Tags.{tag_in}
use Rattle.sheet_layout.specs.Reading.{misplaced_after, NoneMisplaced}

-- whether an atom's field is among some
abbrev pub seen : List Field → Bool
seen fs = ltb 0 (length (contents_of atom_tag fs))

module _ (preds : List ℕ) (done : List Field) (tag : ℕ) (content : List ℕ) (fine : T (not (misplaced_after preds (seen done) tag content))) where
  -- a field that is not misplaced has one of the two tags; no atom stands before a state
  pub state-or-atom : ((tag ≡ 16) × T (not (seen done)) × (length content ≡ 2)) ⊎ (tag ≡ 17)
  state-or-atom = go (eqb tag 16) (eqb tag 17) refl refl fine
    where
      go : (b d : Bool)
          → eqb tag 16 ≡ b
          → eqb tag 17 ≡ d
          → T (not (cond b (seen done || not (eqb (length content) 2)) (cond d (not (is_atom_content preds content)) true)))
          → ((tag ≡ 16) × T (not (seen done)) × (length content ≡ 2)) ⊎ (tag ≡ 17)
      go true d e f t =
          let w = neither (seen done) (not (eqb (length content) 2)) t in
          inl (eqb→eq tag 16 (T_of (eqb tag 16) e), w.0, eqb→eq (length content) 2 (not-not (eqb (length content) 2) w.1))
      go false true e f t = inr (eqb→eq tag 17 (T_of (eqb tag 17) f))
      go false false e f t = absurd t

  -- so an atom is seen after it exactly if it is one itself
  pub seen_next : eqb tag 17 ≡ seen (done ++ (whole tag content ∷ []))
  seen_next = ⊎_elim (λ w. state w.0 w.1) atom state-or-atom
    where
      with_it : (t : ℕ) → tag ≡ t → seen (done ++ (whole tag content ∷ [])) ≡ ltb 0 (length (contents_of atom_tag done ++ contents_of atom_tag (whole t content ∷ [])))
      with_it t e =
          ap
          (λ (l : List (List ℕ)). ltb 0 (length l))
          (contents_of-append atom_tag done (whole tag content ∷ []) ∙ ap (λ (u : ℕ). contents_of atom_tag done ++ contents_of atom_tag (whole u content ∷ [])) e)

      state : tag ≡ 16 → T (not (seen done)) → eqb tag 17 ≡ seen (done ++ (whole tag content ∷ []))
      state e n =
          ap (λ (t : ℕ). eqb t 17) e
          ∙ sym (with_it 16 e ∙ (ap (λ (l : List (List ℕ)). ltb 0 (length l)) (append-nil (contents_of atom_tag done)) ∙ T_false (seen done) n))

      atom : tag ≡ 17 → eqb tag 17 ≡ seen (done ++ (whole tag content ∷ []))
      atom e =
          eq-eqb tag 17 e
          ∙ sym (with_it 17 e ∙ lt-ltb 0 (length (contents_of atom_tag done ++ (content ∷ []))) (omega (arith, length-append (contents_of atom_tag done) (content ∷ []))))

-- after an atom no state comes
states_over : (preds : List ℕ) (done fs : List Field) → T (seen done) → NoField (misplaced preds) done fs → contents_of state_tag fs ≡ []
states_over preds done [] s h = refl
states_over preds done (cut ∷ fs) s h = absurd h.0
states_over preds done (whole tag content ∷ fs) s h =
    ⊎_elim
    (λ w. absurd (clash (seen done) s w.1))
    (λ e.
    let more : T (seen (done ++ (whole tag content ∷ []))) = T_of _ (sym (seen_next preds done tag content h.0) ∙ eq-eqb tag 17 e) in
    ap (λ (t : ℕ). contents_of state_tag (whole t content ∷ fs)) e ∙ states_over preds (done ++ (whole tag content ∷ [])) fs more h.1)
    (state-or-atom preds done tag content h.0)

-- i states stand before a position, and no atom
pub record Reads (sheet : List ℕ) (at i : ℕ) : Type 0 where
  pub preds : List ℕ
  pub done : List Field
  pub split : fields sheet ≡ done ++ fields (drop at sheet)
  pub count : length (contents_of state_tag done) ≡ i
  pub fits : NoField (misplaced preds) done (fields (drop at sheet))

pub reads_none : (sheet : List ℕ) → NoneMisplaced sheet → Reads sheet 0 0
reads_none sheet p =
    record {
      preds = p.preds;
      done = [];
      split = refl;
      count = refl;
      fits = (first_field-none (misplaced p.preds) (fields sheet)).0 p.fits;
    }

abbrev state_of : List ℕ → ℕ
state_of content = word (get_or content 0 0) (get_or content 1 0)

-- a state's field stands at a position: it is state i
pub record StateHere (sheet : List ℕ) (at i : ℕ) : Type 0 where
  pub place : i < length (states_in (fields sheet))
  pub long : length (content_in (front_of (drop at sheet))) ≡ 2
  pub is : word (get_or (content_in (front_of (drop at sheet))) 0 0) (get_or (content_in (front_of (drop at sheet))) 1 0) ≡ get_or (states_in (fields sheet)) i 0
  pub next : Reads sheet (next_in at (front_of (drop at sheet))) (i + 1)

-- what the tag tells
abbrev Looked : List ℕ → ℕ → ℕ → Bool → Type 0
Looked sheet at i true = StateHere sheet at i
Looked sheet at i false = length (states_in (fields sheet)) ≡ i

module _ (sheet : List ℕ) (at i : ℕ) (r : Reads sheet at i) where
  size : length (states_in r.done) ≡ i
  size = length-map (contents_of state_tag r.done) state_of ∙ r.count

  states_are_lem : (fs : List Field) → fields (drop at sheet) ≡ fs → states_in (fields sheet) ≡ states_in r.done ++ states_in fs
  states_are_lem fs e =
      ap states_in (r.split ∙ ap (λ (l : List Field). r.done ++ l) e)
      ∙ (ap (map state_of) (contents_of-append state_tag r.done fs)
      ∙ map-append state_of (contents_of state_tag r.done) (contents_of state_tag fs))

  -- no state more
  over : (fs : List Field) → fields (drop at sheet) ≡ fs → contents_of state_tag fs ≡ [] → length (states_in (fields sheet)) ≡ i
  over fs e n =
      ap length (states_are_lem fs e ∙ (ap (λ (l : List (List ℕ)). states_in r.done ++ map state_of l) n ∙ append-nil (states_in r.done)))
      ∙ size

  module _ (tag : ℕ) (content rest : List ℕ) (e : front_of (drop at sheet) ≡ front tag content rest) where
    fields-here : fields (drop at sheet) ≡ whole tag content ∷ fields rest
    fields-here = fields-step (drop at sheet) ∙ ap (on_front fields) e

    fine : NoField (misplaced r.preds) r.done (whole tag content ∷ fields rest)
    fine = subst (NoField (misplaced r.preds) r.done) fields-here r.fits

    state-here : tag ≡ 16 → length content ≡ 2 → StateHere sheet at i
    state-here t two =
        let later = states_in (fields rest) in
        let states : states_in (fields sheet) ≡ states_in r.done ++ (state_of content ∷ later) =
        states_are_lem (whole 16 content ∷ fields rest) (fields-here ∙ ap (λ (n : ℕ). whole n content ∷ fields rest) t) in
        let past : next_in at (front_of (drop at sheet)) ≡ at + (3 + length content) = ap (next_in at) e in
        let after : rest ≡ drop (next_in at (front_of (drop at sheet))) sheet = front_rest sheet at tag content rest e ∙ ap (λ (n : ℕ). drop n sheet) (sym past) in
        record {
          place = subst (λ (l : List ℕ). i < length l) (sym states) (omega (arith, length-append (states_in r.done) (state_of content ∷ later), size));
          long = ap (λ (f : Front). length (content_in f)) e ∙ two;
          is = ap (λ (f : Front). state_of (content_in f)) e ∙ sym (ap (λ (l : List ℕ). get_or l i 0) states ∙ get_or_at (states_in r.done) (state_of content) later 0 i size);
          next =
              record {
                preds = r.preds;
                done = r.done ++ (whole tag content ∷ []);
                split = r.split ∙ (ap (λ (l : List Field). r.done ++ l) (fields-here ∙ ap (λ (l : List ℕ). whole tag content ∷ fields l) after) ∙ sym (append_assoc r.done (whole tag content ∷ []) (fields (drop (next_in at (front_of (drop at sheet))) sheet))));
                count =
                    ap length (contents_of-append state_tag r.done (whole tag content ∷ []) ∙ ap (λ (n : ℕ). contents_of state_tag r.done ++ contents_of state_tag (whole n content ∷ [])) t)
                    ∙ (length-append (contents_of state_tag r.done) (content ∷ []) ∙ ap (λ (n : ℕ). n + 1) r.count);
                fits = subst (λ (l : List ℕ). NoField (misplaced r.preds) (r.done ++ (whole tag content ∷ [])) (fields l)) after fine.1;
              };
        }

    atom-here : tag ≡ 17 → length (states_in (fields sheet)) ≡ i
    atom-here t =
        over (whole tag content ∷ fields rest) fields-here
        (ap (λ (n : ℕ). contents_of state_tag (whole n content ∷ fields rest)) t
        ∙ states_over r.preds (r.done ++ (whole tag content ∷ [])) (fields rest) (T_of _ (sym (seen_next r.preds r.done tag content fine.0) ∙ eq-eqb tag 17 t)) fine.1)

  found : Looked sheet at i (eqb (tag_in (front_of (drop at sheet))) 16)
  found = go (front_of (drop at sheet)) refl
    where
      go : (f : Front) → front_of (drop at sheet) ≡ f → Looked sheet at i (eqb (tag_in (front_of (drop at sheet))) 16)
      go empty e =
          subst (Looked sheet at i) (sym (ap (λ (f : Front). eqb (tag_in f) 16) e)) (over [] (fields-step (drop at sheet) ∙ ap (on_front fields) e) refl)
      go short e = absurd (subst (NoField (misplaced r.preds) r.done) (fields-step (drop at sheet) ∙ ap (on_front fields) e) r.fits).0
      go (front tag content rest) e =
          let first : eqb (tag_in (front_of (drop at sheet))) 16 ≡ eqb tag 16 = ap (λ (f : Front). eqb (tag_in f) 16) e in
          ⊎_elim
          (λ s. subst (Looked sheet at i) (sym (first ∙ eq-eqb tag 16 s.0)) (state-here tag content rest e s.0 s.2))
          (λ a. subst (Looked sheet at i) (sym (first ∙ ap (λ (t : ℕ). eqb t 16) a)) (atom-here tag content rest e a))
          (state-or-atom r.preds r.done tag content (fine tag content rest e).0)

  pub state-found : tag_in (front_of (drop at sheet)) ≡ 16 → StateHere sheet at i
  state-found e = subst (Looked sheet at i) (eq-eqb (tag_in (front_of (drop at sheet))) 16 e) found

  pub none_found : (tag_in (front_of (drop at sheet)) ≡ 16 → ⊥) → length (states_in (fields sheet)) ≡ i
  none_found h = subst (Looked sheet at i) (ne_eqb (tag_in (front_of (drop at sheet))) 16 h) found
