-- The answer to a sheet from the four searches, and what each of them asks. Assumes nothing.
use Rattle.meaning.proofs.Prelude.{ℕ, ◌<◌, zero, suc, ◌^◌, max, ◌≡◌, refl, sym, ap, ◌∙◌, subst, cond, Bool, true, false, not, ◌&&◌, Option, none}
use Rattle.meaning.proofs.Prelude.{some, List, [], ◌∷◌, ◌++◌, mem_cast, ltb, T, eqb, eqb→eq, ltb→lt, length, replicate, length-replicate, arith}
use Rattle.meaning.proofs.Definitions.{All, all_of, any_of, any_below, same, lowest, look_up, Clause, atom_tag, Field, whole, cut, fields, contents_of}
use Rattle.meaning.proofs.Definitions.{first_field, row_of, IsAtom, instance_in, marked, IsSheetAtom, is_atom_content, misplaced, states_in, differ}
use Rattle.meaning.proofs.Definitions.{wrong_atom, among, violated, violated_at, refused_at, answer_of_sheet, marked_atoms, rules_of, predicate_arities}
use Rattle.meaning.proofs.Definitions.{states_of, interpretation_of}
use Rattle.meaning.specs.Refusals as meant
use Rattle.meaning.proofs.Lists.{T_of, bool_ext, lowest_ext, not-not, neither, any_find, any_give, all_facts, All-append, All-find, All-map, same-eq, same_refl}
use Rattle.meaning.proofs.Contents.{declared-exact}
use Rattle.meaning.proofs.Fields.{NoField, first_field-none}
use Rattle.meaning.proofs.Certificates.{check-misplaced, check-differ, check_wrong, check-violated, check-accepted}
use Rattle.meaning.proofs.MarkedAtoms.{marked-atoms-exact}
use Rattle.declarations.specs.declared.Known.{Known}
use Rattle.declarations.specs.Tests.{earlier_in}
use Rattle.parser.proofs.Limits.{predicates_known}
use Rattle.evaluation.specs.Search.{clauses_in}
use Rattle.acceptance.specs.Handed.{Handed}
use Rattle.acceptance.proofs.Handing.{few-states, few-preds, narrow-preds, handed_violations}
use Rattle.std.specs.Prelude as rust
use Rattle.std.specs.Prelude.{Some, None}
use Rattle.sheet_reader.specs.Faults.{fault_answer}
use Rattle.sheet_atoms.specs.Holding.{Segmented, Holding}

-- what was found, from what was handed back: the number that is looked for is not 0
pub nowhere : {n : ℕ} {o : Option ℕ} {f : rust.Option ℕ} → 0 < n → fault_answer n f ≡ refused_at n o meant.accepted → f ≡ None → o ≡ none
nowhere {n} {o} pos is e = go o (sym (ap (fault_answer n) e) ∙ is)
  where
    go : (o : Option ℕ) → meant.accepted ≡ refused_at n o meant.accepted → o ≡ none
    go none h = refl
    go (some k) h = absurd (omega (arith, ap (λ (a : meant.Answer). a.number) h))

pub somewhere : {n : ℕ} {o : Option ℕ} {f : rust.Option ℕ} {k : ℕ} → 0 < n → fault_answer n f ≡ refused_at n o meant.accepted → f ≡ Some k → o ≡ some k
somewhere {n} {o} {k = k} pos is e = go o (sym (ap (fault_answer n) e) ∙ is)
  where
    go : (o : Option ℕ) → meant.refused n k ≡ refused_at n o meant.accepted → o ≡ some k
    go none h = absurd (omega (arith, ap (λ (a : meant.Answer). a.number) h))
    go (some i) h = ap some (sym (ap (λ (a : meant.Answer). a.place) h))

-- as many marks as cells
pub length_zeros : (marks : List ℕ) {n : ℕ} → marks ≡ replicate n 0 → length marks ≡ n
length_zeros marks {n} e = ap length e ∙ length-replicate n 0

-- where the segments of the predicates start
pub segmented : {file : List ℕ} {known : Known} {symbols preds : List ℕ} {m : ℕ} {starts segments tables : List ℕ}
    → Handed file known symbols preds m starts segments tables
    → Segmented m preds segments
segmented h =
    record {
      states = few-states h;
      few = few-preds h;
      narrow = narrow-preds h;
      enough = h.segment.enough;
      each = h.segment.each;
    }

-- the atoms of a sheet to which 10 and 12 do not fit are domain atoms
module _ (m : ℕ) (preds : List ℕ) where
  sheet-atom : (before : List Field) (content : List ℕ)
      → T (is_atom_content preds content)
      → T (not (wrong_atom m before (whole atom_tag content)))
      → IsSheetAtom m preds content
  sheet-atom before [] t u = absurd t
  sheet-atom before (p ∷ row) t u =
      ((declared-exact preds p (length row)).0 t, All-map row (λ d lt. ltb→lt d m lt) (all_facts (λ d. ltb d m) row (not-not (all_of (λ d. ltb d m) row) (neither (not (all_of (λ d. ltb d m) row)) (any_of (same (p ∷ row)) (contents_of atom_tag before)) u).0)))

  sheet-atoms : (before fs : List Field) → NoField (misplaced preds) before fs → NoField (wrong_atom m) before fs → All (IsSheetAtom m preds) (contents_of atom_tag fs)
  sheet-atoms before [] h k = tt
  sheet-atoms before (cut ∷ fs) h k = absurd h.0
  sheet-atoms before (whole tag content ∷ fs) h k =
      All-append (IsSheetAtom m preds) (cond (eqb tag atom_tag) (content ∷ []) []) (contents_of atom_tag fs) (here (eqb tag atom_tag) refl) (sheet-atoms (before ++ (whole tag content ∷ [])) fs h.1 k.1)
    where
      here : (b : Bool) → eqb tag atom_tag ≡ b → All (IsSheetAtom m preds) (cond b (content ∷ []) [])
      here false e = tt
      here true e =
          let t : tag ≡ atom_tag = eqb→eq tag atom_tag (T_of (eqb tag atom_tag) e) in (
            sheet-atom
                before
                content
                (not-not (is_atom_content preds content) (subst (λ (g : ℕ). T (not (misplaced preds before (whole g content)))) t h.0))
                (subst (λ (g : ℕ). T (not (wrong_atom m before (whole g content)))) t k.0),
            tt,
          )

  -- marks that hold them mark the same atoms
  marked-same : (sheet marks : List ℕ)
      → first_field (misplaced preds) (fields sheet) ≡ none
      → first_field (wrong_atom m) (fields sheet) ≡ none
      → Holding m preds (contents_of atom_tag (fields sheet)) marks
      → (p : ℕ) (row : List ℕ)
      → among (marked_atoms m preds marks) p row ≡ among (contents_of atom_tag (fields sheet)) p row
  marked-same sheet marks none10 none12 holding p row = bool_ext (among (marked_atoms m preds marks) p row) (among atoms p row) to from
    where
      atoms : List (List ℕ)
      atoms = contents_of atom_tag (fields sheet)

      form : All (IsSheetAtom m preds) atoms
      form = sheet-atoms [] (fields sheet) ((first_field-none (misplaced preds) (fields sheet)).0 none10) ((first_field-none (wrong_atom m) (fields sheet)).0 none12)

      mark-is : IsAtom m preds p row → marked m preds marks p row ≡ among atoms p row
      mark-is a = ap (λ (x : ℕ). not (eqb x 0)) (holding.each p row a) ∙ go (among atoms p row)
        where
          go : (b : Bool) → not (eqb (cond b 2 0) 0) ≡ b
          go true = refl
          go false = refl

      to : T (among (marked_atoms m preds marks) p row) → T (among atoms p row)
      to t =
          let w = any_find (same (p ∷ row)) (marked_atoms m preds marks) t in
          let e = (marked-atoms-exact m preds marks p row).0 (mem_cast (same-eq (p ∷ row) w.0 w.2) w.1) in
          subst T (mark-is e.0) e.1

      from : T (among atoms p row) → T (among (marked_atoms m preds marks) p row)
      from t =
          let w = any_find (same (p ∷ row)) atoms t in
          let a : IsAtom m preds p row = All-find (IsSheetAtom m preds) atoms form (p ∷ row) (mem_cast (same-eq (p ∷ row) w.0 w.2) w.1) in
          any_give (same (p ∷ row)) (marked_atoms m preds marks) (p ∷ row) ((marked-atoms-exact m preds marks p row).1 (a, subst T (sym (mark-is a)) t)) (same_refl (p ∷ row))

-- the same atoms have the same violations
atoms-same : (m : ℕ) (interpret : ℕ → List ℕ → ℕ) (xs ys : List (List ℕ))
    → ((p : ℕ) (row : List ℕ) → among xs p row ≡ among ys p row)
    → (clauses : List Clause) (i : ℕ)
    → violated_at m interpret xs clauses i ≡ violated_at m interpret ys clauses i
unfolding violated
atoms-same m interpret xs ys h [] i = refl
atoms-same m interpret xs ys h (c ∷ clauses) zero = λ j. any_below (m ^ c.variables) (λ n. all_of (instance_in interpret (row_of m c.variables n) (λ p row. h p row j)) c.body && not (instance_in interpret (row_of m c.variables n) (λ p row. h p row j) c.head))
atoms-same m interpret xs ys h (c ∷ clauses) (suc i) = atoms-same m interpret xs ys h clauses i

module _ {file : List ℕ} {known : Known} {symbols preds : List ℕ} {m : ℕ} {starts segments tables : List ℕ} (h : Handed file known symbols preds m starts segments tables) {found : List ℕ} (is : found ≡ states_of file) (sheet : List ℕ) where
  preds_are_lem : preds ≡ predicate_arities file
  preds_are_lem = h.preds_are ∙ predicates_known file h.answer known h.knows

  abbrev own : meant.Answer
  own = answer_of_sheet (states_of file) (interpretation_of file) (predicate_arities file) (rules_of file).clauses sheet

  -- the four searches
  abbrev pub ten_at : Option ℕ
  ten_at = first_field (misplaced preds) (fields sheet)

  abbrev pub eleven_at : Option ℕ
  eleven_at = lowest (max (length (states_in (fields sheet))) (length found)) (differ (states_in (fields sheet)) found)

  abbrev pub twelve_at : Option ℕ
  twelve_at = first_field (wrong_atom m) (fields sheet)

  abbrev pub thirteen_at : List ℕ → Option ℕ
  thirteen_at marks =
      lowest (length (clauses_in symbols preds (earlier_in file known 5))) (violated_at m (look_up m symbols tables) (marked_atoms m preds marks) (clauses_in symbols preds (earlier_in file known 5)))

  ten_is : ten_at ≡ first_field (misplaced (predicate_arities file)) (fields sheet)
  ten_is = ap (λ (ps : List ℕ). first_field (misplaced ps) (fields sheet)) preds_are_lem

  eleven_is : eleven_at ≡ lowest (max (length (states_in (fields sheet))) (length (states_of file))) (differ (states_in (fields sheet)) (states_of file))
  eleven_is = ap (λ (l : List ℕ). lowest (max (length (states_in (fields sheet))) (length l)) (differ (states_in (fields sheet)) l)) is

  twelve_is : twelve_at ≡ first_field (wrong_atom (length (states_of file))) (fields sheet)
  twelve_is = ap (λ (n : ℕ). first_field (wrong_atom n) (fields sheet)) h.count

  thirteen_is : (marks : List ℕ)
      → ten_at ≡ none
      → twelve_at ≡ none
      → Holding m preds (contents_of atom_tag (fields sheet)) marks
      → thirteen_at marks ≡ lowest (length (rules_of file).clauses) (violated_at (length (states_of file)) (interpretation_of file) (contents_of atom_tag (fields sheet)) (rules_of file).clauses)
  thirteen_is marks none10 none12 holding =
      handed_violations h (marked_atoms m preds marks)
      ∙ lowest_ext (length (rules_of file).clauses) _ _ (λ i lt.
      atoms-same (length (states_of file)) (interpretation_of file) (marked_atoms m preds marks) (contents_of atom_tag (fields sheet)) (marked-same m preds sheet marks none10 none12 holding) (rules_of file).clauses i)

  -- how it ends
  pub ends_ten : {k : ℕ} → ten_at ≡ some k → meant.refused 10 k ≡ own
  ends_ten {k} e = sym ((check-misplaced (states_of file) (interpretation_of file) (predicate_arities file) (rules_of file).clauses sheet k).1 (sym ten_is ∙ e))

  module _ (none10 : ten_at ≡ none) where
    pub ends_eleven : {k : ℕ} → eleven_at ≡ some k → meant.refused 11 k ≡ own
    ends_eleven {k} e = sym ((check-differ (states_of file) (interpretation_of file) (predicate_arities file) (rules_of file).clauses sheet k).1 (sym ten_is ∙ none10, sym eleven_is ∙ e))

    module _ (none11 : eleven_at ≡ none) where
      pub ends_twelve : {k : ℕ} → twelve_at ≡ some k → meant.refused 12 k ≡ own
      ends_twelve {k} e =
          sym ((check_wrong (states_of file) (interpretation_of file) (predicate_arities file) (rules_of file).clauses sheet k).1 (sym ten_is ∙ none10, (sym eleven_is ∙ none11, sym twelve_is ∙ e)))

      module _ (none12 : twelve_at ≡ none) {marks : List ℕ} (holding : Holding m preds (contents_of atom_tag (fields sheet)) marks) where
        pub ends_thirteen : {k : ℕ} → thirteen_at marks ≡ some k → meant.refused 13 k ≡ own
        ends_thirteen {k} e =
            sym ((check-violated (states_of file) (interpretation_of file) (predicate_arities file) (rules_of file).clauses sheet k).1 (
              sym ten_is ∙ none10,
              (sym eleven_is ∙ none11, (sym twelve_is ∙ none12, sym (thirteen_is marks none10 none12 holding) ∙ e)),
            ))

        pub ends_passed : thirteen_at marks ≡ none → meant.accepted ≡ own
        ends_passed e =
            sym ((check-accepted (states_of file) (interpretation_of file) (predicate_arities file) (rules_of file).clauses sheet).1 (
              sym ten_is ∙ none10,
              (sym eleven_is ∙ none11, (sym twelve_is ∙ none12, sym (thirteen_is marks none10 none12 holding) ∙ e)),
            ))
