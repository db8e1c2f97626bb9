-- The bytes of a sheet: how many they are, and that they are put if there is room for them. Assumes nothing.
use Rattle.meaning.proofs.Prelude.{ℕ, ◌+◌, ◌≤◌, ◌<◌, ◌*◌, ◌≡◌, refl, sym, ap, ◌∙◌, cond, Bool, true, false, not, List, [], ◌∷◌, ◌++◌, T, leb→le, le→leb, length, length-append, get_or}
use Rattle.meaning.proofs.Prelude.{drop, take-length, zero-add, leb-true, leb-false, arith}
use Rattle.std.specs.Prelude.{Option, Some, None}
use Rattle.meaning.proofs.Definitions.{All, nonzero, atom_tag, encode_field, cells, encode_sheet, marked_atoms, IsSheetAtom, written, holds}
use Rattle.meaning.proofs.Lists.{All-map, All-get_or, cond_yes, cond_no, not_intro}
use Rattle.meaning.proofs.MarkedAtoms.{marked-atoms_form, marked-count}
use Rattle.cells.proofs.Segments.{start_all, start-most}
use Rattle.marks.proofs.Counts.{counted-le}
use Rattle.byte_runs.specs.Pasted.{pasted, Put}
use Rattle.byte_runs.proofs.Putting.{put_then}
use Rattle.sheet_writer.specs.Parts.{state_fields, atom_fields}
use Rattle.sheet_writer.proofs.Fields.{states-length}
use Rattle.sheet_writer.specs.Fits.{sheet_of, if_room, fit_of}

-- an atom's field is of at most 7 bytes
fields-most : (m : ℕ) (preds : List ℕ) (atoms : List (List ℕ)) → All (λ n. n ≤ 3) preds → All (IsSheetAtom m preds) atoms → length (atom_fields atoms) ≤ length atoms * 7
fields-most m preds [] small h = omega arith
fields-most m preds ([] ∷ atoms) small h = absurd h.0
fields-most m preds ((p ∷ row) ∷ atoms) small h =
    let narrow : get_or preds p 0 ≤ 3 = All-get_or (λ d. d ≤ 3) preds 0 small p h.0.0.0 in
    omega (arith, length-append (encode_field atom_tag (p ∷ row)) (atom_fields atoms), narrow, h.0.0.1, fields-most m preds atoms small h.1)

-- the fields of the marked atoms together
pub atoms-most : (m : ℕ) (preds marks : List ℕ)
    → m ≤ 16
    → length preds ≤ 16
    → All (λ n. n ≤ 3) preds
    → length marks ≡ cells m preds
    → length (atom_fields (marked_atoms m preds marks)) ≤ 7340032
atoms-most m preds marks states few small size =
    let count = counted-le marks (length marks) (omega arith) (marked-count m preds marks size ∙ ap nonzero (sym (take-length marks))) in
    let most = start-most m preds (length preds) states (All-map preds (λ d h. omega arith) small) in
    omega (arith, fields-most m preds (marked_atoms m preds marks) small (marked-atoms_form m preds marks), count, size, start_all m preds, most, few)

-- the states' fields and then the atoms' are all of a sheet's bytes
pub parts_length : (states preds marks : List ℕ) {n : ℕ}
    → n ≡ length (atom_fields (marked_atoms (length states) preds marks))
    → length states * 5 + n ≡ length (sheet_of states preds marks)
unfolding encode_sheet
parts_length states preds marks e =
    let atoms = marked_atoms (length states) preds marks in
    omega (arith, e, states-length states, length-append (state_fields states) (atom_fields atoms))

-- whether there is room for needed bytes: they are written, or the buffer is kept
module _ (needed before : List ℕ) {n : ℕ} (e : n ≡ length needed) where
  pub has_room : n ≤ length before → T (holds before needed)
  has_room long = le→leb (length needed) (length before) (omega arith)

  pub lacks_room : length before < n → T (not (holds before needed))
  lacks_room short = not_intro (holds before needed) (λ t. let long = leb→le (length needed) (length before) t in absurd (omega arith))

  pub room-written : n ≤ length before → if_room needed before ≡ written needed before
  room-written long = cond_yes (holds before needed) (written needed before) before (has_room long)

  pub room-kept : length before < n → if_room needed before ≡ before
  room-kept short = cond_no (holds before needed) (written needed before) before (lacks_room short)

  pub fits : n ≤ length before → Some n ≡ fit_of needed before
  fits long = ap Some e ∙ sym (cond_yes (holds before needed) (Some (length needed)) None (has_room long))

  pub too_short : length before < n → None ≡ fit_of needed before
  too_short short = sym (cond_no (holds before needed) (Some (length needed)) None (lacks_room short))

-- what is known of the needed bytes by the answer
module _ (needed before : List ℕ) {r : Option ℕ} (e : r ≡ fit_of needed before) where
  pub fit_whole : {n : ℕ} → r ≡ Some n → (n ≡ length needed) × (length needed ≤ length before)
  fit_whole {n} f = go (holds before needed) refl e
    where
      go : (b : Bool) → holds before needed ≡ b → r ≡ cond b (Some (length needed)) None → (n ≡ length needed) × (length needed ≤ length before)
      go true t e = let same : Some n ≡ Some (length needed) = sym f ∙ e in (cc, leb-true (length needed) (length before) t)
      go false t e =
          let other : Some n ≡ None = sym f ∙ e in
          let z : ◌≡◌ {A = ℕ} 0 1 = cc in
          absurd (omega arith)

  pub fit_short : r ≡ None → length before < length needed
  fit_short f = go (holds before needed) refl e
    where
      go : (b : Bool) → holds before needed ≡ b → r ≡ cond b (Some (length needed)) None → length before < length needed
      go true t e =
          let other : None ≡ Some (length needed) = sym f ∙ e in
          let z : ◌≡◌ {A = ℕ} 0 1 = cc in
          absurd (omega arith)
      go false t e = leb-false (length needed) (length before) t

-- bytes pasted to the front
pasted-front : (out bytes : List ℕ) → pasted out 0 bytes ≡ written bytes out
unfolding pasted
pasted-front out bytes = ap (λ (k : ℕ). bytes ++ drop k out) (zero-add (length bytes))

-- the states' fields put to the front and the atoms' after them
pub sheet_put : (states preds marks sheet : List ℕ) {n at next : ℕ} {mid after : List ℕ}
    → length states * 5 + n ≤ length sheet
    → n ≡ length (atom_fields (marked_atoms (length states) preds marks))
    → (mid ≡ pasted sheet 0 (state_fields states)) × (at ≡ length states * 5)
    → Put mid at (atom_fields (marked_atoms (length states) preds marks)) after next
    → after ≡ if_room (sheet_of states preds marks) sheet
unfolding encode_sheet
sheet_put states preds marks sheet {n} {at} long e first second =
    let atoms = atom_fields (marked_atoms (length states) preds marks) in
    let all = parts_length states preds marks e in
    (put_then sheet 0 (state_fields states) atoms (omega (arith, all, long)) {next = at} (first.0, omega (arith, first.1, states-length states)) second).0
    ∙ pasted-front sheet (sheet_of states preds marks)
    ∙ sym (room-written (sheet_of states preds marks) sheet all long)
