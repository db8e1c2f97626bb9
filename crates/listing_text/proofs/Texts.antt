-- The texts of states, rows and verdicts, member by member and by cases. Assumes nothing.
use Rattle.meaning.proofs.Prelude.{ℕ, ◌+◌, ◌≤◌, ◌<◌, suc, ◌≡◌, refl, sym, ap, ◌∙◌, ◌≢◌, cond, Bool, true, false, List, [], ◌∷◌, ◌++◌, eqb, length}
use Rattle.meaning.proofs.Prelude.{get_or, drop, drop_of_length-le, drop-cons, add-one, arith, ne_eqb, eq-eqb}
use Rattle.meaning.specs.Types.{has}
use Rattle.listing_text.specs.Lines.{space, open_word, clear_word, number_after, held_name, held_names, or_dash, row_text}

-- a type that the state holds, and one that it does not
pub held_yes : (state t : ℕ) (name : List ℕ) → has state t ≡ true → held_name state t name ≡ (space ∷ []) ++ name
held_yes state t name e = ap (λ (b : Bool). cond b (space ∷ name) []) e

pub held_no : (state t : ℕ) (name : List ℕ) → has state t ≡ false → held_name state t name ≡ []
held_no state t name e = ap (λ (b : Bool). cond b (space ∷ name) []) e

-- from one type on, and from the last on
module _ (state : ℕ) (names : List (List ℕ)) (t : ℕ) where
  pub names-next : {name : List ℕ} → name ≡ get_or names t [] → t < length names → held_names state t (drop t names) ≡ held_name state t name ++ held_names state (t + 1) (drop (t + 1) names)
  names-next e h =
      rw (add-one t)
      (ap (held_names state t) (drop-cons names t [] h) ∙ ap (λ (name : List ℕ). held_name state t name ++ held_names state (suc t) (drop (suc t) names)) (sym e))

  pub names-end : length names ≤ t → held_names state t (drop t names) ≡ []
  names-end h = ap (held_names state t) (drop_of_length-le names h)

-- from one state of a row on, and from the last on
module _ (row : List ℕ) (i : ℕ) where
  pub row_next : {d : ℕ} → d ≡ get_or row i 0 → i < length row → row_text (drop i row) ≡ number_after (space ∷ []) d ++ row_text (drop (i + 1) row)
  row_next e h =
      rw (add-one i)
      (ap row_text (drop-cons row i 0 h) ∙ ap (λ (d : ℕ). number_after (space ∷ []) d ++ row_text (drop (suc i) row)) (sym e))

  pub row-end : length row ≤ i → row_text (drop i row) ≡ []
  row-end h = ap row_text (drop_of_length-le row h)

-- ` -` where nothing stands
pub dash_room : (bytes : List ℕ) → length bytes ≤ length (or_dash bytes)
dash_room [] = omega arith
dash_room (b ∷ bytes) = omega arith

pub no_dash : (bytes : List ℕ) → 0 < length bytes → or_dash bytes ≡ bytes
no_dash [] h = absurd (omega arith)
no_dash (b ∷ bytes) h = refl

pub no_bytes : (bytes : List ℕ) → length bytes ≡ 0 → bytes ≡ []
no_bytes [] e = refl
no_bytes (b ∷ bytes) e = absurd (omega arith)

-- the verdicts' words
pub clear-is : (verdict : ℕ) → verdict ≡ 0 → cond (eqb verdict 0) clear_word open_word ≡ clear_word
clear-is verdict e = ap (λ (b : Bool). cond b clear_word open_word) (eq-eqb verdict 0 e)

pub open_is : (verdict : ℕ) → verdict ≢ 0 → cond (eqb verdict 0) clear_word open_word ≡ open_word
open_is verdict ne = ap (λ (b : Bool). cond b clear_word open_word) (ne_eqb verdict 0 ne)
