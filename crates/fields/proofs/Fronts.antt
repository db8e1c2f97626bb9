-- What stands at a position of a file, from what was found there: the rest after a whole field, its bounds and its content. Assumes nothing.
use Rattle.meaning.proofs.Prelude.{ℕ, ◌+◌, ◌≤◌, suc, ◌≡◌, refl, sym, ap, ◌∙◌, subst, List, ◌∷◌, ◌++◌, length, length-append, take, drop, length-drop}
use Rattle.meaning.proofs.Prelude.{drop-drop, drop-append_seam, take-append_seam, arith}
use Rattle.meaning.specs.Fields.{Front, empty, short, front, front_of}
use Rattle.meaning.proofs.Fields.{FrontIs, front_law}
use Rattle.fields.specs.Found.{found_in}
use Rattle.fields.specs.declared.Found.TheVariants.{End, Cut, Whole}

-- past a field's tag, length and content
drop_field : (tag high low : ℕ) (content rest : List ℕ) → drop (3 + length content) (tag ∷ high ∷ low ∷ content ++ rest) ≡ rest
drop_field tag high low content rest =
    let three : 3 + length content ≡ suc (suc (suc (length content))) = omega arith in
    ap (λ (n : ℕ). drop n (tag ∷ high ∷ low ∷ content ++ rest)) three ∙ drop-append_seam content rest

-- the rest after a field at a position
pub front_rest : (file : List ℕ) (at tag : ℕ) (content rest : List ℕ)
    → front_of (drop at file) ≡ front tag content rest
    → rest ≡ drop (at + (3 + length content)) file
front_rest file at tag content rest e =
    let w : FrontIs (drop at file) (front tag content rest) = subst (FrontIs (drop at file)) e (front_law (drop at file)) in
    sym (sym (drop-drop (3 + length content) at file) ∙ (ap (drop (3 + length content)) w.2 ∙ drop_field tag w.0 w.1 content rest))

-- a whole field lies inside the file, and its content is that part of it
pub front-inside : (file : List ℕ) (at tag : ℕ) (content rest : List ℕ)
    → front_of (drop at file) ≡ front tag content rest
    → at + (3 + length content) ≤ length file
front-inside file at tag content rest e =
    let w : FrontIs (drop at file) (front tag content rest) = subst (FrontIs (drop at file)) e (front_law (drop at file)) in
    omega (arith, sym (length-drop at file) ∙ ap length w.2, length-append content rest)

pub front-content : (file : List ℕ) (at tag : ℕ) (content rest : List ℕ)
    → front_of (drop at file) ≡ front tag content rest
    → take (length content) (drop (at + 3) file) ≡ content
front-content file at tag content rest e =
    let w : FrontIs (drop at file) (front tag content rest) = subst (FrontIs (drop at file)) e (front_law (drop at file)) in
    ap (take (length content)) (sym (drop-drop 3 at file) ∙ ap (drop 3) w.2) ∙ take-append_seam content rest

-- a field that was found, as the front of the bytes
pub found-whole : (f : Front) (tag len : ℕ) → Whole tag len ≡ found_in f → (content : List ℕ) × (rest : List ℕ) × (f ≡ front tag content rest) × (length content ≡ len)
found-whole empty tag len e = absurd (let z : ◌≡◌ {A = ℕ} 0 1 = cc in omega arith)
found-whole short tag len e = absurd (let z : ◌≡◌ {A = ℕ} 0 1 = cc in omega arith)
found-whole (front t content rest) tag len e = (content, rest, ap (λ (n : ℕ). front n content rest) (cc), cc)

pub found-cut : (f : Front) → Cut ≡ found_in f → f ≡ short
found-cut empty e = absurd (let z : ◌≡◌ {A = ℕ} 0 1 = cc in omega arith)
found-cut short e = refl
found-cut (front t content rest) e = absurd (let z : ◌≡◌ {A = ℕ} 0 1 = cc in omega arith)

pub found-end : (f : Front) → End ≡ found_in f → f ≡ empty
found-end empty e = refl
found-end short e = absurd (let z : ◌≡◌ {A = ℕ} 0 1 = cc in omega arith)
found-end (front t content rest) e = absurd (let z : ◌≡◌ {A = ℕ} 0 1 = cc in omega arith)
