-- The answer to a file is the first number of 01's table that fits, at the lowest place where it fits. Assumes nothing.
use Rattle.meaning.proofs.Prelude.{ℕ, ◌≤◌, ◌<◌, ◌≡◌, refl, sym, ap, ◌∙◌, subst, subst₂, ap₂, ◌≢◌, ⊎_elim, ◌⊎◌, inl, inr, ◌↔◌, cond, Bool, true}
use Rattle.meaning.proofs.Prelude.{false, not, Option, none, some, List, Memᴰ, mem_cast, ltb, T, eqb, eqb→eq, lt→ltb, ltb→lt, nltb→le}
use Rattle.meaning.proofs.Prelude.{length, get_or, take, ne_of_gt, arith}
use lib.Arith.{le→nltb}
use Rattle.meaning.proofs.Definitions.{any_of, most_file_bytes, most_states, Field, cut, fields, first_field, Answer, refused, accepted, ok}
use Rattle.meaning.proofs.Definitions.{and_then, refuse_if, is_refused, is_cut, wrong_tag, too_many, malformed, name_taken, refusal, first_refused}
use Rattle.meaning.proofs.Definitions.{no_constant, arities, rules_of, states_for, answer_at, read_answer, file_answer, FirstOf, NoneOf, FirstFits}
use Rattle.meaning.proofs.Definitions.{NoneFits, FirstRefusal, NoneRefused, HasConstant, GivenReading}
use Rattle.meaning.proofs.Lists.{clash, not-not, not-not_intro, not_intro, decide, any_find, any_give, lowest-some, lowest_nowhere, lowest-is, lowest-none, cond_yes, cond_no}

choose : (a b c d e : Bool) → ℕ
choose a b c d e = cond a 2 (cond b 3 (cond c 6 (cond d 4 (cond e 5 0))))

choose_cases : (a b c d e : Bool) → (NoneOf a b c d e × (choose a b c d e ≡ 0)) ⊎ FirstOf a b c d e (choose a b c d e)
unfolding choose
choose_cases true b c d e = inr (inl (refl, tt))
choose_cases false true c d e = inr (inr (inl (refl, tt, tt)))
choose_cases false false true d e = inr (inr (inr (inl (refl, tt, tt, tt))))
choose_cases false false false true e = inr (inr (inr (inr (inl (refl, tt, tt, tt, tt)))))
choose_cases false false false false true = inr (inr (inr (inr (inr (refl, tt, tt, tt, tt, tt)))))
choose_cases false false false false false = inl ((tt, tt, tt, tt, tt), refl)

choose_is : (a b c d e : Bool) (n : ℕ) → FirstOf a b c d e n → choose a b c d e ≡ n
unfolding choose
choose_is a b c d e n (inl h) = cond_yes a 2 _ h.1 ∙ sym h.0
choose_is a b c d e n (inr (inl h)) = cond_no a 2 _ h.1 ∙ (cond_yes b 3 _ h.2 ∙ sym h.0)
choose_is a b c d e n (inr (inr (inl h))) = cond_no a 2 _ h.1 ∙ (cond_no b 3 _ h.2 ∙ (cond_yes c 6 _ h.3 ∙ sym h.0))
choose_is a b c d e n (inr (inr (inr (inl h)))) =
    cond_no a 2 _ h.1 ∙ (cond_no b 3 _ h.2 ∙ (cond_no c 6 _ h.3 ∙ (cond_yes d 4 _ h.4 ∙ sym h.0)))
choose_is a b c d e n (inr (inr (inr (inr h)))) =
    cond_no a 2 _ h.1 ∙ (cond_no b 3 _ h.2 ∙ (cond_no c 6 _ h.3 ∙ (cond_no d 4 _ h.4 ∙ (cond_yes e 5 _ h.5 ∙ sym h.0))))

choose_none : (a b c d e : Bool) → NoneOf a b c d e → choose a b c d e ≡ 0
unfolding choose
choose_none a b c d e h =
    cond_no a 2 _ h.0 ∙ (cond_no b 3 _ h.1 ∙ (cond_no c 6 _ h.2 ∙ (cond_no d 4 _ h.3 ∙ cond_no e 5 0 h.4)))

-- which is 2 to 6
first_range : (a b c d e : Bool) (n : ℕ) → FirstOf a b c d e n → (0 < n) × (n < 7)
first_range a b c d e n (inl h) = let q = h.0 in omega arith
first_range a b c d e n (inr (inl h)) = let q = h.0 in omega arith
first_range a b c d e n (inr (inr (inl h))) = let q = h.0 in omega arith
first_range a b c d e n (inr (inr (inr (inl h)))) = let q = h.0 in omega arith
first_range a b c d e n (inr (inr (inr (inr h)))) = let q = h.0 in omega arith

-- the number of a field, by 01's order
pub refusal_cases : (before : List Field) (f : Field) → (NoneFits before f × (refusal before f ≡ 0)) ⊎ FirstFits before f (refusal before f)
unfolding refusal choose
refusal_cases before f = choose_cases (is_cut f) (wrong_tag before f) (too_many before f) (malformed before f) (name_taken before f)

pub refusal_is : (before : List Field) (f : Field) (n : ℕ) → FirstFits before f n → refusal before f ≡ n
unfolding refusal choose
refusal_is before f n h = choose_is (is_cut f) (wrong_tag before f) (too_many before f) (malformed before f) (name_taken before f) n h

pub refusal-fine : (before : List Field) (f : Field) → NoneFits before f → refusal before f ≡ 0
unfolding refusal choose
refusal-fine before f h = choose_none (is_cut f) (wrong_tag before f) (too_many before f) (malformed before f) (name_taken before f) h

pub refusal_range : (before : List Field) (f : Field) (n : ℕ) → FirstFits before f n → (0 < n) × (n < 7)
refusal_range before f n h = first_range (is_cut f) (wrong_tag before f) (too_many before f) (malformed before f) (name_taken before f) n h

refusal_pos : (before : List Field) (f : Field) (n : ℕ) → FirstFits before f n → n ≢ 0
refusal_pos before f n h = ne_of_gt (refusal_range before f n h).0

pub fine-refusal : (before : List Field) (f : Field) → refusal before f ≡ 0 → NoneFits before f
fine-refusal before f e = ⊎_elim (λ h. h.0) (λ h. absurd (refusal_pos before f (refusal before f) h e)) (refusal_cases before f)

-- the test of a refused field
abbrev refused_in : List Field → ℕ → Bool
refused_in fs k = is_refused (take k fs) (get_or fs k cut)

refused-number : (before : List Field) (f : Field) → T (is_refused before f) → FirstFits before f (refusal before f)
refused-number before f t =
    ⊎_elim (λ h. absurd (clash (eqb (refusal before f) 0) (subst (λ (n : ℕ). T (eqb n 0)) (sym h.1) tt) t)) (λ h. h) (refusal_cases before f)

number-refused : (before : List Field) (f : Field) (n : ℕ) → FirstFits before f n → T (is_refused before f)
number-refused before f n h =
    not_intro (eqb (refusal before f) 0) (λ t. refusal_pos before f n h (sym (refusal_is before f n h) ∙ eqb→eq (refusal before f) 0 t))

pub not-refused : (before : List Field) (f : Field) → T (not (is_refused before f)) ↔ NoneFits before f
not-refused before f = (
  λ t. fine-refusal before f (eqb→eq (refusal before f) 0 (not-not (eqb (refusal before f) 0) t)),
  λ h. subst (λ (n : ℕ). T (not (not (eqb n 0)))) (sym (refusal-fine before f h)) tt,
)

-- the lowest field that is refused
pub first-refused : (fs : List Field) (k : ℕ) → first_refused fs ≡ some k → FirstRefusal fs (refusal (take k fs) (get_or fs k cut)) k
unfolding first_refused first_field
first-refused fs k e =
    let w = (lowest-some (length fs) (refused_in fs) k).0 e in
    record {
      inside = w.inside;
      here = refused-number (take k fs) (get_or fs k cut) w.here;
      lower = λ j lt. (not-refused (take j fs) (get_or fs j cut)).0 (w.lower j lt);
    }

pub refused-first : (fs : List Field) (n k : ℕ) → FirstRefusal fs n k → first_refused fs ≡ some k
unfolding first_refused first_field
refused-first fs n k w =
    lowest-is
    (length fs)
    (refused_in fs)
    k
    w.inside
    (number-refused (take k fs) (get_or fs k cut) n w.here)
    (λ j lt. (not-refused (take j fs) (get_or fs j cut)).1 (w.lower j lt))

pub none-refused : (fs : List Field) → (first_refused fs ≡ none) ↔ ((k : ℕ) → k < length fs → NoneFits (take k fs) (get_or fs k cut))
unfolding first_refused first_field
none-refused fs = (
  λ e k lt. (not-refused (take k fs) (get_or fs k cut)).0 ((lowest_nowhere (length fs) (refused_in fs)).0 e k lt),
  λ h. lowest-none (length fs) (refused_in fs) (λ k lt. (not-refused (take k fs) (get_or fs k cut)).1 (h k lt)),
)

-- one answer after another
pub then_next : (a b : Answer) → a.number ≡ 0 → and_then a b ≡ b
then_next a b e = cond_yes (ok a) b a (subst (λ (n : ℕ). T (eqb n 0)) (sym e) tt)

pub then_first : (a b : Answer) → a.number ≢ 0 → and_then a b ≡ a
then_first a b h = cond_no (ok a) b a (not_intro (ok a) (λ t. h (eqb→eq a.number 0 t)))

pub if_yes : (test : Bool) (n k : ℕ) → T test → refuse_if test n k ≡ refused n k
if_yes test n k t = cond_yes test (refused n k) accepted t

pub if_no : (test : Bool) (n k : ℕ) → T (not test) → refuse_if test n k ≡ accepted
if_no test n k t = cond_no test (refused n k) accepted t

number_of : {a b : Answer} → a ≡ b → a.number ≡ b.number
number_of e = ap (λ (a : Answer). a.number) e

place_of : {a b : Answer} → a ≡ b → a.place ≡ b.place
place_of e = ap (λ (a : Answer). a.place) e

abbrev pub symbols_of : List ℕ → List ℕ
symbols_of file = arities (rules_of file).symbols

abbrev pub states_of_file : List ℕ → List ℕ
states_of_file file = states_for (symbols_of file) (length (rules_of file).types) (rules_of file).productions

-- the same with 8 by the count of the computed states
abbrev pub GivenByCount : List ℕ → ℕ → ℕ → Type 0
GivenByCount file n k =
    GivenReading file n k
    ⊎ (NoneRefused file × (n ≡ 8) × (k ≡ length (fields file)) × HasConstant file × (most_states < length (states_of_file file)))

abbrev pub AcceptedByCount : List ℕ → Type 0
AcceptedByCount file = NoneRefused file × HasConstant file × (length (states_of_file file) ≤ most_states)

-- 7: a symbol of arity 0
constant : (ns : List ℕ) → T (not (no_constant ns)) ↔ Memᴰ 0 ns
constant ns = (
  λ t. let w = any_find (λ n. eqb n 0) ns (not-not (any_of (λ n. eqb n 0) ns) t) in mem_cast (sym (eqb→eq w.0 0 w.2)) w.1,
  λ m. not-not_intro (any_of (λ n. eqb n 0) ns) (any_give (λ n. eqb n 0) ns 0 m tt),
)

no_constant_lem : (ns : List ℕ) → T (no_constant ns) ↔ (¬ Memᴰ 0 ns)
no_constant_lem ns = (
  λ t m. clash (any_of (λ n. eqb n 0) ns) (any_give (λ n. eqb n 0) ns 0 m tt) t,
  λ h. not_intro (any_of (λ n. eqb n 0) ns) (λ t. h ((constant ns).0 (not-not_intro (any_of (λ n. eqb n 0) ns) t))),
)

-- Reading: the file can be read and has a constant, or one of 1 to 7 is given.
read_cases : (file : List ℕ)
    → (NoneRefused file × HasConstant file × (read_answer file ≡ accepted))
    ⊎ GivenReading file (read_answer file).number (read_answer file).place
unfolding read_answer rules_of
read_cases file = go (decide long)
  where
    long : Bool
    long = ltb most_file_bytes (length file)

    after : Answer
    after = answer_at (fields file) (first_refused (fields file))

    Goal : Answer → Type 0
    Goal a = (NoneRefused file × HasConstant file × (a ≡ accepted)) ⊎ GivenReading file a.number a.place

    none : Bool
    none = no_constant (symbols_of file)

    last : NoneRefused file → T none ⊎ T (not none) → Goal (refuse_if none 7 (length (fields file)))
    last r (inl t) =
        let e = if_yes none 7 (length (fields file)) t in inr (inr (inr (r, number_of e, place_of e, (no_constant_lem (symbols_of file)).0 t)))
    last r (inr t) = inl (r, (constant (symbols_of file)).0 t, if_no none 7 (length (fields file)) t)

    at : (o : Option ℕ) → first_refused (fields file) ≡ o → length file ≤ most_file_bytes → Goal (answer_at (fields file) o)
    at Option.none e le = last (record { size = le; fine = (none-refused (fields file)).0 e }) (decide none)
    at (some k) e le = inr (inr (inl (le, first-refused (fields file) k e)))

    go : T long ⊎ T (not long) → Goal (and_then (refuse_if long 1 0) after)
    go (inl t) = subst (λ (a : Answer). Goal (and_then a after)) (sym (if_yes long 1 0 t)) (inr (inl (ltb→lt most_file_bytes (length file) t, refl, refl)))
    go (inr t) =
        subst (λ (a : Answer). Goal (and_then a after)) (sym (if_no long 1 0 t))
        (at (first_refused (fields file)) refl (nltb→le most_file_bytes (length file) t))

-- the other way: each number is given where it fits
fields-answer : (file : List ℕ) → length file ≤ most_file_bytes → read_answer file ≡ answer_at (fields file) (first_refused (fields file))
unfolding read_answer
fields-answer file le = then_next (refuse_if (ltb most_file_bytes (length file)) 1 0) _ (number_of (if_no (ltb most_file_bytes (length file)) 1 0 (le→nltb most_file_bytes (length file) le)))

read_answer_lem : (file : List ℕ) → NoneRefused file → read_answer file ≡ refuse_if (no_constant (symbols_of file)) 7 (length (fields file))
unfolding rules_of
read_answer_lem file r = fields-answer file r.size ∙ ap (answer_at (fields file)) ((none-refused (fields file)).1 r.fine)

reading_answer : (file : List ℕ) (n k : ℕ) → GivenReading file n k → read_answer file ≡ refused n k
unfolding read_answer
reading_answer file n k (inl w) =
    let long : Bool = ltb most_file_bytes (length file) in
    let e = if_yes long 1 0 (lt→ltb most_file_bytes (length file) w.0) in
    then_first (refuse_if long 1 0) _ (λ z. let q : ◌≡◌ {A = ℕ} 1 0 = sym (number_of e) ∙ z in omega arith) ∙ (e ∙ ap₂ refused (sym w.1) (sym w.2))
reading_answer file n k (inr (inl w)) =
    fields-answer file w.0
    ∙ (ap (answer_at (fields file)) (refused-first (fields file) n k w.1)
    ∙ ap (λ (i : ℕ). refused i k) (refusal_is (take k (fields file)) (get_or (fields file) k cut) n w.1.here))
reading_answer file n k (inr (inr w)) =
    read_answer_lem file w.0
    ∙ (if_yes (no_constant (symbols_of file)) 7 (length (fields file)) ((no_constant_lem (symbols_of file)).1 w.3) ∙ ap₂ refused (sym w.1) (sym w.2))

readable-answer : (file : List ℕ) → NoneRefused file → HasConstant file → read_answer file ≡ accepted
readable-answer file r m = read_answer_lem file r ∙ if_no (no_constant (symbols_of file)) 7 (length (fields file)) ((constant (symbols_of file)).1 m)

-- a number that is given is no 0
reading_pos : (file : List ℕ) (n k : ℕ) → GivenReading file n k → n ≢ 0
reading_pos file n k (inl w) = let q = w.1 in omega arith
reading_pos file n k (inr (inl w)) = refusal_pos (take k (fields file)) (get_or (fields file) k cut) n w.1.here
reading_pos file n k (inr (inr w)) = let q = w.1 in omega arith

-- Reading refuses with the first of 1 to 7 that fits, at the lowest place where it fits.
pub read-refused : (file : List ℕ) (n k : ℕ) → n ≢ 0 → (read_answer file ≡ refused n k) ↔ GivenReading file n k
read-refused file n k pos = (
  λ e.
      ⊎_elim
      (λ w. absurd (pos (number_of (sym e ∙ w.2))))
      (λ w. subst₂ (GivenReading file) (number_of e) (place_of e) w)
      (read_cases file),
  reading_answer file n k,
)

pub read-accepted : (file : List ℕ) → (read_answer file ≡ accepted) ↔ (NoneRefused file × HasConstant file)
read-accepted file = (
  λ e.
      ⊎_elim
      (λ w. (w.0, w.1))
      (λ w. absurd (reading_pos file (read_answer file).number (read_answer file).place w (number_of e)))
      (read_cases file),
  λ w. readable-answer file w.0 w.1,
)

-- the same with 8 after it
many : List ℕ → Bool
many file = ltb most_states (length (states_of_file file))

after_reading : (file : List ℕ) → read_answer file ≡ accepted → file_answer file ≡ refuse_if (many file) 8 (length (fields file))
unfolding file_answer many
after_reading file e = then_next (read_answer file) _ (number_of e)

given-answer : (file : List ℕ) (n k : ℕ) → GivenByCount file n k → file_answer file ≡ refused n k
unfolding file_answer many
given-answer file n k (inl w) =
    let e = reading_answer file n k w in
    then_first (read_answer file) _ (λ z. reading_pos file n k w (sym (number_of e) ∙ z)) ∙ e
given-answer file n k (inr w) =
    after_reading file (readable-answer file w.0 w.3)
    ∙ (if_yes (many file) 8 (length (fields file)) (lt→ltb most_states (length (states_of_file file)) w.4) ∙ ap₂ refused (sym w.1) (sym w.2))

accepted-answer : (file : List ℕ) → AcceptedByCount file → file_answer file ≡ accepted
unfolding many
accepted-answer file w =
    after_reading file (readable-answer file w.0 w.1)
    ∙ if_no (many file) 8 (length (fields file)) (le→nltb most_states (length (states_of_file file)) w.2)

answer_cases : (file : List ℕ)
    → (AcceptedByCount file × (file_answer file ≡ accepted)) ⊎ ((n : ℕ) × (k : ℕ) × GivenByCount file n k × (file_answer file ≡ refused n k))
unfolding many
answer_cases file = ⊎_elim readable refusing (read_cases file)
  where
    Goal : Type 0
    Goal = (AcceptedByCount file × (file_answer file ≡ accepted)) ⊎ ((n : ℕ) × (k : ℕ) × GivenByCount file n k × (file_answer file ≡ refused n k))

    refusing : GivenReading file (read_answer file).number (read_answer file).place → Goal
    refusing w = inr ((read_answer file).number, (read_answer file).place, inl w, given-answer file _ _ (inl w))

    readable : NoneRefused file × HasConstant file × (read_answer file ≡ accepted) → Goal
    readable r =
        ⊎_elim
        (λ t. let w : GivenByCount file 8 (length (fields file)) = inr (r.0, refl, refl, r.1, ltb→lt most_states (length (states_of_file file)) t) in inr (8, length (fields file), w, given-answer file 8 (length (fields file)) w))
        (λ t. let w : AcceptedByCount file = (r.0, r.1, nltb→le most_states (length (states_of_file file)) t) in inl (w, accepted-answer file w))
        (decide (many file))

given_pos : (file : List ℕ) (n k : ℕ) → GivenByCount file n k → n ≢ 0
given_pos file n k (inl w) = reading_pos file n k w
given_pos file n k (inr w) = let q = w.1 in omega arith

-- one of 1 to 8 is below 9
pub given_range : (file : List ℕ) (n k : ℕ) → GivenByCount file n k → n < 9
given_range file n k (inl (inl w)) = let q = w.1 in omega arith
given_range file n k (inl (inr (inl w))) = let q = refusal_range (take k (fields file)) (get_or (fields file) k cut) n w.1.here in omega (arith, q)
given_range file n k (inl (inr (inr w))) = let q = w.1 in omega arith
given_range file n k (inr w) = let q = w.1 in omega arith

pub file_number : (file : List ℕ) → (file_answer file).number < 9
file_number file =
    ⊎_elim
    (λ w. subst (λ (a : Answer). a.number < 9) (sym w.1) (omega arith))
    (λ w. subst (λ (a : Answer). a.number < 9) (sym w.3) (given_range file w.0 w.1 w.2))
    (answer_cases file)

-- Refusals are the first that fit.
pub refused-exact : (file : List ℕ) (n k : ℕ) → n ≢ 0 → (file_answer file ≡ refused n k) ↔ GivenByCount file n k
refused-exact file n k pos = (
  λ e.
      ⊎_elim
      (λ w. absurd (pos (number_of (sym e ∙ w.1))))
      (λ w. let same = sym w.3 ∙ e in subst₂ (GivenByCount file) (number_of same) (place_of same) w.2)
      (answer_cases file),
  given-answer file n k,
)

pub accepted-exact : (file : List ℕ) → (file_answer file ≡ accepted) ↔ AcceptedByCount file
accepted-exact file = (
  λ e.
      ⊎_elim
      (λ w. w.0)
      (λ w. absurd (given_pos file w.0 w.1 w.2 (number_of (sym w.3 ∙ e))))
      (answer_cases file),
  accepted-answer file,
)

-- the number alone tells that a file is accepted
pub zero-accepted : (file : List ℕ) → (file_answer file).number ≡ 0 → file_answer file ≡ accepted
zero-accepted file e =
    ⊎_elim
    (λ w. w.1)
    (λ w. absurd (given_pos file w.0 w.1 w.2 (sym (ap (λ (a : Answer). a.number) w.3) ∙ e)))
    (answer_cases file)
