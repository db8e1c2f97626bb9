-- The laws of bytes as fields: what `fields` does with encoded fields, and back; the lowest field that passes a test; contents by tag.
-- Assumes nothing.
use Rattle.meaning.proofs.Prelude.{ℕ, ◌≤◌, ◌<◌, zero, suc, ◌/◌, ◌%◌, suc-le-suc, ◌≡◌, refl, sym, ap, ◌∙◌, subst, subst₂, ap₂, ◌↔◌, cond, Bool}
use Rattle.meaning.proofs.Prelude.{true, false, not, none, some, List, [], ◌∷◌, map, ◌++◌, append_assoc, append-nil, T, leb, leb→le, eqb}
use Rattle.meaning.proofs.Prelude.{eqb_refl, le→leb, length, length-append, get_or, take, drop, get_or-append, take-append-drop}
use Rattle.meaning.proofs.Prelude.{length-take-le, drop_at, append_snoc, take_at, take-append_seam, take-append-le, get_or-append_seam}
use Rattle.meaning.proofs.Prelude.{not-suc-le-zero, le_of_suc-le-suc, zero-lt-suc, le_refl, le_of_lt, arith}
use lib.Arith.{digits_div, digits_mod}
use Rattle.meaning.proofs.Definitions.{All, joined, Bytes, Field, whole, cut, word, Front, empty, short, front, front_of, on_front, fields_within}
use Rattle.meaning.proofs.Definitions.{fields, contents_of, encode_field, first_field, is_cut}
use Rattle.meaning.proofs.Lists.{T_of, cond_yes, cond_no, All-split, All-append, lowest-some, lowest_nowhere, lowest-is, lowest-none}

-- a length is its two bytes
pub word_halves : (n : ℕ) → word (n / 256) (n % 256) ≡ n
word_halves n = omega arith

-- what a front says of its bytes
abbrev pub FrontIs : List ℕ → Front → Type 0
FrontIs bytes empty = bytes ≡ []
FrontIs bytes short = 0 < length bytes
FrontIs bytes (front tag content rest) =
    (high : ℕ) × (low : ℕ) × (bytes ≡ tag ∷ high ∷ low ∷ content ++ rest) × (word high low ≡ length content)

pub front_law : (bytes : List ℕ) → FrontIs bytes (front_of bytes)
front_law [] = refl
front_law (tag ∷ []) = zero-lt-suc _
front_law (tag ∷ high ∷ []) = zero-lt-suc _
front_law (tag ∷ high ∷ low ∷ bytes) = go (leb w (length bytes)) refl
  where
    w : ℕ
    w = word high low

    go : (b : Bool)
        → leb w (length bytes) ≡ b
        → FrontIs (tag ∷ high ∷ low ∷ bytes) (cond b (front tag (take w bytes) (drop w bytes)) short)
    go true e = (
      high,
      low,
      ap (λ (l : List ℕ). tag ∷ high ∷ low ∷ l) (sym (take-append-drop w bytes)),
      sym (length-take-le w bytes (leb→le w (length bytes) (T_of (leb w (length bytes)) e))),
    )
    go false e = zero-lt-suc _

-- the bytes after a front are fewer
pub front_shorter : (bytes : List ℕ) (tag : ℕ) (content rest : List ℕ) → FrontIs bytes (front tag content rest) → length rest < length bytes
front_shorter bytes tag content rest h =
    subst
    (λ (l : List ℕ). length rest < length l)
    (sym h.2)
    (omega (arith, length-append content rest))

-- the fields after a front may be read by any function that reads shorter bytes alike
on_front_ext : (f g : List ℕ → List Field) (bytes : List ℕ) (start : Front)
    → FrontIs bytes start
    → ((rest : List ℕ) → length rest < length bytes → f rest ≡ g rest)
    → on_front f start ≡ on_front g start
on_front_ext f g bytes empty h same = refl
on_front_ext f g bytes short h same = refl
on_front_ext f g bytes (front tag content rest) h same =
    ap (λ (fs : List Field). whole tag content ∷ fs) (same rest (front_shorter bytes tag content rest h))

-- the bound of `fields_within` does not matter once it reaches the number of bytes
within_same : (k j : ℕ) (bytes : List ℕ) → length bytes ≤ k → length bytes ≤ j → fields_within k bytes ≡ fields_within j bytes
within_same zero zero bytes le lf = refl
within_same zero (suc j) [] le lf = refl
within_same zero (suc j) (b ∷ bytes) le lf = absurd (not-suc-le-zero le)
within_same (suc k) zero [] le lf = refl
within_same (suc k) zero (b ∷ bytes) le lf = absurd (not-suc-le-zero lf)
within_same (suc k) (suc j) bytes le lf =
    on_front_ext
    (λ rest. fields_within k rest)
    (λ rest. fields_within j rest)
    bytes
    (front_of bytes)
    (front_law bytes)
    (λ rest shorter. within_same k j rest (omega arith) (omega arith))

pub fields_within_lem : (k : ℕ) (bytes : List ℕ) → length bytes ≤ k → fields_within k bytes ≡ fields bytes
unfolding fields
fields_within_lem k bytes le = within_same k (length bytes) bytes le (le_refl (length bytes))

-- `fields` by the front
pub fields-step : (bytes : List ℕ) → fields bytes ≡ on_front fields (front_of bytes)
fields-step bytes =
    sym (fields_within_lem (suc (length bytes)) bytes (omega arith))
    ∙ on_front_ext
    (λ rest. fields_within (length bytes) rest)
    fields
    bytes
    (front_of bytes)
    (front_law bytes)
    (λ rest shorter. fields_within_lem (length bytes) rest (omega arith))

pub fields-nil : fields [] ≡ []
fields-nil = fields-step []

-- what holds of no byte, of a cut field, and of a whole field if it holds of the bytes after it, holds of all bytes and their fields
pub fields_induct : (P : List ℕ → List Field → Type 0)
    → P [] []
    → ((bytes : List ℕ) → 0 < length bytes → P bytes (cut ∷ []))
    → ((tag high low : ℕ) (content rest : List ℕ)
    → word high low ≡ length content
    → P rest (fields rest)
    → P (tag ∷ high ∷ low ∷ content ++ rest) (whole tag content ∷ fields rest))
    → (bytes : List ℕ)
    → P bytes (fields bytes)
fields_induct P nothing ends goes bytes = within (suc (length bytes)) bytes (omega arith)
  where
    at : (bytes : List ℕ) (start : Front) → FrontIs bytes start → ((rest : List ℕ) → length rest < length bytes → P rest (fields rest)) → P bytes (on_front fields start)
    at bytes empty e later = subst (λ (l : List ℕ). P l []) (sym e) nothing
    at bytes short h later = ends bytes h
    at bytes (front tag content rest) h later =
        subst
        (λ (l : List ℕ). P l (whole tag content ∷ fields rest))
        (sym h.2)
        (goes tag h.0 h.1 content rest h.3 (later rest (front_shorter bytes tag content rest h)))

    within : (k : ℕ) (bytes : List ℕ) → length bytes < k → P bytes (fields bytes)
    within zero bytes lt = absurd (not-suc-le-zero lt)
    within (suc k) bytes lt =
        subst (P bytes) (sym (fields-step bytes)) (at bytes (front_of bytes) (front_law bytes) (λ rest shorter. within k rest (omega arith)))

-- an encoded field is read back, whatever follows it
front_encode : (tag : ℕ) (content rest : List ℕ) → front_of (encode_field tag content ++ rest) ≡ front tag content rest
front_encode tag content rest =
    cond_yes
    (leb n (length (content ++ rest)))
    (front tag (take n (content ++ rest)) (drop n (content ++ rest)))
    short
    (le→leb n (length (content ++ rest)) (omega (arith, word_halves (length content), length-append content rest)))
    ∙ ap₂
    (λ (c r : List ℕ). front tag c r)
    (take_at content rest n (sym (word_halves (length content))))
    (drop_at content rest n (sym (word_halves (length content))))
  where
    n : ℕ
    n = word (length content / 256) (length content % 256)

pub fields_encode : (tag : ℕ) (content rest : List ℕ) → fields (encode_field tag content ++ rest) ≡ whole tag content ∷ fields rest
fields_encode tag content rest =
    fields-step (encode_field tag content ++ rest) ∙ ap (on_front fields) (front_encode tag content rest)

pub fields-each : {A : Type 0} (tag : ℕ) (content : A → List ℕ) (xs : List A) (rest : List ℕ)
    → fields (joined (map (λ (x : A). encode_field tag (content x)) xs) ++ rest) ≡ map (λ (x : A). whole tag (content x)) xs ++ fields rest
fields-each {A} tag content [] rest = refl
fields-each {A} tag content (x ∷ xs) rest =
    ap fields (append_assoc (encode_field tag (content x)) (joined (map (λ (x : A). encode_field tag (content x)) xs)) rest)
    ∙ fields_encode tag (content x) (joined (map (λ (x : A). encode_field tag (content x)) xs) ++ rest)
    ∙ ap (λ (fs : List Field). whole tag (content x) ∷ fs) (fields-each tag content xs rest)

pub fields-joined : (tag : ℕ) (cs : List (List ℕ)) (rest : List ℕ)
    → fields (joined (map (encode_field tag) cs) ++ rest) ≡ map (whole tag) cs ++ fields rest
fields-joined tag cs rest = fields-each tag (λ c. c) cs rest

-- back: bytes with no cut field are their fields, encoded
abbrev pub encode_whole : Field → List ℕ
encode_whole (whole tag content) = encode_field tag content
encode_whole cut = []

-- whole fields have as many bytes as the fields that they are the encoding of
pub fields-length : (bytes : List ℕ)
    → All (λ (f : Field). T (not (is_cut f))) (fields bytes)
    → length bytes ≡ length (joined (map encode_whole (fields bytes)))
fields-length =
    fields_induct
    (λ (bytes : List ℕ) (fs : List Field). All (λ (f : Field). T (not (is_cut f))) fs → length bytes ≡ length (joined (map encode_whole fs)))
    (λ k. refl)
    (λ bytes lt k. absurd k.0)
    (λ tag high low content rest e later k.
    let w = later k.1 in
    omega (arith, w, length-append content rest, length-append (encode_field tag content) (joined (map encode_whole (fields rest)))))

pub fields-whole : (bytes : List ℕ)
    → Bytes bytes
    → All (λ (f : Field). T (not (is_cut f))) (fields bytes)
    → bytes ≡ joined (map encode_whole (fields bytes))
fields-whole =
    fields_induct
    (λ (bytes : List ℕ) (fs : List Field). Bytes bytes → All (λ (f : Field). T (not (is_cut f))) fs → bytes ≡ joined (map encode_whole fs))
    (λ h k. refl)
    (λ bytes lt h k. absurd k.0)
    (λ tag high low content rest e later h k. alike tag high low content rest _ e h.1.1.0 (later (All-split (λ b. b < 256) content rest h.1.1.1).1 k.1))
  where
    alike : (tag high low : ℕ) (content rest rest' : List ℕ)
        → word high low ≡ length content
        → low < 256
        → rest ≡ rest'
        → tag ∷ high ∷ low ∷ content ++ rest ≡ encode_field tag content ++ rest'
    alike tag high low content rest rest' e lt f i =
        tag
        ∷ (sym (digits_div high lt) ∙ ap (λ (n : ℕ). n / 256) e) i
        ∷ (sym (digits_mod high lt) ∙ ap (λ (n : ℕ). n % 256) e) i
        ∷ content
        ++ f i

-- the tags and the contents of the fields of bytes are bytes
abbrev pub FieldBytes : Field → Type 0
FieldBytes (whole tag content) = (tag < 256) × Bytes content
FieldBytes cut = Unit

pub fields-bytes : (bytes : List ℕ) → Bytes bytes → All FieldBytes (fields bytes)
fields-bytes =
    fields_induct
    (λ (bytes : List ℕ) (fs : List Field). Bytes bytes → All FieldBytes fs)
    (λ h. tt)
    (λ bytes lt h. (tt, tt))
    (λ tag high low content rest e later h.
    let w = All-split (λ b. b < 256) content rest h.1.1.1 in
    ((h.0, w.0), later w.1))

-- the contents by tag
pub contents_of-append : (tag : ℕ) (fs gs : List Field) → contents_of tag (fs ++ gs) ≡ contents_of tag fs ++ contents_of tag gs
contents_of-append tag [] gs = refl
contents_of-append tag (cut ∷ fs) gs = contents_of-append tag fs gs
contents_of-append tag (whole t content ∷ fs) gs =
    ap (λ (l : List (List ℕ)). one ++ l) (contents_of-append tag fs gs) ∙ sym (append_assoc one (contents_of tag fs) (contents_of tag gs))
  where
    one : List (List ℕ)
    one = cond (eqb t tag) (content ∷ []) []

pub contents_of-same : (tag : ℕ) (cs : List (List ℕ)) → contents_of tag (map (whole tag) cs) ≡ cs
contents_of-same tag [] = refl
contents_of-same tag (c ∷ cs) =
    ap₂ (λ (l k : List (List ℕ)). l ++ k) (cond_yes (eqb tag tag) (c ∷ []) [] (eqb_refl tag)) (contents_of-same tag cs)

pub contents_of_other : (tag t : ℕ) (cs : List (List ℕ)) → T (not (eqb t tag)) → contents_of tag (map (whole t) cs) ≡ []
contents_of_other tag t [] other = refl
contents_of_other tag t (c ∷ cs) other =
    ap₂ (λ (l k : List (List ℕ)). l ++ k) (cond_no (eqb t tag) (c ∷ []) [] other) (contents_of_other tag t cs other)

pub contents_of-bytes : (tag : ℕ) (fs : List Field) → All FieldBytes fs → All Bytes (contents_of tag fs)
contents_of-bytes tag [] h = tt
contents_of-bytes tag (cut ∷ fs) h = contents_of-bytes tag fs h.1
contents_of-bytes tag (whole t content ∷ fs) h =
    All-append Bytes (cond (eqb t tag) (content ∷ []) []) (contents_of tag fs) (go (eqb t tag)) (contents_of-bytes tag fs h.1)
  where
    go : (b : Bool) → All Bytes (cond b (content ∷ []) [])
    go true = (h.0.1, tt)
    go false = tt

-- no member passes a test over the members before it and the member itself
abbrev pub NoneBy : {A : Type 0} → (List A → A → Bool) → List A → List A → Type 0
NoneBy test before [] = Unit
NoneBy test before (x ∷ xs) = T (not (test before x)) × NoneBy test (before ++ (x ∷ [])) xs

module _ {A : Type 0} (test : List A → A → Bool) where
  pub NoneBy-append : (before xs ys : List A)
      → NoneBy test before (xs ++ ys) ↔ (NoneBy test before xs × NoneBy test (before ++ xs) ys)
  NoneBy-append before xs ys = (apart before xs, (λ h. together before xs h.0 h.1))
    where
      apart : (before xs : List A) → NoneBy test before (xs ++ ys) → NoneBy test before xs × NoneBy test (before ++ xs) ys
      apart before [] h = (tt, subst (λ (b : List A). NoneBy test b ys) (sym (append-nil before)) h)
      apart before (x ∷ xs) h =
          let w = apart (before ++ (x ∷ [])) xs h.1 in
          ((h.0, w.0), subst (λ (b : List A). NoneBy test b ys) (append_snoc before x xs) w.1)

      together : (before xs : List A) → NoneBy test before xs → NoneBy test (before ++ xs) ys → NoneBy test before (xs ++ ys)
      together before [] h k = subst (λ (b : List A). NoneBy test b ys) (append-nil before) k
      together before (x ∷ xs) h k = (
        h.0,
        together (before ++ (x ∷ [])) xs h.1 (subst (λ (b : List A). NoneBy test b ys) (sym (append_snoc before x xs)) k),
      )

  -- by places
  none_after : (d : A) (before xs : List A)
      → NoneBy test before xs
      → (k : ℕ)
      → k < length xs
      → T (not (test (before ++ take k xs) (get_or xs k d)))
  none_after d before [] h k lt = absurd (not-suc-le-zero lt)
  none_after d before (x ∷ xs) h zero lt = subst (λ (b : List A). T (not (test b x))) (sym (append-nil before)) h.0
  none_after d before (x ∷ xs) h (suc k) lt =
      subst
      (λ (b : List A). T (not (test b (get_or xs k d))))
      (append_snoc before x (take k xs))
      (none_after d (before ++ (x ∷ [])) xs h.1 k (le_of_suc-le-suc lt))

  none-places : (d : A) (before xs : List A)
      → ((k : ℕ) → k < length xs → T (not (test (before ++ take k xs) (get_or xs k d))))
      → NoneBy test before xs
  none-places d before [] h = tt
  none-places d before (x ∷ xs) h = (
    subst (λ (b : List A). T (not (test b x))) (append-nil before) (h 0 (zero-lt-suc _)),
    none-places
        d
        (before ++ (x ∷ []))
        xs
        (λ k lt.
        subst
        (λ (b : List A). T (not (test b (get_or xs k d))))
        (sym (append_snoc before x (take k xs)))
        (h (suc k) (suc-le-suc lt))),
  )

  pub NoneBy-places : (d : A) (xs : List A)
      → NoneBy test [] xs ↔ ((k : ℕ) → k < length xs → T (not (test (take k xs) (get_or xs k d))))
  NoneBy-places d xs = (none_after d [] xs, none-places d [] xs)

-- the same of fields
abbrev pub NoField : (List Field → Field → Bool) → List Field → List Field → Type 0
NoField test before fs = NoneBy test before fs

module _ (test : List Field → Field → Bool) where
  pub NoField-append : (before xs ys : List Field)
      → NoField test before (xs ++ ys) ↔ (NoField test before xs × NoField test (before ++ xs) ys)
  NoField-append = NoneBy-append test

  pub NoField-at : (fs : List Field) → NoField test [] fs → (k : ℕ) → k < length fs → T (not (test (take k fs) (get_or fs k cut)))
  NoField-at fs = (NoneBy-places test cut fs).0

  pub NoField-of : (fs : List Field) → ((k : ℕ) → k < length fs → T (not (test (take k fs) (get_or fs k cut)))) → NoField test [] fs
  NoField-of fs = (NoneBy-places test cut fs).1

  -- there is no lowest field if no field passes, and only then
  pub first_field-none : (fs : List Field) → (first_field test fs ≡ none) ↔ NoField test [] fs
  unfolding first_field
  first_field-none fs = (
    (λ e. NoField-of fs ((lowest_nowhere (length fs) passes).0 e)),
    (λ h. lowest-none (length fs) passes (NoField-at fs h)),
  )
    where
      passes : ℕ → Bool
      passes k = test (take k fs) (get_or fs k cut)

  -- the lowest field passes, and none below it does; it is the only one
  pub first_field-some : (fs : List Field) (k : ℕ)
      → (first_field test fs ≡ some k)
      ↔ ((k < length fs) × T (test (take k fs) (get_or fs k cut)) × ((i : ℕ) → i < k → T (not (test (take i fs) (get_or fs i cut)))))
  unfolding first_field
  first_field-some fs k = (
    (λ e. let w = (lowest-some (length fs) passes k).0 e in (w.inside, w.here, w.lower)),
    (λ h. lowest-is (length fs) passes k h.0 h.1 h.2),
  )
    where
      passes : ℕ → Bool
      passes k = test (take k fs) (get_or fs k cut)

-- the first field that passes, after fields of which none does
pub first-after : (test : List Field → Field → Bool) (done : List Field) (f : Field) (later : List Field)
    → NoField test [] done
    → T (test done f)
    → first_field test (done ++ f ∷ later) ≡ some (length done)
first-after test done f later fine t =
    (first_field-some test (done ++ f ∷ later) (length done)).1 (
      rw (length-append done (f ∷ later)) (omega arith),
      subst₂ (λ (d : List Field) (g : Field). T (test d g)) (sym (take-append_seam done (f ∷ later))) (sym (get_or-append_seam done f later cut)) t,
      λ i lt.
          subst₂
          (λ (d : List Field) (g : Field). T (not (test d g)))
          (sym (take-append-le i done (f ∷ later) (le_of_lt lt)))
          (sym (get_or-append done (f ∷ later) cut i lt))
          (NoField-at test done fine i lt),
    )
