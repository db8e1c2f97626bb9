-- The fields of a file by their kinds: fields that no number refuses are the kinds' fields one kind after the other, each within the limits,
-- laid out and with a name of its own; and back. Assumes nothing.
use Rattle.meaning.proofs.Prelude.{ℕ, ◌+◌, ◌≤◌, ◌-◌, ◌<◌, zero, suc, zero-le, ◌≡◌, refl, sym, ap, ◌∙◌, subst, ap₂, ◌≢◌, ⊎_elim, ◌⊎◌, inl, inr}
use Rattle.meaning.proofs.Prelude.{◌↔◌, Bool, not, Option, some, List, [], ◌∷◌, map, ◌++◌, map-append, append-nil, ltb, T, lit<, lit≤, eqb}
use Rattle.meaning.proofs.Prelude.{eqb→eq, eqb_refl, nltb→le, nleb→lt, length, length-append, length-map, get_or, drop, get_or-append}
use Rattle.meaning.proofs.Prelude.{get_or-append-add, append_snoc, le_trans, not-suc-le-zero, eq-or-lt_of_le, le_refl, le_of_eq, lt_irrefl}
use Rattle.meaning.proofs.Prelude.{dec_lt, arith}
use lib.Arith.{le→nltb, lt→nleb}
use Rattle.meaning.proofs.Definitions.{any_of, All, same, Kind, symbol, type, production, predicate, clause, query, tag_of, most_of, most_content}
use Rattle.meaning.proofs.Definitions.{Field, whole, cut, contents_of, is_some, is_production, read_clause, read_query, is_refused, kind_of, test_kind}
use Rattle.meaning.proofs.Definitions.{contents, first_byte, names_in, laid_out_after, last_tag, NoneTwice, NoneFits}
use Rattle.meaning.proofs.Lists.{decide, clash, not-not, not-not_intro, not_intro, neither, neither_of, any_find, any_give, any_append, All-append, All-split, mem-get_or, mem-place, same-eq, eq-same, cond_yes, cond_no}
use Rattle.meaning.proofs.Contents.{Post, post_at, post_cond, is_some_find, is_some_give}
use Rattle.meaning.proofs.Answers.{not-refused}
use Rattle.meaning.proofs.Fields.{NoField, contents_of-append}

-- Tags and kinds
pub kind_tag : (g : ℕ) → Post (λ (k : Kind). g ≡ tag_of k) (kind_of g)
kind_tag g =
    post_cond P (eqb g 1) _ _ (eqb→eq g 1) (λ _.
    post_cond P (eqb g 2) _ _ (eqb→eq g 2) (λ _.
    post_cond P (eqb g 3) _ _ (eqb→eq g 3) (λ _.
    post_cond P (eqb g 4) _ _ (eqb→eq g 4) (λ _.
    post_cond P (eqb g 5) _ _ (eqb→eq g 5) (λ _.
    post_cond P (eqb g 6) _ _ (eqb→eq g 6) (λ _. tt))))))
  where
    P : Kind → Type 0
    P k = g ≡ tag_of k

pub tag_kind : (k : Kind) → kind_of (tag_of k) ≡ some k
tag_kind symbol = refl
tag_kind type = refl
tag_kind production = refl
tag_kind predicate = refl
tag_kind clause = refl
tag_kind query = refl

pub tag_range : (k : Kind) → (1 ≤ tag_of k) × (tag_of k < 7)
tag_range symbol = (lit≤ tt, lit< tt)
tag_range type = (lit≤ tt, lit< tt)
tag_range production = (lit≤ tt, lit< tt)
tag_range predicate = (lit≤ tt, lit< tt)
tag_range clause = (lit≤ tt, lit< tt)
tag_range query = (lit≤ tt, lit< tt)

pub range_kind : (g : ℕ) → 1 ≤ g → g < 7 → (k : Kind) × (g ≡ tag_of k)
range_kind zero h l = absurd (not-suc-le-zero h)
range_kind (suc zero) h l = (symbol, refl)
range_kind (suc (suc zero)) h l = (type, refl)
range_kind (suc (suc (suc zero))) h l = (production, refl)
range_kind (suc (suc (suc (suc zero)))) h l = (predicate, refl)
range_kind (suc (suc (suc (suc (suc zero))))) h l = (clause, refl)
range_kind (suc (suc (suc (suc (suc (suc zero)))))) h l = (query, refl)
range_kind (suc (suc (suc (suc (suc (suc (suc g))))))) h l = absurd (not-suc-le-zero {n = 0} (omega arith))

-- Whole fields whose tags never fall, from t on and below `top`
abbrev pub TagsRise : ℕ → ℕ → List Field → Type 0
TagsRise t top [] = Unit
TagsRise t top (cut ∷ fs) = ⊥
TagsRise t top (whole g content ∷ fs) = (t ≤ g) × (g < top) × TagsRise g top fs

pub rising_weaken : (t u top : ℕ) (fs : List Field) → t ≤ u → TagsRise u top fs → TagsRise t top fs
rising_weaken t u top [] le h = tt
rising_weaken t u top (cut ∷ fs) le h = h
rising_weaken t u top (whole g content ∷ fs) le h = (le_trans le h.0, h.1, h.2)

pub rising-map : (t top : ℕ) (cs : List (List ℕ)) (fs : List Field) → t < top → TagsRise t top fs → TagsRise t top (map (whole t) cs ++ fs)
rising-map t top [] fs lt h = h
rising-map t top (c ∷ cs) fs lt h = (le_refl t, lt, rising-map t top cs fs lt h)

pub rising-drop : (t top : ℕ) (before fs : List Field) → TagsRise t top (before ++ fs) → (u : ℕ) × (t ≤ u) × (last_tag before ≤ u) × TagsRise u top fs
rising-drop t top [] fs h = (t, le_refl t, zero-le, h)
rising-drop t top (cut ∷ before) fs h = absurd h
rising-drop t top (whole g c ∷ []) fs h = (g, h.0, le_refl g, h.2)
rising-drop t top (whole g c ∷ x ∷ before) fs h =
    let w = rising-drop g top (x ∷ before) fs h.2 in (w.0, le_trans h.0 w.1, w.2, w.3)

pub contents_below : (u t top : ℕ) (fs : List Field) → u < t → TagsRise t top fs → contents_of u fs ≡ []
contents_below u t top [] lt h = refl
contents_below u t top (cut ∷ fs) lt h = absurd h
contents_below u t top (whole g c ∷ fs) lt h =
    ap₂ (λ (xs ys : List (List ℕ)). xs ++ ys)
    (cond_no (eqb g u) (c ∷ []) [] (not_intro (eqb g u) (λ e. lt_irrefl u (le_trans lt (subst (λ (x : ℕ). t ≤ x) (eqb→eq g u e) h.0)))))
    (contents_below u g top fs (le_trans lt h.0) h.2)

-- such fields are the fields of one tag after those of another
abbrev pub by_tag : ℕ → ℕ → List Field → List Field
by_tag zero t fs = []
by_tag (suc n) t fs = map (whole t) (contents_of t fs) ++ by_tag n (suc t) fs

by_tag-nil : (n t : ℕ) → by_tag n t [] ≡ []
by_tag-nil zero t = refl
by_tag-nil (suc n) t = by_tag-nil n (suc t)

by_tag_skip : (n t g : ℕ) (c : List ℕ) (fs : List Field) → g < t → by_tag n t (whole g c ∷ fs) ≡ by_tag n t fs
by_tag_skip zero t g c fs lt = refl
by_tag_skip (suc n) t g c fs lt =
    ap₂ (λ (cs : List (List ℕ)) (rest : List Field). map (whole t) (cs ++ contents_of t fs) ++ rest)
    (cond_no (eqb g t) (c ∷ []) [] (not_intro (eqb g t) (λ e. lt_irrefl g (subst (λ (x : ℕ). g < x) (sym (eqb→eq g t e)) lt))))
    (by_tag_skip n (suc t) g c fs (omega arith))

pub rising-by_tag : (n t top : ℕ) (fs : List Field) → top ≤ t + n → TagsRise t top fs → fs ≡ by_tag n t fs
rising-by_tag zero t top [] le h = refl
rising-by_tag zero t top (cut ∷ fs) le h = absurd h
rising-by_tag zero t top (whole g c ∷ fs) le h = absurd (not-suc-le-zero {n = 0} (omega arith))
rising-by_tag (suc n) t top fs le h = go (λ gs r. rising-by_tag n (suc t) top gs (omega arith) r) fs h
  where
    go : ((gs : List Field) → TagsRise (suc t) top gs → gs ≡ by_tag n (suc t) gs) → (gs : List Field) → TagsRise t top gs → gs ≡ by_tag (suc n) t gs
    go later [] h = sym (by_tag-nil n (suc t))
    go later (cut ∷ gs) h = absurd h
    go later (whole g c ∷ gs) h =
        ⊎_elim
        (λ (e : t ≡ g).
        ap₂ (λ (u : ℕ) (rest : List Field). whole u c ∷ rest) (sym e)
        (go later gs (rising_weaken t g top gs h.0 h.2) ∙ ap (λ (rest : List Field). map (whole t) (contents_of t gs) ++ rest) (sym (by_tag_skip n (suc t) g c gs (omega arith))))
        ∙ ap (λ (cs : List (List ℕ)). map (whole t) (cs ++ contents_of t gs) ++ by_tag n (suc t) (whole g c ∷ gs)) (sym (cond_yes (eqb g t) (c ∷ []) [] (subst (λ (u : ℕ). T (eqb u t)) e (eqb_refl t)))))
        (λ lt.
        later (whole g c ∷ gs) (lt, h.1, h.2)
        ∙ ap (λ (cs : List (List ℕ)). map (whole t) cs ++ by_tag n (suc t) (whole g c ∷ gs)) (sym (contents_below t (suc t) top (whole g c ∷ gs) (le_refl (suc t)) (lt, h.1, h.2))))
        (eq-or-lt_of_le h.0)

-- Lists with no member twice
abbrev pub Fresh : List (List ℕ) → List (List ℕ) → Type 0
Fresh xs ys = T (not (any_of (λ y. any_of (same y) xs) ys))

get_or_seam : (xs ys : List (List ℕ)) (j : ℕ) → length xs ≤ j → get_or (xs ++ ys) j [] ≡ get_or ys (j - length xs) []
get_or_seam xs ys j le =
    let e : j ≡ length xs + (j - length xs) = omega arith in
    ap (λ (n : ℕ). get_or (xs ++ ys) n []) e ∙ get_or-append-add xs ys (j - length xs) []

not_both : (xs ys : List (List ℕ)) → Fresh xs ys → (i j : ℕ) → i < length xs → j < length ys → get_or xs i [] ≢ get_or ys j []
not_both xs ys fresh i j li lj e =
    clash (any_of (λ y. any_of (same y) xs) ys)
    (any_give (λ y. any_of (same y) xs) ys (get_or ys j []) (mem-get_or ys [] j lj)
    (any_give (same (get_or ys j [])) xs (get_or xs i []) (mem-get_or xs [] i li) (eq-same (get_or ys j []) (get_or xs i []) (sym e))))
    fresh

pub none_twice_append : (xs ys : List (List ℕ)) → NoneTwice xs → NoneTwice ys → Fresh xs ys → NoneTwice (xs ++ ys)
none_twice_append xs ys h k fresh i j lt lj e = go (dec_lt i (length xs)) (dec_lt j (length xs))
  where
    most : j < length xs + length ys
    most = subst (λ (n : ℕ). j < n) (length-append xs ys) lj

    go : Dec (i < length xs) → Dec (j < length xs) → ⊥
    go (yes p) (yes q) = h i j lt q (sym (get_or-append xs ys [] i p) ∙ e ∙ get_or-append xs ys [] j q)
    go (yes p) (no q) =
        not_both xs ys fresh i (j - length xs) p (omega (arith, most)) (sym (get_or-append xs ys [] i p) ∙ e ∙ get_or_seam xs ys j (omega arith))
    go (no p) (yes q) = p (omega arith)
    go (no p) (no q) =
        k (i - length xs) (j - length xs) (omega arith) (omega (arith, most)) (sym (get_or_seam xs ys i (omega arith)) ∙ e ∙ get_or_seam xs ys j (omega arith))

pub none_twice_fresh : (xs ys : List (List ℕ)) → NoneTwice (xs ++ ys) → Fresh xs ys
none_twice_fresh xs ys h = not_intro (any_of (λ y. any_of (same y) xs) ys) (λ t.
    let b = any_find (λ y. any_of (same y) xs) ys t in
    let a = any_find (same b.0) xs b.2 in
    go b.0 a.0 (same-eq b.0 a.0 a.2) (mem-place xs [] a.0 a.1) (mem-place ys [] b.0 b.1))
  where
    go : (y x : List ℕ) → y ≡ x → (i : ℕ) × (i < length xs) × (get_or xs i [] ≡ x) → (j : ℕ) × (j < length ys) × (get_or ys j [] ≡ y) → ⊥
    go y x e i j =
        h i.0 (length xs + j.0) (omega (arith, i.1)) (subst (λ (n : ℕ). length xs + j.0 < n) (sym (length-append xs ys)) (omega (arith, j.1)))
        (get_or-append xs ys [] i.0 i.1 ∙ i.2 ∙ sym e ∙ sym j.2 ∙ sym (get_or-append-add xs ys j.0 []))

fresh_front : (xs ys zs : List (List ℕ)) → Fresh xs (ys ++ zs) → Fresh xs ys
fresh_front xs ys zs t =
    (neither (any_of (λ y. any_of (same y) xs) ys) (any_of (λ y. any_of (same y) xs) zs) (subst (λ (b : Bool). T (not b)) (any_append (λ y. any_of (same y) xs) ys zs) t)).0

pub none_twice_one : (xs : List (List ℕ)) → length xs ≤ 1 → NoneTwice xs
none_twice_one xs le i j lt lj e = not-suc-le-zero {n = 0} (omega arith)

-- the names of contents one after the other
names-append : (k : Kind) (xs ys : List (List ℕ)) → names_in k (xs ++ ys) ≡ names_in k xs ++ names_in k ys
names-append symbol xs ys = map-append (drop 1) xs ys
names-append type xs ys = refl
names-append production xs ys = refl
names-append predicate xs ys = map-append (drop 1) xs ys
names-append clause xs ys = refl
names-append query xs ys = refl

-- a content has one name at most
names-few : (k : Kind) (cs : List (List ℕ)) → length (names_in k cs) ≤ length cs
names-few symbol cs = le_of_eq (length-map cs (drop 1))
names-few type cs = le_refl (length cs)
names-few production cs = zero-le
names-few predicate cs = le_of_eq (length-map cs (drop 1))
names-few clause cs = zero-le
names-few query cs = zero-le

contents-one : (k : Kind) (c : List ℕ) → contents k (whole (tag_of k) c ∷ []) ≡ c ∷ []
contents-one k c = ap (λ (cs : List (List ℕ)). cs ++ []) (cond_yes (eqb (tag_of k) (tag_of k)) (c ∷ []) [] (eqb_refl (tag_of k)))

-- A field that no number refuses, by its kind
pub record FineKind (before : List Field) (k : Kind) (c : List ℕ) : Type 0 where
  pub order : last_tag before ≤ tag_of k
  pub count : length (contents k before) < most_of k
  pub size : length c ≤ most_content
  pub laid : T (laid_out_after before k c)
  pub fresh : Fresh (names_in k (contents k before)) (names_in k (c ∷ []))

-- what a test of the kind says where the kind is known
not_kind : (k : Kind) (test : Kind → Bool) → T (not (test_kind (kind_of (tag_of k)) test)) ↔ T (not (test k))
not_kind k test = (
  subst (λ (o : Option Kind). T (not (test_kind o test))) (tag_kind k),
  subst (λ (o : Option Kind). T (not (test_kind o test))) (sym (tag_kind k)),
)

pub fine_kind : (before : List Field) (k : Kind) (c : List ℕ) → NoneFits before (whole (tag_of k) c) ↔ FineKind before k c
fine_kind before k c = (there, back)
  where
    there : NoneFits before (whole (tag_of k) c) → FineKind before k c
    there h =
        let m = neither (ltb most_content (length c)) (not (laid_out_after before k c)) ((not_kind k _).0 h.3) in
        record {
          order = nltb→le (tag_of k) (last_tag before) (neither (not (is_some (kind_of (tag_of k)))) (ltb (tag_of k) (last_tag before)) h.1).1;
          count = nleb→lt (most_of k) (length (contents k before)) ((not_kind k _).0 h.2);
          size = nltb→le most_content (length c) m.0;
          laid = not-not (laid_out_after before k c) m.1;
          fresh = (not_kind k _).0 h.4;
        }

    back : FineKind before k c → NoneFits before (whole (tag_of k) c)
    back h = (
      tt,
      neither_of (not (is_some (kind_of (tag_of k)))) (ltb (tag_of k) (last_tag before))
          (not-not_intro (is_some (kind_of (tag_of k))) (is_some_give (kind_of (tag_of k)) k (tag_kind k)))
          (le→nltb (tag_of k) (last_tag before) h.order),
      (not_kind k _).1 (lt→nleb (most_of k) (length (contents k before)) h.count),
      (not_kind k _).1 (neither_of (ltb most_content (length c)) (not (laid_out_after before k c)) (le→nltb most_content (length c) h.size) (not-not_intro (laid_out_after before k c) h.laid)),
      (not_kind k _).1 h.fresh,
    )

-- a field that no number refuses is of some kind
pub fine-some : (before : List Field) (g : ℕ) (c : List ℕ) → NoneFits before (whole g c) → (k : Kind) × (g ≡ tag_of k) × FineKind before k c
fine-some before g c h =
    let w = is_some_find (kind_of g) (not-not (is_some (kind_of g)) (neither (not (is_some (kind_of g))) (ltb g (last_tag before)) h.1).0) in
    let e = post_at (λ (k : Kind). g ≡ tag_of k) w.1 (kind_tag g) in
    (w.0, e, (fine_kind before w.0 c).0 (subst (λ (t : ℕ). NoneFits before (whole t c)) e h))

-- whatever the kind: it is of that kind, or has no content of that kind
fine-or_other : (before : List Field) (f : Field) (k : Kind) → NoneFits before f
    → ((c : List ℕ) × (f ≡ whole (tag_of k) c) × FineKind before k c) ⊎ (contents k (f ∷ []) ≡ [])
fine-or_other before cut k h = absurd h.0
fine-or_other before (whole g c) k h =
    ⊎_elim
    (λ t.
    let e = eqb→eq g (tag_of k) t in
    inl (c, ap (λ (u : ℕ). whole u c) e, (fine_kind before k c).0 (subst (λ (u : ℕ). NoneFits before (whole u c)) e h)))
    (λ t. inr (ap (λ (cs : List (List ℕ)). cs ++ []) (cond_no (eqb g (tag_of k)) (c ∷ []) [] t)))
    (decide (eqb g (tag_of k)))

-- The fields of a file as a whole: kind after kind, within the limits, laid out, no name twice
pub record WellFields (fs : List Field) : Type 0 where
  pub rising : TagsRise 1 7 fs
  pub counts : (k : Kind) → length (contents k fs) ≤ most_of k
  pub sizes : (k : Kind) → All (λ (c : List ℕ). length c ≤ most_content) (contents k fs)
  pub laid : (k : Kind) → All (λ (c : List ℕ). T (laid_out_after fs k c)) (contents k fs)
  pub names : (k : Kind) → NoneTwice (names_in k (contents k fs))

-- the layout of a kind goes by the kinds before it
laid_same : (fs gs : List Field) (k : Kind) (c : List ℕ) → ((j : Kind) → tag_of j < tag_of k → contents j fs ≡ contents j gs) → laid_out_after fs k c ≡ laid_out_after gs k c
laid_same fs gs symbol c h = refl
laid_same fs gs type c h = refl
laid_same fs gs production c h = λ i. is_production (length (h type (lit< tt) i)) (map first_byte (h symbol (lit< tt) i)) c
laid_same fs gs predicate c h = refl
laid_same fs gs clause c h = λ i. is_some (read_clause (map first_byte (h symbol (lit< tt) i)) (map first_byte (h predicate (lit< tt) i)) c)
laid_same fs gs query c h = λ i. is_some (read_query (length (h type (lit< tt) i)) (map first_byte (h symbol (lit< tt) i)) (map first_byte (h predicate (lit< tt) i)) c)

-- the contents at a field, and before it
contents-at : (before after : List Field) (k : Kind) (c : List ℕ) → contents k (before ++ whole (tag_of k) c ∷ after) ≡ contents k before ++ c ∷ contents k after
contents-at before after k c =
    contents_of-append (tag_of k) before (whole (tag_of k) c ∷ after)
    ∙ ap (λ (cs : List (List ℕ)). contents k before ++ (cs ++ contents k after)) (cond_yes (eqb (tag_of k) (tag_of k)) (c ∷ []) [] (eqb_refl (tag_of k)))

contents-before : (before after : List Field) (k j : Kind) (c : List ℕ) → TagsRise 1 7 (before ++ whole (tag_of k) c ∷ after) → tag_of j < tag_of k
    → contents j (before ++ whole (tag_of k) c ∷ after) ≡ contents j before
contents-before before after k j c h lt =
    let w = rising-drop 1 7 before (whole (tag_of k) c ∷ after) h in
    contents_of-append (tag_of j) before (whole (tag_of k) c ∷ after)
    ∙ ap (λ (cs : List (List ℕ)). contents j before ++ cs) (contents_below (tag_of j) (tag_of k) 7 (whole (tag_of k) c ∷ after) lt (le_refl (tag_of k), w.3.1, w.3.2))
    ∙ append-nil (contents j before)

-- each field of well-formed fields is fine
fine-at : (before after : List Field) (k : Kind) (c : List ℕ) → WellFields (before ++ whole (tag_of k) c ∷ after) → FineKind before k c
fine-at before after k c h =
    let fs : List Field = before ++ whole (tag_of k) c ∷ after in
    let at : contents k fs ≡ contents k before ++ c ∷ contents k after = contents-at before after k c in
    let d = rising-drop 1 7 before (whole (tag_of k) c ∷ after) h.rising in
    record {
      order = le_trans d.2 d.3.0;
      count = omega (arith, h.counts k, ap length at ∙ length-append (contents k before) (c ∷ contents k after));
      size = (All-split (λ (x : List ℕ). length x ≤ most_content) (contents k before) (c ∷ contents k after) (subst (All (λ (x : List ℕ). length x ≤ most_content)) at (h.sizes k))).1.0;
      laid = subst T (laid_same fs before k c (λ j lt. contents-before before after k j c h.rising lt)) (All-split (λ (x : List ℕ). T (laid_out_after fs k x)) (contents k before) (c ∷ contents k after) (subst (All (λ (x : List ℕ). T (laid_out_after fs k x))) at (h.laid k))).1.0;
      fresh =
          fresh_front (names_in k (contents k before)) (names_in k (c ∷ [])) (names_in k (contents k after))
          (none_twice_fresh (names_in k (contents k before)) (names_in k (c ∷ []) ++ names_in k (contents k after))
          (subst NoneTwice
          (ap (names_in k) at
          ∙ names-append k (contents k before) (c ∷ contents k after)
          ∙ ap (λ (xs : List (List ℕ)). names_in k (contents k before) ++ xs) (names-append k (c ∷ []) (contents k after)))
          (h.names k)));
    }

pub well-fine : (fs : List Field) → WellFields fs → (before after : List Field) → fs ≡ before ++ after → NoField is_refused before after
well-fine fs h before [] e = tt
well-fine fs h before (f ∷ after) e =
    ((not-refused before f).1 (go f (subst WellFields e h)), well-fine fs h (before ++ (f ∷ [])) after (e ∙ sym (append_snoc before f after)))
  where
    go : (g : Field) → WellFields (before ++ g ∷ after) → NoneFits before g
    go cut w = absurd (rising-drop 1 7 before (cut ∷ after) w.rising).3
    go (whole g c) w =
        let d = rising-drop 1 7 before (whole g c ∷ after) w.rising in
        let k = range_kind g (le_trans d.1 d.3.0) d.3.1 in
        subst (λ (t : ℕ). NoneFits before (whole t c)) (sym k.1)
        ((fine_kind before k.0 c).1 (fine-at before after k.0 c (subst (λ (t : ℕ). WellFields (before ++ whole t c ∷ after)) k.1 w)))

-- and back: fields each of which is fine are well formed
pub last_tag-snoc : (before : List Field) (g : ℕ) (c : List ℕ) → last_tag (before ++ (whole g c ∷ [])) ≡ g
last_tag-snoc [] g c = refl
last_tag-snoc (f ∷ []) g c = refl
last_tag-snoc (f ∷ x ∷ before) g c = last_tag-snoc (x ∷ before) g c

fine-rising : (t : ℕ) (before fs : List Field) → ((g : ℕ) → 1 ≤ g → last_tag before ≤ g → t ≤ g) → NoField is_refused before fs → TagsRise t 7 fs
fine-rising t before [] up h = tt
fine-rising t before (cut ∷ fs) up h = absurd ((not-refused before cut).0 h.0).0
fine-rising t before (whole g c ∷ fs) up h =
    let w = fine-some before g c ((not-refused before (whole g c)).0 h.0) in
    let r = tag_range w.0 in (
      up g (omega (arith, w.1, r.0)) (omega (arith, w.1, w.2.order)),
      omega (arith, w.1, r.1),
      fine-rising g (before ++ (whole g c ∷ [])) fs (λ u _ le. subst (λ (x : ℕ). x ≤ u) (last_tag-snoc before g c) le) h.1,
    )

module _ (fs : List Field) (k : Kind) (Q : List (List ℕ) → Type 0)
    (more : (before after : List Field) (c : List ℕ) → fs ≡ before ++ whole (tag_of k) c ∷ after → FineKind before k c → Q (contents k before) → Q (contents k before ++ (c ∷ [])))
  where
    -- what holds of no content, and of one more if it held before, holds of all contents of a kind
    fine_collect : (before after : List Field) → fs ≡ before ++ after → NoField is_refused before after → Q (contents k before) → Q (contents k fs)
    fine_collect before [] e h q = subst (λ (gs : List Field). Q (contents k gs)) (sym (e ∙ append-nil before)) q
    fine_collect before (f ∷ after) e h q =
        fine_collect (before ++ (f ∷ [])) after (e ∙ sym (append_snoc before f after)) h.1
        (subst Q (sym (contents_of-append (tag_of k) before (f ∷ [])))
        (⊎_elim
        (λ (w : (c : List ℕ) × (f ≡ whole (tag_of k) c) × FineKind before k c).
        subst (λ (cs : List (List ℕ)). Q (contents k before ++ cs)) (sym (ap (λ (g : Field). contents k (g ∷ [])) w.1 ∙ contents-one k w.0))
        (more before after w.0 (e ∙ ap (λ (g : Field). before ++ g ∷ after) w.1) w.2 q))
        (λ (w : contents k (f ∷ []) ≡ []). subst (λ (cs : List (List ℕ)). Q (contents k before ++ cs)) (sym w) (subst Q (sym (append-nil (contents k before))) q))
        (fine-or_other before f k ((not-refused before f).0 h.0))))

pub fine-well : (fs : List Field) → NoField is_refused [] fs → WellFields fs
fine-well fs h =
    record {
      rising = rising;
      counts = λ k. fine_collect fs k (λ cs. length cs ≤ most_of k) (λ before after c e w q. omega (arith, length-append (contents k before) (c ∷ []), w.count)) [] fs refl h zero-le;
      sizes = λ k. fine_collect fs k (All (λ (c : List ℕ). length c ≤ most_content)) (λ before after c e w q. All-append _ (contents k before) (c ∷ []) q (w.size, tt)) [] fs refl h tt;
      laid = λ k. fine_collect fs k (All (λ (c : List ℕ). T (laid_out_after fs k c))) (λ before after c e w q. All-append _ (contents k before) (c ∷ []) q (laid_after k before after c e w.laid, tt)) [] fs refl h tt;
      names = λ k. fine_collect fs k (λ cs. NoneTwice (names_in k cs)) (λ before after c e w q. one_more_lem k (contents k before) c q w.fresh) [] fs refl h (none_twice_one (names_in k []) (le_trans (names-few k []) zero-le));
    }
  where
    rising : TagsRise 1 7 fs
    rising = fine-rising 1 [] fs (λ g one _. one) h

    laid_after : (k : Kind) (before after : List Field) (c : List ℕ) → fs ≡ before ++ whole (tag_of k) c ∷ after → T (laid_out_after before k c) → T (laid_out_after fs k c)
    laid_after k before after c e t =
        subst T (sym (laid_same fs before k c (λ j lt. ap (contents j) e ∙ contents-before before after k j c (subst (TagsRise 1 7) e rising) lt))) t

    one_more_lem : (k : Kind) (cs : List (List ℕ)) (c : List ℕ) → NoneTwice (names_in k cs) → Fresh (names_in k cs) (names_in k (c ∷ [])) → NoneTwice (names_in k (cs ++ (c ∷ [])))
    one_more_lem k cs c h fresh =
        subst NoneTwice (sym (names-append k cs (c ∷ [])))
        (none_twice_append (names_in k cs) (names_in k (c ∷ [])) h (none_twice_one (names_in k (c ∷ [])) (names-few k (c ∷ []))) fresh)
