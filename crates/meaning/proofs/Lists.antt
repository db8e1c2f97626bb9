-- The laws of the tests and facts of specs/Lists.antt: each quantifier has one law that finds and one that gives, and nothing else is known
-- of it. Assumes nothing.
use Rattle.meaning.proofs.Prelude.{ℕ, ◌<◌, zero, suc, suc-le-suc, ◌≡◌, refl, sym, ap, ◌∙◌, subst, ap₂, ⊎_elim, ◌⊎◌, inl, inr, ◌↔◌, cond, Bool}
use Rattle.meaning.proofs.Prelude.{true, false, not, ◌&&◌, ◌||◌, Option, none, some, List, [], ◌∷◌, ◌++◌, Memᴰ, mem_head}
use Rattle.meaning.proofs.Prelude.{mem_tail, append_assoc, mem_not-nil, mem_cases-cons, mem-append_cases}
use Rattle.meaning.proofs.Prelude.{mem-append_left, mem-append_right, T, eqb, eqb→eq, eqb_refl, length, get_or, not-suc-le-zero, drop_at, take}
use Rattle.meaning.proofs.Prelude.{le_of_suc-le-suc, lt-suc_self, le_step, eq-or-lt_of_le, zero-lt-suc, dec_lt, arith, drop, set, set_split}
use Rattle.meaning.proofs.Prelude.{length-take-le}
use Rattle.meaning.specs.Lists.{any_of, all_of, All, any_below, lowest, LowestBelow, NoneBelow, same, joined, table}

-- a test and its negation
pub decide : (b : Bool) → T b ⊎ T (not b)
decide true = inl tt
decide false = inr tt

pub T_true : (b : Bool) → T b → b ≡ true
T_true true t = refl
T_true false t = absurd t

pub T_false : (b : Bool) → T (not b) → b ≡ false
T_false true t = absurd t
T_false false t = refl

pub T_of : (b : Bool) → b ≡ true → T b
T_of b e = subst T (sym e) tt

pub T-not_of : (b : Bool) → b ≡ false → T (not b)
T-not_of b e = subst (λ (c : Bool). T (not c)) (sym e) tt

pub clash : (b : Bool) → T b → T (not b) → ⊥
clash true t n = n
clash false t n = t

pub not-not : (b : Bool) → T (not (not b)) → T b
not-not true t = tt
not-not false t = t

pub not-not_intro : (b : Bool) → T b → T (not (not b))
not-not_intro true t = tt
not-not_intro false t = t

pub not_intro : (b : Bool) → (T b → ⊥) → T (not b)
not_intro true f = f tt
not_intro false f = tt

pub bool_ext : (a b : Bool) → (T a → T b) → (T b → T a) → a ≡ b
bool_ext true true f g = refl
bool_ext true false f g = absurd (f tt)
bool_ext false true f g = absurd (g tt)
bool_ext false false f g = refl

pub trichotomy : (m n : ℕ) → (m < n) ⊎ ((m ≡ n) ⊎ (n < m))
trichotomy m n = go (dec_lt m n)
  where
    other : Dec (n < m) → ¬ (m < n) → (m < n) ⊎ ((m ≡ n) ⊎ (n < m))
    other (yes h) k = inr (inr h)
    other (no h) k = inr (inl (omega arith))

    go : Dec (m < n) → (m < n) ⊎ ((m ≡ n) ⊎ (n < m))
    go (yes h) = inl h
    go (no h) = other (dec_lt n m) h

-- both, either
pub both : (a b : Bool) → T (a && b) → T a × T b
both true b t = (tt, t)
both false b t = absurd t

pub both_of : (a b : Bool) → T a → T b → T (a && b)
both_of true b s t = t
both_of false b s t = s

pub either : (a b : Bool) → T (a || b) → T a ⊎ T b
either true b t = inl tt
either false b t = inr t

pub left_of : (a b : Bool) → T a → T (a || b)
left_of true b t = tt
left_of false b t = absurd t

pub right_of : (a b : Bool) → T b → T (a || b)
right_of true b t = tt
right_of false b t = t

pub neither : (a b : Bool) → T (not (a || b)) → T (not a) × T (not b)
neither true b t = absurd t
neither false b t = (tt, t)

pub neither_of : (a b : Bool) → T (not a) → T (not b) → T (not (a || b))
neither_of true b s t = absurd s
neither_of false b s t = t

-- a choice by a test
pub cond_yes {ℓ} : {A : Type ℓ} (b : Bool) (x y : A) → T b → cond b x y ≡ x
cond_yes true x y t = refl
cond_yes false x y t = absurd t

pub cond_no {ℓ} : {A : Type ℓ} (b : Bool) (x y : A) → T (not b) → cond b x y ≡ y
cond_no true x y t = absurd t
cond_no false x y t = refl

module _ {A : Type 0} where
  -- some member
  pub any_find : (f : A → Bool) (l : List A) → T (any_of f l) → (x : A) × Memᴰ x l × T (f x)
  any_find f [] t = absurd t
  any_find f (x ∷ xs) t =
      ⊎_elim
      (λ h. (x, mem_head refl, h))
      (λ h. let w = any_find f xs h in (w.0, mem_tail w.1, w.2))
      (either (f x) (any_of f xs) t)

  member_gives : (f : A → Bool) (x : A) (l : List A) → Memᴰ x l → T (f x) → T (any_of f l)
  member_gives f x l (mem_head {x = y} {xs = ys} e) h = left_of (f y) (any_of f ys) (subst (λ (z : A). T (f z)) e h)
  member_gives f x l (mem_tail {x = y} {xs = ys} m) h = right_of (f y) (any_of f ys) (member_gives f x ys m h)

  pub any_give : (f : A → Bool) (l : List A) (x : A) → Memᴰ x l → T (f x) → T (any_of f l)
  any_give f l x m h = member_gives f x l m h

  pub any_append : (f : A → Bool) (xs ys : List A) → any_of f (xs ++ ys) ≡ (any_of f xs || any_of f ys)
  any_append f [] ys = refl
  any_append f (x ∷ xs) ys = go (f x) (any_append f xs ys)
    where
      go : (b : Bool) → any_of f (xs ++ ys) ≡ (any_of f xs || any_of f ys) → (b || any_of f (xs ++ ys)) ≡ (b || any_of f xs || any_of f ys)
      go true e = refl
      go false e = e

  -- every member
  member_passes : (f : A → Bool) (x : A) (l : List A) → Memᴰ x l → T (all_of f l) → T (f x)
  member_passes f x l (mem_head {x = y} {xs = ys} e) t = subst (λ (z : A). T (f z)) (sym e) (both (f y) (all_of f ys) t).0
  member_passes f x l (mem_tail {x = y} {xs = ys} m) t = member_passes f x ys m (both (f y) (all_of f ys) t).1

  pub all_find : (f : A → Bool) (l : List A) → T (all_of f l) → (x : A) → Memᴰ x l → T (f x)
  all_find f l t x m = member_passes f x l m t

  pub all_give : (f : A → Bool) (l : List A) → ((x : A) → Memᴰ x l → T (f x)) → T (all_of f l)
  all_give f [] h = tt
  all_give f (x ∷ xs) h = both_of (f x) (all_of f xs) (h x (mem_head refl)) (all_give f xs (λ y m. h y (mem_tail m)))

  -- a test of every member and the same fact of every member
  pub all_facts : (f : A → Bool) (l : List A) → T (all_of f l) → All (λ (x : A). T (f x)) l
  all_facts f [] t = tt
  all_facts f (x ∷ xs) t = ((both (f x) (all_of f xs) t).0, all_facts f xs (both (f x) (all_of f xs) t).1)

  pub facts_all : (f : A → Bool) (l : List A) → All (λ (x : A). T (f x)) l → T (all_of f l)
  facts_all f [] h = tt
  facts_all f (x ∷ xs) h = both_of (f x) (all_of f xs) h.0 (facts_all f xs h.1)

  pub All-map : {P Q : A → Type 0} (l : List A) → ((x : A) → P x → Q x) → All P l → All Q l
  All-map [] f h = tt
  All-map (x ∷ xs) f h = (f x h.0, All-map xs f h.1)

  member_has : (P : A → Type 0) (x : A) (l : List A) → Memᴰ x l → All P l → P x
  member_has P x l (mem_head e) h = subst P (sym e) h.0
  member_has P x l (mem_tail {xs = ys} m) h = member_has P x ys m h.1

  pub All-find : (P : A → Type 0) (l : List A) → All P l → (x : A) → Memᴰ x l → P x
  All-find P l h x m = member_has P x l m h

  pub All-give : {P : A → Type 0} (l : List A) → ((x : A) → Memᴰ x l → P x) → All P l
  All-give [] h = tt
  All-give (x ∷ xs) h = (h x (mem_head refl), All-give xs (λ y m. h y (mem_tail m)))

  pub All-append : (P : A → Type 0) (xs ys : List A) → All P xs → All P ys → All P (xs ++ ys)
  All-append P [] ys h k = k
  All-append P (x ∷ xs) ys h k = (h.0, All-append P xs ys h.1 k)

  pub All-split : (P : A → Type 0) (xs ys : List A) → All P (xs ++ ys) → All P xs × All P ys
  All-split P [] ys h = (tt, h)
  All-split P (x ∷ xs) ys h = let w = All-split P xs ys h.1 in ((h.0, w.0), w.1)

  pub All-get_or : (P : A → Type 0) (l : List A) (d : A) → All P l → (i : ℕ) → i < length l → P (get_or l i d)
  All-get_or P [] d h i lt = absurd (not-suc-le-zero lt)
  All-get_or P (x ∷ xs) d h zero lt = h.0
  All-get_or P (x ∷ xs) d h (suc i) lt = All-get_or P xs d h.1 i (le_of_suc-le-suc lt)

  -- members by place
  pub mem-get_or : (l : List A) (d : A) (i : ℕ) → i < length l → Memᴰ (get_or l i d) l
  mem-get_or [] d i lt = absurd (not-suc-le-zero lt)
  mem-get_or (x ∷ xs) d zero lt = mem_head refl
  mem-get_or (x ∷ xs) d (suc i) lt = mem_tail (mem-get_or xs d i (le_of_suc-le-suc lt))

  member_place : (d x : A) (l : List A) → Memᴰ x l → (i : ℕ) × (i < length l) × (get_or l i d ≡ x)
  member_place d x l (mem_head e) = (0, zero-lt-suc _, sym e)
  member_place d x l (mem_tail {xs = ys} m) = let w = member_place d x ys m in (suc w.0, suc-le-suc w.1, w.2)

  pub mem-place : (l : List A) (d x : A) → Memᴰ x l → (i : ℕ) × (i < length l) × (get_or l i d ≡ x)
  mem-place l d x m = member_place d x l m

  -- tables
  pub length-table : (n : ℕ) (f : ℕ → A) → length (table n f) ≡ n
  length-table zero f = refl
  length-table (suc n) f = ap suc (length-table n (λ i. f (suc i)))

  pub get_or-table : (n : ℕ) (f : ℕ → A) (d : A) (i : ℕ) → i < n → get_or (table n f) i d ≡ f i
  get_or-table zero f d i lt = absurd (not-suc-le-zero lt)
  get_or-table (suc n) f d zero lt = refl
  get_or-table (suc n) f d (suc i) lt = get_or-table n (λ j. f (suc j)) d i (le_of_suc-le-suc lt)

  pub mem-table : (n : ℕ) (f : ℕ → A) (i : ℕ) → i < n → Memᴰ (f i) (table n f)
  mem-table zero f i lt = absurd (not-suc-le-zero lt)
  mem-table (suc n) f zero lt = mem_head refl
  mem-table (suc n) f (suc i) lt = mem_tail (mem-table n (λ j. f (suc j)) i (le_of_suc-le-suc lt))

  pub table-mem : (n : ℕ) (f : ℕ → A) (x : A) → Memᴰ x (table n f) → (i : ℕ) × (i < n) × (x ≡ f i)
  table-mem zero f x m = absurd (mem_not-nil m)
  table-mem (suc n) f x m =
      ⊎_elim
      (λ e. (0, zero-lt-suc n, e))
      (λ k. let w = table-mem n (λ i. f (suc i)) x k in (suc w.0, suc-le-suc w.1, w.2))
      (mem_cases-cons m)

  pub table_ext : (n : ℕ) (f g : ℕ → A) → ((i : ℕ) → i < n → f i ≡ g i) → table n f ≡ table n g
  table_ext zero f g h = refl
  table_ext (suc n) f g h =
      ap₂ (λ (x : A) (xs : List A). x ∷ xs) (h 0 (zero-lt-suc n)) (table_ext n (λ i. f (suc i)) (λ i. g (suc i)) (λ i lt. h (suc i) (suc-le-suc lt)))

  -- lists one after the other
  pub joined-append : (xs ys : List (List A)) → joined (xs ++ ys) ≡ joined xs ++ joined ys
  joined-append [] ys = refl
  joined-append (x ∷ xs) ys = ap (λ (l : List A). x ++ l) (joined-append xs ys) ∙ sym (append_assoc x (joined xs) (joined ys))

  member_joined : (x : A) (l : List A) (ls : List (List A)) → Memᴰ l ls → Memᴰ x l → Memᴰ x (joined ls)
  member_joined x l ls (mem_head {x = k} {xs = ks} e) m =
      mem-append_left (joined ks) (subst (λ (z : List A). Memᴰ x z) e m)
  member_joined x l ls (mem_tail {x = k} {xs = ks} at) m = mem-append_right k (member_joined x l ks at m)

  pub mem-joined : (ls : List (List A)) (l : List A) (x : A) → Memᴰ l ls → Memᴰ x l → Memᴰ x (joined ls)
  mem-joined ls l x at m = member_joined x l ls at m

  pub joined-mem : (ls : List (List A)) (x : A) → Memᴰ x (joined ls) → (l : List A) × Memᴰ l ls × Memᴰ x l
  joined-mem [] x m = absurd (mem_not-nil m)
  joined-mem (k ∷ ks) x m =
      ⊎_elim
      (λ h. (k, mem_head refl, h))
      (λ h. let w = joined-mem ks x h in (w.0, mem_tail w.1, w.2))
      (mem-append_cases k m)

-- some number below a bound
pub any_below_find : (n : ℕ) (f : ℕ → Bool) → T (any_below n f) → (i : ℕ) × (i < n) × T (f i)
any_below_find zero f t = absurd t
any_below_find (suc n) f t =
    ⊎_elim
    (λ h. let w = any_below_find n f h in (w.0, le_step w.1, w.2))
    (λ h. (n, lt-suc_self n, h))
    (either (any_below n f) (f n) t)

pub any_below_give : (n : ℕ) (f : ℕ → Bool) (i : ℕ) → i < n → T (f i) → T (any_below n f)
any_below_give zero f i lt h = absurd (not-suc-le-zero lt)
any_below_give (suc n) f i lt h =
    ⊎_elim
    (λ (e : i ≡ n). right_of (any_below n f) (f n) (subst (λ (j : ℕ). T (f j)) e h))
    (λ k. left_of (any_below n f) (f n) (any_below_give n f i k h))
    (eq-or-lt_of_le (le_of_suc-le-suc lt))

-- the lowest number that passes
abbrev pub Lowest : ℕ → (ℕ → Bool) → Option ℕ → Type 0
Lowest n f none = NoneBelow n f
Lowest n f (some k) = LowestBelow n f k

pub lowest_law : (n : ℕ) (f : ℕ → Bool) → Lowest n f (lowest n f)
lowest_law zero f = λ i lt. absurd (not-suc-le-zero lt)
lowest_law (suc n) f = go (lowest n f) (lowest_law n f)
  where
    last : (b : Bool) → f n ≡ b → NoneBelow n f → Lowest (suc n) f (cond b (some n) none)
    last true e h = record { inside = lt-suc_self n; here = T_of (f n) e; lower = h }
    last false e h = λ i lt. ⊎_elim (λ (q : i ≡ n). subst (λ (j : ℕ). T (not (f j))) (sym q) (T-not_of (f n) e)) (λ k. h i k) (eq-or-lt_of_le (le_of_suc-le-suc lt))

    go : (o : Option ℕ) → Lowest n f o → Lowest (suc n) f (elim o [ none ↦ cond (f n) (some n) none | some i ↦ some i ])
    go none h = last (f n) refl h
    go (some k) h = record { inside = le_step h.inside; here = h.here; lower = h.lower }

-- it is the only one
pub lowest-is : (n : ℕ) (f : ℕ → Bool) (k : ℕ) → k < n → T (f k) → ((i : ℕ) → i < k → T (not (f i))) → lowest n f ≡ some k
lowest-is n f k lt t below = go (lowest n f) (lowest_law n f)
  where
    same_place : (j : ℕ) → (j < k) ⊎ ((j ≡ k) ⊎ (k < j)) → T (f j) → ((i : ℕ) → i < j → T (not (f i))) → ◌≡◌ {A = Option ℕ} (some j) (some k)
    same_place j (inl h) u v = absurd (clash (f j) u (below j h))
    same_place j (inr (inl e)) u v = ap some e
    same_place j (inr (inr h)) u v = absurd (clash (f k) t (v k h))

    go : (o : Option ℕ) → Lowest n f o → o ≡ some k
    go none h = absurd (clash (f k) t (h k lt))
    go (some j) h = same_place j (trichotomy j k) h.here h.lower

pub lowest-none : (n : ℕ) (f : ℕ → Bool) → NoneBelow n f → lowest n f ≡ none
lowest-none n f h = go (lowest n f) (lowest_law n f)
  where
    go : (o : Option ℕ) → Lowest n f o → o ≡ none
    go none k = refl
    go (some k) w = absurd (clash (f k) w.here (h k w.inside))

pub lowest-some : (n : ℕ) (f : ℕ → Bool) (k : ℕ) → (lowest n f ≡ some k) ↔ LowestBelow n f k
lowest-some n f k = (
  λ e. subst (Lowest n f) e (lowest_law n f),
  λ w. lowest-is n f k w.inside w.here w.lower,
)

pub lowest_nowhere : (n : ℕ) (f : ℕ → Bool) → (lowest n f ≡ none) ↔ NoneBelow n f
lowest_nowhere n f = (λ e. subst (Lowest n f) e (lowest_law n f), lowest-none n f)

pub lowest_ext : (n : ℕ) (f g : ℕ → Bool) → ((i : ℕ) → i < n → f i ≡ g i) → lowest n f ≡ lowest n g
lowest_ext zero f g h = refl
lowest_ext (suc n) f g h =
    ap₂
    (λ (o : Option ℕ) (b : Bool). elim o as (λ _. Option ℕ) [ none ↦ cond b (some n) none | some i ↦ some i ])
    (lowest_ext n f g (λ i lt. h i (le_step lt)))
    (h n (lt-suc_self n))

-- the same numbers
pub same-eq : (xs ys : List ℕ) → T (same xs ys) → xs ≡ ys
same-eq [] [] t = refl
same-eq [] (y ∷ ys) t = absurd t
same-eq (x ∷ xs) [] t = absurd t
same-eq (x ∷ xs) (y ∷ ys) t =
    ap₂ (λ (a : ℕ) (l : List ℕ). a ∷ l) (eqb→eq x y (both (eqb x y) (same xs ys) t).0) (same-eq xs ys (both (eqb x y) (same xs ys) t).1)

pub same_refl : (xs : List ℕ) → T (same xs xs)
same_refl [] = tt
same_refl (x ∷ xs) = both_of (eqb x x) (same xs xs) (eqb_refl x) (same_refl xs)

pub eq-same : (xs ys : List ℕ) → xs ≡ ys → T (same xs ys)
eq-same xs ys e = subst (λ (l : List ℕ). T (same xs l)) e (same_refl xs)

-- a list from the place on where it was set
pub drop-set : (l : List ℕ) (i x : ℕ) → i < length l → drop i (set l i x) ≡ x ∷ drop (suc i) l
drop-set l i x h = ap (drop i) (set_split l i x h) ∙ drop_at (take i l) (x ∷ drop (suc i) l) i (length-take-le i l (omega arith))
