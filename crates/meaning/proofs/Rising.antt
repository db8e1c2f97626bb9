-- Rising lists of numbers, putting a number into one, finding its place in one; and the pigeonhole law. Assumes nothing.
use Rattle.meaning.proofs.Prelude.{ℕ, ◌≤◌, ◌<◌, zero, suc, zero-le, suc-le-suc, ◌≡◌, refl, sym, ap, ◌∙◌, subst, ap₂, ◌≢◌, ⊎_elim, ◌⊎◌, inl}
use Rattle.meaning.proofs.Prelude.{inr, cond, Bool, true, false, List, [], ◌∷◌, Memᴰ, mem_head, mem_tail, mem_cast}
use Rattle.meaning.proofs.Prelude.{mem_not-nil, mem_cases-cons, ltb, eqb, length, get_or, not-suc-le-zero, le_of_suc-le-suc}
use Rattle.meaning.proofs.Prelude.{lt_of_lt_of_le, lt-suc_self, le_step, zero-lt-suc, le_of_eq, le_of_lt, le_antisymm, ne_of_lt, arith}
use Rattle.meaning.proofs.Prelude.{eqb-true, eqb-false, ltb-true, ltb-false}
use Rattle.meaning.proofs.Definitions.{Rising, insert_rising, insert_all, index_of}
use Rattle.meaning.proofs.Lists.{trichotomy, mem-get_or, mem-place}

-- a list without one of its members
module _ {A : Type 0} where
  abbrev without : {x : A} {l : List A} → Memᴰ x l → List A
  without (mem_head {xs = ys} e) = ys
  without (mem_tail {x = y} m) = y ∷ without m

  length_without : {x : A} {l : List A} (m : Memᴰ x l) → suc (length (without m)) ≡ length l
  length_without (mem_head e) = refl
  length_without (mem_tail m) = ap suc (length_without m)

  mem-without : {x : A} {l : List A} (m : Memᴰ x l) (y : A) → Memᴰ y l → y ≢ x → Memᴰ y (without m)
  mem-without (mem_head e) y k ne = ⊎_elim (λ d. absurd (ne (d ∙ sym e))) (λ h. h) (mem_cases-cons k)
  mem-without (mem_tail m) y k ne =
      ⊎_elim (λ d. mem_head d) (λ h. mem_tail (mem-without m y h ne)) (mem_cases-cons k)

  -- pairwise different members are at most as many as the list is long
  pub pigeonhole :
      (n : ℕ) (l : List A) (g : ℕ → A)
      → ((i : ℕ) → i < n → Memᴰ (g i) l)
      → ((i j : ℕ) → i < j → j < n → g i ≢ g j)
      → n ≤ length l
  pigeonhole zero l g m ne = zero-le
  pigeonhole (suc n) l g m ne =
      let k = m n (lt-suc_self n) in
      subst
      (λ (x : ℕ). suc n ≤ x)
      (length_without k)
      (suc-le-suc
      (pigeonhole
      n
      (without k)
      g
      (λ i lt. mem-without k (g i) (m i (le_step lt)) (ne i n lt (lt-suc_self n)))
      (λ i j lt le. ne i j lt (le_step le))))

pub rising-nil : Rising []
rising-nil i j lt le = absurd (not-suc-le-zero le)

pub rising-cons : (x : ℕ) (l : List ℕ) → ((y : ℕ) → Memᴰ y l → x < y) → Rising l → Rising (x ∷ l)
rising-cons x l h r i zero lt le = absurd (not-suc-le-zero lt)
rising-cons x l h r zero (suc j) lt le = h (get_or l j 0) (mem-get_or l 0 j (le_of_suc-le-suc le))
rising-cons x l h r (suc i) (suc j) lt le = r i j (le_of_suc-le-suc lt) (le_of_suc-le-suc le)

pub rising-head : (x : ℕ) (l : List ℕ) → Rising (x ∷ l) → (y : ℕ) → Memᴰ y l → x < y
rising-head x l r y m =
    let w = mem-place l 0 y m in
    subst (λ (z : ℕ). x < z) w.2 (r 0 (suc w.0) (zero-lt-suc w.0) (suc-le-suc w.1))

pub rising_tail : (x : ℕ) (l : List ℕ) → Rising (x ∷ l) → Rising l
rising_tail x l r i j lt le = r (suc i) (suc j) (suc-le-suc lt) (suc-le-suc le)

-- a rising list is at most as long as any that has its members
pub rising-length : (a b : List ℕ) → Rising a → ((x : ℕ) → Memᴰ x a → Memᴰ x b) → length a ≤ length b
rising-length a b r h =
    pigeonhole (length a) b (λ i. get_or a i 0) (λ i lt. h (get_or a i 0) (mem-get_or a 0 i lt)) (λ i j lt le e. ne_of_lt (r i j lt le) e)

pub rising-least : (x : ℕ) (l : List ℕ) → Rising (x ∷ l) → (y : ℕ) → Memᴰ y (x ∷ l) → x ≤ y
rising-least x l r y m = ⊎_elim (λ e. le_of_eq (sym e)) (λ h. le_of_lt (rising-head x l r y h)) (mem_cases-cons m)

-- rising lists with the same members are equal
pub rising_ext :
    (a b : List ℕ)
    → Rising a
    → Rising b
    → ((x : ℕ) → Memᴰ x a → Memᴰ x b)
    → ((x : ℕ) → Memᴰ x b → Memᴰ x a)
    → a ≡ b
rising_ext [] [] r s f g = refl
rising_ext [] (y ∷ b) r s f g = absurd (mem_not-nil (g y (mem_head refl)))
rising_ext (x ∷ a) [] r s f g = absurd (mem_not-nil (f x (mem_head refl)))
rising_ext (x ∷ a) (y ∷ b) r s f g =
    ap₂
    (λ (z : ℕ) (l : List ℕ). z ∷ l)
    first
    (rising_ext a b (rising_tail x a r) (rising_tail y b s) (λ z m. rest x a y b r first z m f) (λ z m. rest y b x a s (sym first) z m g))
  where
    first : x ≡ y
    first = le_antisymm (rising-least x a r y (g y (mem_head refl))) (rising-least y b s x (f x (mem_head refl)))

    rest :
        (x : ℕ) (a : List ℕ) (y : ℕ) (b : List ℕ)
        → Rising (x ∷ a)
        → x ≡ y
        → (z : ℕ)
        → Memᴰ z a
        → ((z : ℕ) → Memᴰ z (x ∷ a) → Memᴰ z (y ∷ b))
        → Memᴰ z b
    rest x a y b r e z m f =
        ⊎_elim (λ d. absurd (ne_of_lt (rising-head x a r z m) (e ∙ sym d))) (λ h. h) (mem_cases-cons (f z (mem_tail m)))

-- the three ways to put a number in
insert_cases :
    (P : List ℕ → Type 0) (s x : ℕ) (xs : List ℕ)
    → (s < x → P (s ∷ x ∷ xs))
    → (s ≡ x → P (x ∷ xs))
    → (x < s → P (x ∷ insert_rising s xs))
    → P (insert_rising s (x ∷ xs))
insert_cases P s x xs front here later = go (ltb s x) refl (eqb s x) refl
  where
    go : (b : Bool) → ltb s x ≡ b → (c : Bool) → eqb s x ≡ c → P (cond b (s ∷ x ∷ xs) (cond c (x ∷ xs) (x ∷ insert_rising s xs)))
    go true e c d = front (ltb-true s x e)
    go false e true d = here (eqb-true s x d)
    go false e false d = later (omega (arith, ltb-false s x e, eqb-false s x d))

-- it is then a member, and so is what was one, and nothing else
pub insert_new : (s : ℕ) (l : List ℕ) → Memᴰ s (insert_rising s l)
insert_new s [] = mem_head refl
insert_new s (x ∷ xs) =
    insert_cases
    (λ (l : List ℕ). Memᴰ s l)
    s
    x
    xs
    (λ _. mem_head refl)
    (λ e. mem_head e)
    (λ _. mem_tail (insert_new s xs))

pub insert_old : (s : ℕ) (l : List ℕ) (y : ℕ) → Memᴰ y l → Memᴰ y (insert_rising s l)
insert_old s [] y m = absurd (mem_not-nil m)
insert_old s (x ∷ xs) y m =
    insert_cases
    (λ (l : List ℕ). Memᴰ y l)
    s
    x
    xs
    (λ _. mem_tail m)
    (λ _. m)
    (λ _. ⊎_elim (λ e. mem_head e) (λ h. mem_tail (insert_old s xs y h)) (mem_cases-cons m))

pub insert_find : (s : ℕ) (l : List ℕ) (y : ℕ) → Memᴰ y (insert_rising s l) → (y ≡ s) ⊎ Memᴰ y l
insert_find s [] y = λ m. mem_cases-cons m
insert_find s (x ∷ xs) y =
    insert_cases
    (λ (l : List ℕ). Memᴰ y l → (y ≡ s) ⊎ Memᴰ y (x ∷ xs))
    s
    x
    xs
    (λ _ m. mem_cases-cons m)
    (λ _ m. inr m)
    (λ _ m.
    ⊎_elim
    (λ e. inr (mem_head e))
    (λ h. ⊎_elim (λ e. inl e) (λ k. inr (mem_tail k)) (insert_find s xs y h))
    (mem_cases-cons m))

pub insert_rising_lem : (s : ℕ) (l : List ℕ) → Rising l → Rising (insert_rising s l)
insert_rising_lem s [] r = rising-cons s [] (λ y m. absurd (mem_not-nil m)) rising-nil
insert_rising_lem s (x ∷ xs) r =
    insert_cases
    Rising
    s
    x
    xs
    (λ lt. rising-cons s (x ∷ xs) (λ y m. lt_of_lt_of_le lt (rising-least x xs r y m)) r)
    (λ _. r)
    (λ lt.
    rising-cons
    x
    (insert_rising s xs)
    (λ y m. ⊎_elim (λ (e : y ≡ s). subst (λ (z : ℕ). x < z) (sym e) lt) (rising-head x xs r y) (insert_find s xs y m))
    (insert_rising_lem s xs (rising_tail x xs r)))

-- the list is left as it was, or is longer
pub insert_longer : (s : ℕ) (l : List ℕ) → (insert_rising s l ≡ l) ⊎ (length (insert_rising s l) ≡ suc (length l))
insert_longer s [] = inr refl
insert_longer s (x ∷ xs) =
    insert_cases
    (λ (l : List ℕ). (l ≡ x ∷ xs) ⊎ (length l ≡ suc (suc (length xs))))
    s
    x
    xs
    (λ _. inr refl)
    (λ _. inl refl)
    (λ _. ⊎_elim (λ e. inl (ap (λ (l : List ℕ). x ∷ l) e)) (λ e. inr (ap suc e)) (insert_longer s xs))

-- the same for several numbers
inserted : (l : List ℕ) (y : ℕ) (ss : List ℕ) → Memᴰ y ss → Memᴰ y (insert_all ss l)
inserted l y ss (mem_head {x = s} {xs = ss'} e) = mem_cast e (insert_new s (insert_all ss' l))
inserted l y ss (mem_tail {x = s} {xs = ss'} m) = insert_old s (insert_all ss' l) y (inserted l y ss' m)

pub insert_all-new : (ss l : List ℕ) (y : ℕ) → Memᴰ y ss → Memᴰ y (insert_all ss l)
insert_all-new ss l y m = inserted l y ss m

pub insert_all_old : (ss l : List ℕ) (y : ℕ) → Memᴰ y l → Memᴰ y (insert_all ss l)
insert_all_old [] l y m = m
insert_all_old (s ∷ ss) l y m = insert_old s (insert_all ss l) y (insert_all_old ss l y m)

pub insert_all_find : (ss l : List ℕ) (y : ℕ) → Memᴰ y (insert_all ss l) → Memᴰ y ss ⊎ Memᴰ y l
insert_all_find [] l y m = inr m
insert_all_find (s ∷ ss) l y m =
    ⊎_elim
    (λ e. inl (mem_head e))
    (λ h. ⊎_elim (λ k. inl (mem_tail k)) (λ k. inr k) (insert_all_find ss l y h))
    (insert_find s (insert_all ss l) y m)

pub insert_all-rising : (ss l : List ℕ) → Rising l → Rising (insert_all ss l)
insert_all-rising [] l r = r
insert_all-rising (s ∷ ss) l r = insert_rising_lem s (insert_all ss l) (insert_all-rising ss l r)

pub insert_all_longer : (ss l : List ℕ) → (insert_all ss l ≡ l) ⊎ (length l < length (insert_all ss l))
insert_all_longer [] l = inl refl
insert_all_longer (s ∷ ss) l = go (insert_longer s (insert_all ss l)) (insert_all_longer ss l)
  where
    go :
        (insert_rising s (insert_all ss l) ≡ insert_all ss l) ⊎ (length (insert_rising s (insert_all ss l)) ≡ suc (length (insert_all ss l)))
        → (insert_all ss l ≡ l) ⊎ (length l < length (insert_all ss l))
        → (insert_rising s (insert_all ss l) ≡ l) ⊎ (length l < length (insert_rising s (insert_all ss l)))
    go (inl e) (inl d) = inl (e ∙ d)
    go (inl e) (inr h) = inr (subst (λ (k : List ℕ). length l < length k) (sym e) h)
    go (inr e) (inl d) = inr (omega (arith, e, ap (λ (k : List ℕ). length k) d))
    go (inr e) (inr h) = inr (omega arith)

-- the place of a member
index_cases : (P : ℕ → Type 0) (s x : ℕ) (l : List ℕ) → (s ≡ x → P 0) → (s ≢ x → P (suc (index_of s l))) → P (index_of s (x ∷ l))
index_cases P s x l here later = go (eqb s x) refl
  where
    go : (b : Bool) → eqb s x ≡ b → P (cond b 0 (suc (index_of s l)))
    go true e = here (eqb-true s x e)
    go false e = later (eqb-false s x e)

pub index_of-lt : (s : ℕ) (l : List ℕ) → Memᴰ s l → index_of s l < length l
index_of-lt s [] m = absurd (mem_not-nil m)
index_of-lt s (x ∷ l) m =
    index_cases
    (λ (i : ℕ). i < suc (length l))
    s
    x
    l
    (λ _. zero-lt-suc (length l))
    (λ ne. suc-le-suc (index_of-lt s l (⊎_elim (λ e. absurd (ne e)) (λ h. h) (mem_cases-cons m))))

pub get_or-index_of : (s : ℕ) (l : List ℕ) → Memᴰ s l → get_or l (index_of s l) 0 ≡ s
get_or-index_of s [] m = absurd (mem_not-nil m)
get_or-index_of s (x ∷ l) m =
    index_cases
    (λ (i : ℕ). get_or (x ∷ l) i 0 ≡ s)
    s
    x
    l
    (λ e. sym e)
    (λ ne. get_or-index_of s l (⊎_elim (λ e. absurd (ne e)) (λ h. h) (mem_cases-cons m)))

-- the place of a number of a rising list is the only one where it stands
pub rising_index : (l : List ℕ) → Rising l → (i : ℕ) → i < length l → index_of (get_or l i 0) l ≡ i
rising_index l r i lt = go (trichotomy j i)
  where
    j : ℕ
    j = index_of (get_or l i 0) l

    there : Memᴰ (get_or l i 0) l
    there = mem-get_or l 0 i lt

    go : (j < i) ⊎ ((j ≡ i) ⊎ (i < j)) → j ≡ i
    go (inl h) = absurd (ne_of_lt (r j i h lt) (get_or-index_of (get_or l i 0) l there))
    go (inr (inl e)) = e
    go (inr (inr h)) = absurd (ne_of_lt (r i j h (index_of-lt (get_or l i 0) l there)) (sym (get_or-index_of (get_or l i 0) l there)))
