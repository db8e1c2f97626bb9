-- What reading keeps, with one field more. Assumes nothing.
use Rattle.meaning.proofs.Prelude.{ℕ, ◌+◌, ◌≤◌, ◌-◌, ◌<◌, zero, suc, ◌≡◌, refl, sym, ap, ◌∙◌, subst, ap₂, ◌≢◌, cond, Bool, true, false, not, List, []}
use Rattle.meaning.proofs.Prelude.{◌∷◌, map, ◌++◌, map-append, append_assoc, append-nil, T, eqb, eqb→eq, eqb_refl, eqb-suc-zero, length}
use Rattle.meaning.proofs.Prelude.{length-append, get_or, replicate, length-replicate, set, set-append_seam, not-suc-le-zero, le_of_suc-le-suc}
use Rattle.meaning.proofs.Prelude.{zero-add, add-zero, zero-lt-suc, add_assoc, suc-ne-zero, suc_inj, ℕ_discrete, arith}
use Rattle.meaning.proofs.Definitions.{All, table, padded, Kind, symbol, predicate, tag_of, most_of, contents, first_byte, arities_in, is_cut, Field}
use Rattle.meaning.proofs.Definitions.{whole, cut, contents_of}
use Rattle.meaning.proofs.Lists.{not_intro, cond_yes, cond_no, table_ext}
use Rattle.meaning.proofs.Fields.{contents_of-append}
use Rattle.parser.specs.Read.{bytes_in, started_at, room_for}
use Rattle.declarations.specs.declared.Known.{Known}
use Rattle.declarations.proofs.Knowing.{length-arities, count_of}
use Rattle.declarations.specs.Known.{tags, counts_of, first_at, starts_of, Knows}

-- an array is full; an array with one more in it
pub length-padded : (n : ℕ) (l : List ℕ) → length l ≤ n → length (padded n l) ≡ n
length-padded n l h = length-append l (replicate (n - length l) 0) ∙ simp length-replicate (omega arith)

pub padded-snoc : (n : ℕ) (l : List ℕ) (a : ℕ) → length l < n → set (padded n l) (length l) a ≡ padded n (l ++ (a ∷ []))
padded-snoc n l a h =
    let m : ℕ = n - length (l ++ (a ∷ [])) in
    let room : n - length l ≡ suc m = omega (arith, length-append l (a ∷ [])) in
    ap (λ (k : ℕ). set (l ++ replicate k 0) (length l) a) room
    ∙ (set-append_seam l 0 (replicate m 0) a
    ∙ sym (append_assoc l (a ∷ []) (replicate m 0)))

-- a table changed at one place
pub set-table : (n : ℕ) (f g : ℕ → ℕ) (t v : ℕ) → t < n → g t ≡ v → ((u : ℕ) → u ≢ t → f u ≡ g u) → set (table n f) t v ≡ table n g
set-table zero f g t v h e same = absurd (not-suc-le-zero h)
set-table (suc n) f g zero v h e same =
    ap₂ (λ (x : ℕ) (xs : List ℕ). x ∷ xs) (sym e) (table_ext n (λ i. f (suc i)) (λ i. g (suc i)) (λ i lt. same (suc i) (suc-ne-zero i)))
set-table (suc n) f g (suc t) v h e same =
    ap₂ (λ (x : ℕ) (xs : List ℕ). x ∷ xs) (same 0 (λ (z : 0 ≡ suc t). suc-ne-zero t (sym z)))
    (set-table n (λ i. f (suc i)) (λ i. g (suc i)) t v (le_of_suc-le-suc h) e (λ u ne. same (suc u) (λ z. ne (suc_inj z))))

-- the contents of a tag, with one field more
pub contents-same : (tag : ℕ) (fs : List Field) (content : List ℕ) → contents_of tag (fs ++ (whole tag content ∷ [])) ≡ contents_of tag fs ++ (content ∷ [])
contents-same tag fs content =
    contents_of-append tag fs (whole tag content ∷ [])
    ∙ ap (λ (l : List (List ℕ)). contents_of tag fs ++ (l ++ [])) (cond_yes (eqb tag tag) (content ∷ []) [] (eqb_refl tag))

pub contents_other : (tag t : ℕ) (fs : List Field) (content : List ℕ) → tag ≢ t → contents_of tag (fs ++ (whole t content ∷ [])) ≡ contents_of tag fs
contents_other tag t fs content h =
    contents_of-append tag fs (whole t content ∷ [])
    ∙ (ap (λ (l : List (List ℕ)). contents_of tag fs ++ (l ++ [])) (cond_no (eqb t tag) (content ∷ []) [] (not_intro (eqb t tag) (λ e. h (sym (eqb→eq t tag e)))))
    ∙ append-nil (contents_of tag fs))

pub counts-snoc : (fs : List Field) (t : ℕ) (content : List ℕ) → t < tags → set (counts_of fs) t (length (contents_of t fs) + 1) ≡ counts_of (fs ++ (whole t content ∷ []))
counts-snoc fs t content h =
    set-table
    tags
    (λ u. length (contents_of u fs))
    (λ u. length (contents_of u (fs ++ (whole t content ∷ []))))
    t
    (length (contents_of t fs) + 1)
    h
    (ap length (contents-same t fs content) ∙ length-append (contents_of t fs) (content ∷ []))
    (λ u ne. ap length (sym (contents_other u t fs content ne)))

-- the first field of a tag, with one field more: where it was, if there was one; past the fields, if it is the first; else as before
first-kept : (tag at : ℕ) (fs : List Field) (f : Field) → 0 < length (contents_of tag fs) → first_at tag at (fs ++ (f ∷ [])) ≡ first_at tag at fs
first-kept tag at [] f h = absurd (not-suc-le-zero h)
first-kept tag at (cut ∷ fs) f h = refl
first-kept tag at (whole t content ∷ fs) f h = go (eqb t tag) h (first-kept tag (at + (3 + length content)) fs f)
  where
    next : ℕ
    next = at + (3 + length content)

    go : (b : Bool)
        → 0 < length (cond b (content ∷ []) [] ++ contents_of tag fs)
        → (0 < length (contents_of tag fs) → first_at tag next (fs ++ (f ∷ [])) ≡ first_at tag next fs)
        → cond b at (first_at tag next (fs ++ (f ∷ []))) ≡ cond b at (first_at tag next fs)
    go true k rec = refl
    go false k rec = rec k

first-new : (tag at : ℕ) (fs : List Field) (content : List ℕ)
    → All (λ f. T (not (is_cut f))) fs
    → length (contents_of tag fs) ≡ 0
    → first_at tag at (fs ++ (whole tag content ∷ [])) ≡ at + bytes_in fs
first-new tag at [] content w e = cond_yes (eqb tag tag) at 0 (eqb_refl tag) ∙ sym (add-zero at)
first-new tag at (cut ∷ fs) content w e = absurd w.0
first-new tag at (whole t c ∷ fs) content w e = go (eqb t tag) e (first-new tag (at + (3 + length c)) fs content w.1)
  where
    next : ℕ
    next = at + (3 + length c)

    go : (b : Bool)
        → length (cond b (c ∷ []) [] ++ contents_of tag fs) ≡ 0
        → (length (contents_of tag fs) ≡ 0 → first_at tag next (fs ++ (whole tag content ∷ [])) ≡ next + bytes_in fs)
        → cond b at (first_at tag next (fs ++ (whole tag content ∷ []))) ≡ at + (3 + length c + bytes_in fs)
    go true k rec = absurd (suc-ne-zero (length (contents_of tag fs)) k)
    go false k rec = rec k ∙ add_assoc at (3 + length c) (bytes_in fs)

first_other_lem : (tag t at : ℕ) (fs : List Field) (content : List ℕ) → tag ≢ t → first_at tag at (fs ++ (whole t content ∷ [])) ≡ first_at tag at fs
first_other_lem tag t at [] content ne = cond_no (eqb t tag) at 0 (not_intro (eqb t tag) (λ e. ne (sym (eqb→eq t tag e))))
first_other_lem tag t at (cut ∷ fs) content ne = refl
first_other_lem tag t at (whole u c ∷ fs) content ne =
    ap (λ (n : ℕ). cond (eqb u tag) at n) (first_other_lem tag t (at + (3 + length c)) fs content ne)

pub starts-new : (fs : List Field) (t : ℕ) (content : List ℕ)
    → t < tags
    → All (λ f. T (not (is_cut f))) fs
    → length (contents_of t fs) ≡ 0
    → set (starts_of fs) t (bytes_in fs) ≡ starts_of (fs ++ (whole t content ∷ []))
starts-new fs t content h w e =
    set-table
    tags
    (λ u. first_at u 0 fs)
    (λ u. first_at u 0 (fs ++ (whole t content ∷ [])))
    t
    (bytes_in fs)
    h
    (first-new t 0 fs content w e ∙ zero-add (bytes_in fs))
    (λ u ne. sym (first_other_lem u t 0 fs content ne))

pub starts-kept : (fs : List Field) (t : ℕ) (content : List ℕ) → 0 < length (contents_of t fs) → starts_of fs ≡ starts_of (fs ++ (whole t content ∷ []))
starts-kept fs t content h = table_ext tags (λ u. first_at u 0 fs) (λ u. first_at u 0 (fs ++ (whole t content ∷ []))) (λ u lt. sym (go u (ℕ_discrete u t)))
  where
    go : (u : ℕ) → Dec (u ≡ t) → first_at u 0 (fs ++ (whole t content ∷ [])) ≡ first_at u 0 fs
    go u (yes e) = first-kept u 0 fs (whole t content) (subst (λ (k : ℕ). 0 < length (contents_of k fs)) (sym e) h)
    go u (no ne) = first_other_lem u t 0 fs content ne

-- the arities of a kind, with one field more
pub arities-snoc : (k : Kind) (fs : List Field) (content : List ℕ) → arities_in k (fs ++ (whole (tag_of k) content ∷ [])) ≡ arities_in k fs ++ (first_byte content ∷ [])
arities-snoc k fs content = ap (map first_byte) (contents-same (tag_of k) fs content) ∙ map-append first_byte (contents k fs) (content ∷ [])

pub arities_other : (k : Kind) (t : ℕ) (fs : List Field) (content : List ℕ) → tag_of k ≢ t → arities_in k (fs ++ (whole t content ∷ [])) ≡ arities_in k fs
arities_other k t fs content ne = ap (map first_byte) (contents_other (tag_of k) t fs content ne)

-- a field of a tag is counted, and its start kept if it is the first
abbrev pub counted : Known → ℕ → ℕ → Known
counted known t at =
    record {
      counts = set known.counts t (get_or known.counts t 0 + 1);
      starts = started_at known.starts t (get_or known.counts t 0) at;
      symbols = known.symbols;
      predicates = known.predicates;
    }

-- all that is known, with one field more
module _ (known : Known) (done : List Field) (knows : Knows known done) where
  module _ (t : ℕ) (content : List ℕ) (h : t < tags) where
    pub counts-more : set known.counts t (get_or known.counts t 0 + 1) ≡ counts_of (done ++ (whole t content ∷ []))
    counts-more = ap₂ (λ (l : List ℕ) (n : ℕ). set l t (n + 1)) knows.counts (count_of known done knows t h) ∙ counts-snoc done t content h

    pub starts_more : (at : ℕ) → All (λ f. T (not (is_cut f))) done → bytes_in done ≡ at
        → started_at known.starts t (get_or known.counts t 0) at ≡ starts_of (done ++ (whole t content ∷ []))
    starts_more at w bytes =
        ap₂ (λ (l : List ℕ) (n : ℕ). started_at l t n at) knows.starts (count_of known done knows t h) ∙ go (length (contents_of t done)) refl
      where
        go : (n : ℕ) → length (contents_of t done) ≡ n → started_at (starts_of done) t n at ≡ starts_of (done ++ (whole t content ∷ []))
        go zero e = ap (set (starts_of done) t) (sym bytes) ∙ starts-new done t content h w e
        go (suc n) e =
            cond_no (eqb (suc n) 0) (set (starts_of done) t at) (starts_of done) (subst (λ (b : Bool). T (not b)) (sym (eqb-suc-zero n)) tt)
            ∙ starts-kept done t content (subst (λ (m : ℕ). 0 < m) (sym e) (zero-lt-suc n))

  -- the arities of a kind that stand in an array of n: the field is of the kind; it is of another
  pub arities-more : (k : Kind) (n : ℕ) (array content : List ℕ) (first i : ℕ)
      → array ≡ padded n (arities_in k done)
      → first_byte content ≡ first
      → i ≡ length (contents k done)
      → i < n
      → set array i first ≡ padded n (arities_in k (done ++ (whole (tag_of k) content ∷ [])))
  arities-more k n array content first i is e place room =
      let size : i ≡ length (arities_in k done) = place ∙ sym (length-arities k done) in
      ap₂ (λ (l : List ℕ) (j : ℕ). set l j first) is size
      ∙ (padded-snoc n (arities_in k done) first (subst (λ (j : ℕ). j < n) size room)
      ∙ ap (padded n) (ap (λ (b : ℕ). arities_in k done ++ (b ∷ [])) (sym e) ∙ sym (arities-snoc k done content)))

  pub arities-kept : (k : Kind) (n t : ℕ) (array content : List ℕ)
      → array ≡ padded n (arities_in k done)
      → tag_of k ≢ t
      → array ≡ padded n (arities_in k (done ++ (whole t content ∷ [])))
  arities-kept k n t array content is ne = is ∙ ap (padded n) (sym (arities_other k t done content ne))

  -- put together, for a tag t
  pub knows_more : (t at : ℕ) (content symbols predicates : List ℕ)
      → t < tags
      → All (λ f. T (not (is_cut f))) done
      → bytes_in done ≡ at
      → symbols ≡ padded (most_of symbol) (arities_in symbol (done ++ (whole t content ∷ [])))
      → predicates ≡ padded (most_of predicate) (arities_in predicate (done ++ (whole t content ∷ [])))
      → Knows (record { counts = (counted known t at).counts; starts = (counted known t at).starts; symbols = symbols; predicates = predicates }) (done ++ (whole t content ∷ []))
  knows_more t at content symbols predicates h w bytes s p =
      record { counts = counts-more t content h; starts = starts_more t content h at w bytes; symbols = s; predicates = p }

-- the room for a symbol and for a predicate
pub room-symbol : (tag n : ℕ) → tag ≡ 1 → n < room_for tag → n < 24
room-symbol tag n e h = subst (λ (t : ℕ). n < room_for t) e h

pub room-predicate : (tag n : ℕ) → tag ≡ 4 → n < room_for tag → n < 16
room-predicate tag n e h = subst (λ (t : ℕ). n < room_for t) e h
