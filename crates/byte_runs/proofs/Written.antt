-- Values written one after the other to the front of a buffer; a part of it; what is written is there. Assumes nothing.
use Rattle.meaning.proofs.Prelude.{ℕ, ◌+◌, ◌≤◌, ◌<◌, zero, suc, ◌≡◌, refl, sym, ap, ◌∙◌, List, [], ◌∷◌, map, ◌++◌, length, length-append}
use Rattle.meaning.proofs.Prelude.{get_or, take, drop, set, length-take-le, drop-cons, take-suc, append_snoc, set_at, take_at}
use Rattle.meaning.proofs.Prelude.{take-length, drop-append_seam, not-suc-le-zero, le_of_suc-le-suc, add-one, arith}
use Rattle.meaning.specs.Calls.{written}

-- the first i of some values in the place of a buffer's own
abbrev pub front : List ℕ → List ℕ → ℕ → List ℕ
front values before i = take i values ++ drop i before

pub front-next : (values before : List ℕ) (i : ℕ) → i < length values → i < length before → set (front values before i) i (get_or values i 0) ≡ front values before (i + 1)
front-next values before i h k =
    rw (drop-cons before i 0 k, set_at (take i values) (get_or before i 0) (drop (suc i) before) (get_or values i 0) i (length-take-le i values (omega arith)), add-one i, take-suc values i 0 h, append_snoc)

pub front_all : (values before : List ℕ) (i : ℕ) → i ≡ length values → front values before i ≡ values ++ drop (length values) before
front_all values before i e = ap (front values before) e ∙ ap (λ (l : List ℕ). l ++ drop (length values) before) (take-length values)

-- writing again changes nothing
pub written_again : (needed before : List ℕ) → written needed (written needed before) ≡ written needed before
written_again needed before = ap (λ (l : List ℕ). needed ++ l) (drop-append_seam needed (drop (length needed) before))

pub get_or_mapped : {A : Type 0} (f : A → ℕ) (l : List A) (i : ℕ) (a : A) → i < length l → get_or (map f l) i 0 ≡ f (get_or l i a)
get_or_mapped f [] i a h = absurd (not-suc-le-zero h)
get_or_mapped f (x ∷ l) zero a h = refl
get_or_mapped f (x ∷ l) (suc i) a h = get_or_mapped f l i a (le_of_suc-le-suc h)

-- a part of a buffer at its front, written by itself
module _ (part rest : List ℕ) (n : ℕ) (size : length part ≡ n) where
  pub part_room : n ≤ length (part ++ rest)
  part_room = omega (arith, length-append part rest, size)

  pub part-size : n ≡ length (take n (part ++ rest))
  part-size = sym size ∙ sym (ap length (take_at part rest n size))

  pub part-is : take n (part ++ rest) ≡ part
  part-is = take_at part rest n size

-- a buffer with needed bytes written has room for them, and they are its first
module _ (needed buffer : List ℕ) (is : buffer ≡ written needed buffer) {n : ℕ} (e : n ≡ length needed) where
  pub holds-room : n ≤ length buffer
  holds-room = omega (arith, e, ap length is, length-append needed (drop (length needed) buffer))

  pub holds-first : take n buffer ≡ needed
  holds-first = ap (take n) is ∙ take_at needed (drop (length needed) buffer) n (sym e)
