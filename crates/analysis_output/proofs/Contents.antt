-- Contents read one after the other, their values written to the front of a buffer. Assumes nothing.
use Rattle.meaning.proofs.Prelude.{ℕ, ◌+◌, ◌≤◌, ◌-◌, ◌<◌, suc, ◌≡◌, refl, sym, ap, ◌∙◌, ap₂, List, [], ◌∷◌, map, ◌++◌, length}
use Rattle.meaning.proofs.Prelude.{length-map, get_or, drop, set, length-drop, drop-cons}
use Rattle.meaning.proofs.Prelude.{add-one, arith}
use Rattle.meaning.specs.Fields.{front_of}
use Rattle.declarations.specs.declared.Known.{Known}
use Rattle.declarations.specs.Tests.{earlier_in}
use Rattle.fields.specs.Found.{content_in, next_in, contents_from}
use Rattle.fields.proofs.Nth.{contents-step}
use Rattle.byte_runs.proofs.Written.{front, front-next, front_all, get_or_mapped}

-- the contents of the section of a kind
pub section-is : (file : List ℕ) (known : Known) (tag : ℕ) {bytes : List ℕ} {from count : ℕ} → bytes ≡ file → from ≡ get_or known.starts tag 0 → count ≡ get_or known.counts tag 0
    → contents_from count (drop from bytes) ≡ earlier_in file known tag
section-is file known tag b f n = rw (b, f, n) refl

-- With i of the contents read, the others stand from a position on, and their values are written.
module _ (file : List ℕ) (count : ℕ) (contents : List (List ℕ)) (value : List ℕ → ℕ) (before : List ℕ) where
  pub record Read (buffer : List ℕ) (at i : ℕ) : Type 0 where
    pub inside : i ≤ count
    pub number : length contents ≡ count
    pub left : contents_from (count - i) (drop at file) ≡ drop i contents
    pub is : buffer ≡ front (map value contents) before i

  module _ {buffer : List ℕ} {at i : ℕ} (h : i < count) (room : count ≤ length before) (r : Read buffer at i) {content : List ℕ} (read : content ≡ content_in (front_of (drop at file))) where
    split : content_in (front_of (drop at file)) ∷ contents_from (count - i - 1) (drop (next_in at (front_of (drop at file))) file) ≡ get_or contents i [] ∷ drop (suc i) contents
    split =
        sym (contents-step file at (count - i) (omega arith) (ap length r.left ∙ (length-drop i contents ∙ ap (λ (n : ℕ). n - i) r.number)))
        ∙ (r.left ∙ drop-cons contents i [] (omega (arith, r.number)))

    pub content-is : content ≡ get_or contents i []
    content-is = read ∙ ap (λ (l : List (List ℕ)). get_or l 0 []) split

    pub read_on : {v to : ℕ} → v ≡ value content → to ≡ next_in at (front_of (drop at file)) → Read (set buffer i v) to (i + 1)
    read_on {v} {to} e past =
        let n : count - i - 1 ≡ count - (i + 1) = omega arith in
        record {
          inside = omega arith;
          number = r.number;
          left =
              ap₂ (λ (k p : ℕ). contents_from k (drop p file)) (sym n) past
              ∙ (ap (λ (l : List (List ℕ)). drop 1 l) split ∙ ap (λ (k : ℕ). drop k contents) (sym (add-one i)));
          is =
              ap₂ (λ (l : List ℕ) (d : ℕ). set l i d) r.is (e ∙ (ap value content-is ∙ sym (get_or_mapped value contents i [] (omega (arith, r.number)))))
              ∙ front-next (map value contents) before i (omega (arith, r.number, length-map contents value)) (omega arith);
        }

  pub read_all : {buffer : List ℕ} {at i : ℕ} → count ≤ i → Read buffer at i → buffer ≡ map value contents ++ drop count before
  read_all {i = i} h r =
      let e : i ≡ length (map value contents) = omega (arith, r.inside, r.number, length-map contents value) in
      let n : length (map value contents) ≡ count = omega (arith, r.number, length-map contents value) in
      r.is ∙ (front_all (map value contents) before i e ∙ ap (λ (k : ℕ). map value contents ++ drop k before) n)
