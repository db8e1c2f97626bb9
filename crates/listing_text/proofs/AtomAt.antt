-- The atom of a predicate at a cell of its segment: what its row and its name are found from, and that its line is short. Assumes nothing.
use Rattle.meaning.proofs.Prelude.{ℕ, ◌≤◌, ◌-◌, ◌<◌, ◌^◌, ◌≡◌, sym, ap, ◌∙◌, subst, ap₂, List, [], ◌∷◌, ◌++◌, length, length-append, get_or, take, drop}
use Rattle.meaning.proofs.Prelude.{replicate, take_at, arith}
use Rattle.meaning.proofs.Loops.{part-rest}
use Rattle.meaning.proofs.Definitions.{names, row_of, accepted, rules_of, file_answer, predicate_arities, states_of}
use Rattle.meaning.proofs.Lists.{All-get_or, All-map}
use Rattle.meaning.proofs.Cells.{length-row_of, row_of_range}
use Rattle.fields.specs.Found.{nth_in}
use Rattle.declarations.specs.declared.Known.{Known}
use Rattle.declarations.specs.Known.{Knows, fields_read}
use Rattle.listing_text.specs.Lines.{named_text}
use Rattle.listing_text.specs.Listing.{atom_line}
use Rattle.listing_text.proofs.Sizes.{named-short}
use Rattle.parser.proofs.Limits.{accepted-few, predicates-small, states-some}
use Rattle.listing_text.proofs.Found.{NameIn, predicate-name}

-- the first of a row's places, and a content without its first byte
row_taken : (m n c k i : ℕ) → i ≡ n → take i (row_of m n c ++ replicate k 0) ≡ row_of m n c
row_taken m n c k i e = take_at (row_of m n c) (replicate k 0) i (length-row_of m n c ∙ sym e)

module _ (file : List ℕ) (e : file_answer file ≡ accepted) {known : Known} (knows : Knows known (fields_read file)) {m p c n : ℕ}
    (states_are_lem : m ≡ length (states_of file))
    (declared : p < length (predicate_arities file))
    (inside : c < m ^ get_or (predicate_arities file) p 0)
    (n-is : n ≡ get_or (predicate_arities file) p 0)
  where
    n-small : n ≤ 3
    n-small = omega (arith, n-is, All-get_or (λ n. n ≤ 3) (predicate_arities file) 0 (predicates-small file e) p declared)

    -- what the row of a cell asks for
    pub row-asked : (1 ≤ m) × (m ≤ 16) × (n ≤ 4) × (c < m ^ n)
    row-asked = (
      omega (arith, states-some file e),
      omega (arith, accepted-few file e),
      omega (arith, n-small),
      subst (λ (i : ℕ). c < m ^ i) (sym n-is) inside,
    )

    named : NameIn file e known knows p (nth_in p (drop (get_or known.starts 4 0) file))
    named = predicate-name file e known knows p declared

    module _ {row content : List ℕ} {k : ℕ}
        (row_is : row ≡ row_of m n c ++ replicate (4 - n) 0)
        (content-is : content ≡ nth_in p (drop (get_or known.starts 4 0) file))
        (k-is : k ≡ n)
      where
        pub content-some : 1 ≤ length content
        content-some = subst (λ (l : List ℕ). 1 ≤ length l) (sym content-is) named.some

        pub row_fits : k ≤ length row
        row_fits = omega (arith, ap length row_is, length-append (row_of m n c) (replicate (4 - n) 0), length-row_of m n c)

        -- the name and the row are the atom's
        pub line-is : named_text (take (length content - 1) (drop 1 content)) (take k row) ≡ atom_line file (p ∷ row_of m (get_or (predicate_arities file) p 0) c)
        unfolding atom_line
        line-is =
            ap₂
            named_text
            (part-rest 1 content ∙ ap (drop 1) content-is ∙ named.name)
            (ap (take k) row_is ∙ row_taken m n c (4 - n) k k-is ∙ ap (λ (i : ℕ). row_of m i c) n-is)

        pub line-short : length (named_text (take (length content - 1) (drop 1 content)) (take k row)) ≤ 128
        unfolding atom_line
        line-short =
            subst (λ (l : List ℕ). length l ≤ 128) (sym line-is)
            (named-short (get_or (names (rules_of file).predicates) p []) (row_of m (get_or (predicate_arities file) p 0) c)
            (subst (λ (l : List ℕ). length l ≤ 8) named.name named.short)
            (omega (arith, length-row_of m (get_or (predicate_arities file) p 0) c, n-small, n-is))
            (All-map (row_of m (get_or (predicate_arities file) p 0) c) (λ d h. omega (arith, accepted-few file e)) (row_of_range m (get_or (predicate_arities file) p 0) c inside)))
