-- What reading keeps of some fields is what they say. Assumes nothing.
use Rattle.meaning.proofs.Prelude.{ℕ, ◌≤◌, ◌-◌, ◌<◌, ◌≡◌, sym, ap, ◌∙◌, subst, ap₂, List, lit<, length, length-append, length-map, replicate, get_or, take, take-append_seam, arith}
use Rattle.meaning.proofs.Definitions.{padded, Kind, symbol, predicate, Field, contents_of, contents, first_byte, arities_in, types_in}
use Rattle.meaning.proofs.Lists.{get_or-table}
use Rattle.declarations.specs.declared.Known.{Known}
use Rattle.declarations.specs.Known.{tags, first_at, Knows}
use Rattle.declarations.specs.Tests.{known_types, known_symbols, known_predicates, CountsFit}

pub length-arities : (k : Kind) (fs : List Field) → length (arities_in k fs) ≡ length (contents k fs)
length-arities k fs = length-map (contents k fs) first_byte

module _ (known : Known) (done : List Field) (knows : Knows known done) where
  pub count_of : (t : ℕ) → t < tags → get_or known.counts t 0 ≡ length (contents_of t done)
  count_of t h = ap (λ (l : List ℕ). get_or l t 0) knows.counts ∙ get_or-table tags (λ u. length (contents_of u done)) 0 t h

  pub start_of : (t : ℕ) → t < tags → get_or known.starts t 0 ≡ first_at t 0 done
  start_of t h = ap (λ (l : List ℕ). get_or l t 0) knows.starts ∙ get_or-table tags (λ u. first_at u 0 done) 0 t h

  -- the declarations that are known are those read
  pub known_types_lem : known_types known ≡ types_in done
  known_types_lem = count_of 2 (lit< tt)

  pub known_symbols_lem : known_symbols known ≡ arities_in symbol done
  known_symbols_lem = ap₂ take (count_of 1 (lit< tt) ∙ sym (length-arities symbol done)) knows.symbols ∙ take-append_seam (arities_in symbol done) _

  pub known_predicates_lem : known_predicates known ≡ arities_in predicate done
  known_predicates_lem = ap₂ take (count_of 4 (lit< tt) ∙ sym (length-arities predicate done)) knows.predicates ∙ take-append_seam (arities_in predicate done) _

  -- as many symbols and predicates are known as find room
  fits : (k : Kind) {n : ℕ} {kept : List ℕ} → kept ≡ padded n (arities_in k done) → length kept ≡ n → length (contents k done) ≤ n
  fits k {n} {kept} e full =
      let arities = arities_in k done in
      omega (arith, full, ap length e, length-append arities (replicate (n - length arities) 0), length-arities k done)

  pub counts_fit : length known.symbols ≡ 24 → length known.predicates ≡ 16 → CountsFit known
  counts_fit s p = (
    subst (λ (n : ℕ). n ≤ 24) (sym (count_of 1 (lit< tt))) (fits symbol knows.symbols s),
    subst (λ (n : ℕ). n ≤ 16) (sym (count_of 4 (lit< tt))) (fits predicate knows.predicates p),
    s,
    p,
  )
