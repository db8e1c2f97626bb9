-- The readers of specs/Contents.antt against the encoders of specs/Encoding.antt: what is read is exactly what was encoded, and well formed.
-- Assumes nothing.
use Rattle.meaning.proofs.Prelude.{ℕ, ◌+◌, ◌≤◌, ◌-◌, ◌<◌, zero, suc, ◌*◌, ◌≡◌, refl, sym, ap, ◌∙◌, subst, ap₂, ◌↔◌, cond, Bool, true, false}
use Rattle.meaning.proofs.Prelude.{not, ◌&&◌, Option, none, some, List, [], ◌∷◌, map, ◌++◌, append_assoc, append-nil, tail-eq_of_cons-eq}
use Rattle.meaning.proofs.Prelude.{nil≢cons, ltb, T, leb, leb→le, eqb, eqb→eq, eqb_refl, lt→ltb, le→leb, ltb→lt, not_T, length, length-append}
use Rattle.meaning.proofs.Prelude.{get_or, le_trans, not-suc-le-zero, le_refl, lt_irrefl, arith}
use Rattle.meaning.proofs.Definitions.{all_of, All, joined, Term, Terms, var, app, end, ◌▸◌, term_count, Atom, Clause, Condition, is_of, not_of}
use Rattle.meaning.proofs.Definitions.{free, Query, most_variables, most_body, first_variable, free_byte, read_term, Read, ◌>>=◌, provided}
use Rattle.meaning.proofs.Definitions.{complete, is_some, is_name, is_named, declared, is_production, term_within, terms_within, read_terms, read_atom}
use Rattle.meaning.proofs.Definitions.{read_atoms, read_clause, read_condition, read_conditions, read_query, encode_term, encode_terms, encode_atom}
use Rattle.meaning.proofs.Definitions.{encode_named, encode_production, encode_clause, encode_condition, encode_query, Declared, WellTerm}
use Rattle.meaning.proofs.Definitions.{WellTerms, WellAtom, WellProduction, WellClause, WellCondition, WellQuery, named, production_of}
use Rattle.meaning.proofs.Lists.{both, both_of, all_facts, facts_all, All-map, cond_yes, cond_no}

-- a value read off the front of some bytes, and the bytes after it
abbrev pub read : {A : Type 0} → A → List ℕ → Read A
read a bytes = record { value = a; rest = bytes }

-- A fact of what is read, if anything is
module _ {A : Type 0} where
  abbrev pub Post : (A → Type 0) → Option A → Type 0
  Post P none = Unit
  Post P (some a) = P a

  pub post_at : (P : A → Type 0) {o : Option A} {a : A} → o ≡ some a → Post P o → P a
  post_at P e h = subst (Post P) e h

  pub post_provided : (Q : A → Type 0) (b : Bool) (o : Option A) → (T b → Post Q o) → Post Q (provided b o)
  post_provided Q true o h = h tt
  post_provided Q false o h = tt

  pub provided_yes : (b : Bool) (o : Option A) → T b → provided b o ≡ o
  provided_yes true o t = refl
  provided_yes false o t = absurd t

  -- a choice by a test
  abbrev pub pick : Bool → Option A → Option A → Option A
  pick b x y = elim b [ true ↦ x | false ↦ y ]

  pub post_pick : (Q : A → Type 0) (b : Bool) (x y : Option A) → (T b → Post Q x) → (T (not b) → Post Q y) → Post Q (pick b x y)
  post_pick Q true x y h k = h tt
  post_pick Q false x y h k = k tt

  pub pick_yes : (b : Bool) (x y : Option A) → T b → pick b x y ≡ x
  pick_yes true x y t = refl
  pick_yes false x y t = absurd t

  pub pick_no : (b : Bool) (x y : Option A) → T (not b) → pick b x y ≡ y
  pick_no true x y t = absurd t
  pick_no false x y t = refl

  pub post_cond : (Q : A → Type 0) (b : Bool) (x y : Option A) → (T b → Post Q x) → (T (not b) → Post Q y) → Post Q (cond b x y)
  post_cond Q true x y h k = h tt
  post_cond Q false x y h k = k tt

-- what is read with no byte left over
pub post_complete : {A : Type 0} (P : Read A → Type 0) (Q : A → Type 0) (o : Option (Read A)) → Post P o → ((r : Read A) → P r → r.rest ≡ [] → Q r.value) → Post Q (complete o)
post_complete P Q none h k = tt
post_complete {A} P Q (some r) h k = go r.rest refl
  where
    go : (bytes : List ℕ) → r.rest ≡ bytes → Post Q (elim bytes as (λ _. Option A) [ [] ↦ some r.value | b ∷ left ↦ none ])
    go [] e = k r h e
    go (b ∷ left) e = tt

pub is_some_find : {A : Type 0} (o : Option A) → T (is_some o) → (a : A) × (o ≡ some a)
is_some_find none t = absurd t
is_some_find (some a) t = (a, refl)

pub is_some_give : {A : Type 0} (o : Option A) (a : A) → o ≡ some a → T (is_some o)
is_some_give o a e = subst (λ o'. T (is_some o')) (sym e) tt

module _ {A B : Type 0} where
  pub post_bind : (P : A → Type 0) (Q : B → Type 0) (o : Option A) (next : A → Option B) → Post P o → ((a : A) → P a → Post Q (next a)) → Post Q (◌>>=◌ o next)
  post_bind P Q none next h k = tt
  post_bind P Q (some a) next h k = k a h

  -- the same is read, where what follows is the same on what is read
  pub bind_same : (P : A → Type 0) (o : Option A) {f g : A → Option B} → Post P o → ((a : A) → P a → f a ≡ g a) → ◌>>=◌ o f ≡ ◌>>=◌ o g
  bind_same P none h k = refl
  bind_same P (some a) h k = k a h

-- bytes taken off the front one after the other
pub reads_on : {bytes middle : List ℕ} (xs ys rest : List ℕ) → bytes ≡ xs ++ middle → middle ≡ ys ++ rest → bytes ≡ xs ++ ys ++ rest
reads_on xs ys rest p q = p ∙ ap (λ (m : List ℕ). xs ++ m) q ∙ sym (append_assoc xs ys rest)

pub cons_same : {A : Type 0} {x y : A} {xs ys : List A} → x ≡ y → xs ≡ ys → ◌≡◌ {A = List A} (x ∷ xs) (y ∷ ys)
cons_same {A} p q = ap₂ (λ (z : A) (zs : List A). z ∷ zs) p q

pub encode_term-some : (t : Term) → 1 ≤ length (encode_term t)
encode_term-some (var i) = le_refl 1
encode_term-some (app f ts) = omega arith

-- a list of terms by its first term
abbrev after_term : Term → Option (Read Terms) → Option (Read Terms)
after_term t later = ◌>>=◌ later (λ ts. some (read (t ▸ ts.value) ts.rest))

abbrev one_more : Option (Read Term) → (List ℕ → Option (Read Terms)) → Option (Read Terms)
one_more first later = ◌>>=◌ first (λ t. after_term t.value (later t.rest))

-- Terms: what is read off the front is the encoding of a well-formed term
module _ (arities : List ℕ) (v : ℕ) where
  abbrev pub TermRead : List ℕ → Read Term → Type 0
  TermRead bytes r = (bytes ≡ encode_term r.value ++ r.rest) × WellTerm arities v r.value

  abbrev pub TermsRead : ℕ → List ℕ → Read Terms → Type 0
  TermsRead n bytes r = (bytes ≡ encode_terms r.value ++ r.rest) × WellTerms arities v r.value × (term_count r.value ≡ n)

  mutual
    unfolding term_within terms_within

    term_post : (k : ℕ) (bytes : List ℕ) → Post (TermRead bytes) (term_within arities v k bytes)
    term_post zero bytes = tt
    term_post (suc k) [] = tt
    term_post (suc k) (b ∷ bytes) =
        post_pick (TermRead (b ∷ bytes)) (leb first_variable b) _ _
        (λ t. post_provided (TermRead (b ∷ bytes)) (ltb (b - first_variable) v) _ (λ s. (cons_same (omega (arith, leb→le first_variable b t)) refl, ltb→lt (b - first_variable) v s)))
        (λ t. post_provided (TermRead (b ∷ bytes)) (ltb b (length arities)) _ (λ s.
        post_bind (TermsRead (get_or arities b 0) bytes) (TermRead (b ∷ bytes)) (terms_within arities v k (get_or arities b 0) bytes) _
        (terms_post k (get_or arities b 0) bytes)
        (λ ts h. (cons_same refl h.0, ((ltb→lt b (length arities) s, sym h.2), h.1)))))

    terms_post : (k n : ℕ) (bytes : List ℕ) → Post (TermsRead n bytes) (terms_within arities v k n bytes)
    terms_post zero n bytes = tt
    terms_post (suc k) zero bytes = (refl, tt, refl)
    terms_post (suc k) (suc n) bytes =
        post_bind (TermRead bytes) (TermsRead (suc n) bytes) (term_within arities v k bytes) _ (term_post k bytes) (λ t h.
        post_bind (TermsRead n t.rest) (TermsRead (suc n) bytes) (terms_within arities v k n t.rest) _ (terms_post k n t.rest) (λ ts u.
        (reads_on (encode_term t.value) (encode_terms ts.value) ts.rest h.0 u.0, (h.1, u.1), ap suc u.2)))

  -- a term takes a byte at least
  term_shorter : (bytes : List ℕ) (r : Read Term) → TermRead bytes r → length r.rest < length bytes
  term_shorter bytes r h =
      omega (arith, ap length h.0 ∙ length-append (encode_term r.value) r.rest, encode_term-some r.value)

  -- a term by its first byte, with the terms read after that byte
  abbrev after_byte : ℕ → List ℕ → Option (Read Terms) → Option (Read Term)
  after_byte b bytes arguments =
      pick (leb first_variable b)
      (provided (ltb (b - first_variable) v) (some (read (var (b - first_variable)) bytes)))
      (provided (ltb b (length arities)) (◌>>=◌ arguments (λ ts. some (read (app b ts.value) ts.rest))))

  -- enough fuel is enough
  mutual
    unfolding term_within terms_within

    term_fuel : (k j : ℕ) (bytes : List ℕ) → 2 * length bytes ≤ k → 2 * length bytes ≤ j → term_within arities v k bytes ≡ term_within arities v j bytes
    term_fuel zero zero bytes p q = refl
    term_fuel zero (suc j) [] p q = refl
    term_fuel zero (suc j) (b ∷ bytes) p q = absurd (omega arith)
    term_fuel (suc k) zero [] p q = refl
    term_fuel (suc k) zero (b ∷ bytes) p q = absurd (omega arith)
    term_fuel (suc k) (suc j) [] p q = refl
    term_fuel (suc k) (suc j) (b ∷ bytes) p q = ap (after_byte b bytes) (terms_fuel k j (get_or arities b 0) bytes (omega arith) (omega arith))

    terms_fuel : (k j n : ℕ) (bytes : List ℕ) → 2 * length bytes < k → 2 * length bytes < j → terms_within arities v k n bytes ≡ terms_within arities v j n bytes
    terms_fuel zero j n bytes p q = absurd (omega arith)
    terms_fuel (suc k) zero n bytes p q = absurd (omega arith)
    terms_fuel (suc k) (suc j) zero bytes p q = refl
    terms_fuel (suc k) (suc j) (suc n) bytes p q =
        ap (λ (first : Option (Read Term)). one_more first (λ rest. terms_within arities v k n rest)) (term_fuel k j bytes (omega arith) (omega arith))
        ∙ bind_same (TermRead bytes) (term_within arities v j bytes) (term_post j bytes) (λ t h.
        let shorter = term_shorter bytes t h in
        ap (after_term t.value) (terms_fuel k j n t.rest (omega arith) (omega arith)))

  pub term-enough : (k : ℕ) (bytes : List ℕ) → 2 * length bytes ≤ k → term_within arities v k bytes ≡ read_term arities v bytes
  unfolding read_term
  term-enough k bytes le = term_fuel k (2 * length bytes) bytes le (le_refl (2 * length bytes))

  pub terms_enough : (k n : ℕ) (bytes : List ℕ) → 2 * length bytes < k → terms_within arities v k n bytes ≡ read_terms arities v n bytes
  unfolding read_terms
  terms_enough k n bytes lt = terms_fuel k (suc (2 * length bytes)) n bytes lt (le_refl (suc (2 * length bytes)))

  -- the readers by their equations, with no fuel
  pub read_term-nil : read_term arities v [] ≡ none
  unfolding read_term term_within
  read_term-nil = refl

  read_term-cons : (b : ℕ) (bytes : List ℕ) → read_term arities v (b ∷ bytes) ≡ after_byte b bytes (read_terms arities v (get_or arities b 0) bytes)
  unfolding read_term read_terms term_within
  read_term-cons b bytes =
      let two : 2 * suc (length bytes) ≡ suc (suc (2 * length bytes)) = omega arith in
      ap (λ (k : ℕ). term_within arities v k (b ∷ bytes)) two

  pub read_term-variable : (b : ℕ) (bytes : List ℕ) → first_variable ≤ b
      → read_term arities v (b ∷ bytes) ≡ provided (ltb (b - first_variable) v) (some (read (var (b - first_variable)) bytes))
  read_term-variable b bytes h = read_term-cons b bytes ∙ pick_yes (leb first_variable b) _ _ (le→leb first_variable b h)

  pub read_term-symbol : (b : ℕ) (bytes : List ℕ) → b < first_variable
      → read_term arities v (b ∷ bytes) ≡ provided (ltb b (length arities)) (◌>>=◌ (read_terms arities v (get_or arities b 0) bytes) (λ ts. some (read (app b ts.value) ts.rest)))
  read_term-symbol b bytes h = read_term-cons b bytes ∙ pick_no (leb first_variable b) _ _ (not_T (leb first_variable b) (λ t. lt_irrefl b (le_trans h (leb→le first_variable b t))))

  pub read_terms-zero : (bytes : List ℕ) → read_terms arities v 0 bytes ≡ some (read end bytes)
  unfolding read_terms terms_within
  read_terms-zero bytes = refl

  pub read_terms-suc : (n : ℕ) (bytes : List ℕ)
      → read_terms arities v (suc n) bytes
      ≡ ◌>>=◌ (read_term arities v bytes) (λ t. ◌>>=◌ (read_terms arities v n t.rest) (λ ts. some (read (t.value ▸ ts.value) ts.rest)))
  unfolding read_term read_terms terms_within
  read_terms-suc n bytes =
      bind_same (TermRead bytes) (read_term arities v bytes) (term_post (2 * length bytes) bytes) (λ t h.
      let shorter = term_shorter bytes t h in
      ap (after_term t.value) (terms_fuel (2 * length bytes) (suc (2 * length t.rest)) n t.rest (omega arith) (omega arith)))

  -- what is read is an encoding
  read_terms_post : (n : ℕ) (bytes : List ℕ) → Post (TermsRead n bytes) (read_terms arities v n bytes)
  unfolding read_terms
  read_terms_post n bytes = terms_post (suc (2 * length bytes)) n bytes

  pub read_term-exact : (bytes : List ℕ) (r : Read Term) → read_term arities v bytes ≡ some r → TermRead bytes r
  unfolding read_term
  read_term-exact bytes r e = post_at (TermRead bytes) e (term_post (2 * length bytes) bytes)

  pub read_terms-exact : (n : ℕ) (bytes : List ℕ) (r : Read Terms) → read_terms arities v n bytes ≡ some r → TermsRead n bytes r
  read_terms-exact n bytes r e = post_at (TermsRead n bytes) e (read_terms_post n bytes)

  -- an encoding is read back
  module _ (few : length arities ≤ first_variable) where
    mutual
      pub read_term-back : (t : Term) (rest : List ℕ) → WellTerm arities v t → read_term arities v (encode_term t ++ rest) ≡ some (read t rest)
      read_term-back (var i) rest h =
          read_term-variable (first_variable + i) rest (omega arith)
          ∙ ap (λ (j : ℕ). provided (ltb j v) (some (read (var j) rest))) (omega arith)
          ∙ provided_yes (ltb i v) _ (lt→ltb i v h)
      read_term-back (app f ts) rest h =
          read_term-symbol f (encode_terms ts ++ rest) (le_trans h.0.0 few)
          ∙ provided_yes (ltb f (length arities)) _ (lt→ltb f (length arities) h.0.0)
          ∙ ap (λ (o : Option (Read Terms)). ◌>>=◌ o (λ us. some (read (app f us.value) us.rest)))
          (ap (λ (n : ℕ). read_terms arities v n (encode_terms ts ++ rest)) h.0.1 ∙ read_terms-back ts rest h.1)

      pub read_terms-back : (ts : Terms) (rest : List ℕ) → WellTerms arities v ts → read_terms arities v (term_count ts) (encode_terms ts ++ rest) ≡ some (read ts rest)
      read_terms-back end rest h = read_terms-zero rest
      read_terms-back (t ▸ ts) rest h =
          ap (λ (bytes : List ℕ). read_terms arities v (suc (term_count ts)) bytes) (append_assoc (encode_term t) (encode_terms ts) rest)
          ∙ read_terms-suc (term_count ts) (encode_term t ++ (encode_terms ts ++ rest))
          ∙ ap (λ (o : Option (Read Term)). one_more o (λ left. read_terms arities v (term_count ts) left)) (read_term-back t (encode_terms ts ++ rest) h.0)
          ∙ ap (after_term t) (read_terms-back ts rest h.1)

-- Atoms
module _ (arities : List ℕ) (v : ℕ) (preds : List ℕ) where
  abbrev pub AtomRead : List ℕ → Read Atom → Type 0
  AtomRead bytes r = (bytes ≡ encode_atom r.value ++ r.rest) × WellAtom arities v preds r.value

  abbrev pub AtomsRead : ℕ → List ℕ → Read (List Atom) → Type 0
  AtomsRead n bytes r =
      (bytes ≡ joined (map encode_atom r.value) ++ r.rest) × All (WellAtom arities v preds) r.value × (length r.value ≡ n)

  atom_post : (bytes : List ℕ) → Post (AtomRead bytes) (read_atom arities v preds bytes)
  unfolding read_atom
  atom_post [] = tt
  atom_post (p ∷ bytes) =
      post_provided (AtomRead (p ∷ bytes)) (ltb p (length preds)) _ (λ s.
      post_bind (TermsRead arities v (get_or preds p 0) bytes) (AtomRead (p ∷ bytes)) (read_terms arities v (get_or preds p 0) bytes) _
      (read_terms_post arities v (get_or preds p 0) bytes)
      (λ ts h. (cons_same refl h.0, ((ltb→lt p (length preds) s, sym h.2), h.1))))

  atoms_post : (n : ℕ) (bytes : List ℕ) → Post (AtomsRead n bytes) (read_atoms arities v preds n bytes)
  unfolding read_atoms
  atoms_post zero bytes = (refl, tt, refl)
  atoms_post (suc n) bytes =
      post_bind (AtomRead bytes) (AtomsRead (suc n) bytes) (read_atom arities v preds bytes) _ (atom_post bytes) (λ a h.
      post_bind (AtomsRead n a.rest) (AtomsRead (suc n) bytes) (read_atoms arities v preds n a.rest) _ (atoms_post n a.rest) (λ later u.
      (reads_on (encode_atom a.value) (joined (map encode_atom later.value)) later.rest h.0 u.0, (h.1, u.1), ap suc u.2)))

  pub read_atom-exact : (bytes : List ℕ) (r : Read Atom) → read_atom arities v preds bytes ≡ some r → AtomRead bytes r
  read_atom-exact bytes r e = post_at (AtomRead bytes) e (atom_post bytes)

  pub read_atoms-exact : (n : ℕ) (bytes : List ℕ) (r : Read (List Atom)) → read_atoms arities v preds n bytes ≡ some r → AtomsRead n bytes r
  read_atoms-exact n bytes r e = post_at (AtomsRead n bytes) e (atoms_post n bytes)

  module _ (few : length arities ≤ first_variable) where
    pub read_atom-back : (a : Atom) (rest : List ℕ) → WellAtom arities v preds a → read_atom arities v preds (encode_atom a ++ rest) ≡ some (read a rest)
    unfolding read_atom
    read_atom-back a rest h =
        provided_yes (ltb a.predicate (length preds)) _ (lt→ltb a.predicate (length preds) h.0.0)
        ∙ ap (λ (o : Option (Read Terms)). ◌>>=◌ o (λ ts. some (read (record { predicate = a.predicate; arguments = ts.value }) ts.rest)))
        (ap (λ (n : ℕ). read_terms arities v n (encode_terms a.arguments ++ rest)) h.0.1
        ∙ read_terms-back arities v few a.arguments rest h.1)

    pub read_atoms-back : (atoms : List Atom) (rest : List ℕ) → All (WellAtom arities v preds) atoms
        → read_atoms arities v preds (length atoms) (joined (map encode_atom atoms) ++ rest) ≡ some (read atoms rest)
    unfolding read_atoms
    read_atoms-back [] rest h = refl
    read_atoms-back (a ∷ atoms) rest h =
        ap (λ (bytes : List ℕ). read_atoms arities v preds (suc (length atoms)) bytes) (append_assoc (encode_atom a) (joined (map encode_atom atoms)) rest)
        ∙ ap (λ (o : Option (Read Atom)). ◌>>=◌ o (λ first. ◌>>=◌ (read_atoms arities v preds (length atoms) first.rest) (λ later. some (read (first.value ∷ later.value) later.rest))))
        (read_atom-back a (joined (map encode_atom atoms) ++ rest) h.0)
        ∙ ap (λ (o : Option (Read (List Atom))). ◌>>=◌ o (λ later. some (read (a ∷ later.value) later.rest))) (read_atoms-back atoms rest h.1)

-- Clauses
module _ (arities preds : List ℕ) where
  abbrev ClauseRead : List ℕ → Read Clause → Type 0
  ClauseRead content r = (content ≡ encode_clause r.value ++ r.rest) × WellClause arities preds r.value

  -- a clause after its first two bytes
  abbrev with_body : ℕ → Atom → Option (Read (List Atom)) → Option (Read Clause)
  with_body v head body = ◌>>=◌ body (λ b. some (read (record { variables = v; head = head; body = b.value }) b.rest))

  abbrev with_head : ℕ → ℕ → Option (Read Atom) → Option (Read Clause)
  with_head v n head = ◌>>=◌ head (λ a. with_body v a.value (read_atoms arities v preds n a.rest))

  atoms-clause : (v n : ℕ) (bytes : List ℕ) → v ≤ most_variables → n ≤ most_body → Post (ClauseRead (v ∷ n ∷ bytes)) (with_head v n (read_atom arities v preds bytes))
  atoms-clause v n bytes few_variables few_atoms =
      post_bind (AtomRead arities v preds bytes) (ClauseRead (v ∷ n ∷ bytes)) (read_atom arities v preds bytes) _ (atom_post arities v preds bytes) (λ head h.
      post_bind (AtomsRead arities v preds n head.rest) (ClauseRead (v ∷ n ∷ bytes)) (read_atoms arities v preds n head.rest) _ (atoms_post arities v preds n head.rest) (λ body u. (
        cons_same refl (cons_same (sym u.2) (reads_on (encode_atom head.value) (joined (map encode_atom body.value)) body.rest h.0 u.0)),
        (few_variables, subst (λ (m : ℕ). m ≤ most_body) (sym u.2) few_atoms, h.1, u.1),
      )))

  clause_post : (content : List ℕ) → Post (λ (c : Clause). (content ≡ encode_clause c) × WellClause arities preds c) (read_clause arities preds content)
  unfolding read_clause
  clause_post [] = tt
  clause_post (v ∷ []) = tt
  clause_post (v ∷ n ∷ bytes) =
      post_provided _ (leb v most_variables && leb n most_body) _ (λ s.
      let few = both (leb v most_variables) (leb n most_body) s in
      post_complete (ClauseRead (v ∷ n ∷ bytes)) (λ c. (v ∷ n ∷ bytes ≡ encode_clause c) × WellClause arities preds c) (with_head v n (read_atom arities v preds bytes))
      (atoms-clause v n bytes (leb→le v most_variables few.0) (leb→le n most_body few.1))
      (λ r h e. (h.0 ∙ ap (λ (left : List ℕ). encode_clause r.value ++ left) e ∙ append-nil (encode_clause r.value), h.1)))

  pub read_clause-back : length arities ≤ first_variable → (c : Clause) → WellClause arities preds c → read_clause arities preds (encode_clause c) ≡ some c
  unfolding read_clause
  read_clause-back few c h =
      provided_yes (leb v most_variables && leb n most_body) _ (both_of (leb v most_variables) (leb n most_body) (le→leb v most_variables h.0) (le→leb n most_body h.1))
      ∙ ap (λ (o : Option (Read Atom)). complete (with_head v n o)) (read_atom-back arities v preds few c.head body_bytes h.2)
      ∙ ap (λ (o : Option (Read (List Atom))). complete (with_body v c.head o))
      (ap (read_atoms arities v preds n) (sym (append-nil body_bytes)) ∙ read_atoms-back arities v preds few c.body [] h.3)
    where
      v : ℕ
      v = c.variables

      n : ℕ
      n = length c.body

      body_bytes : List ℕ
      body_bytes = joined (map encode_atom c.body)

pub read_clause-exact : (arities preds : List ℕ) → length arities ≤ first_variable → (content : List ℕ) (c : Clause)
    → (read_clause arities preds content ≡ some c) ↔ ((content ≡ encode_clause c) × WellClause arities preds c)
read_clause-exact arities preds few content c = (
  λ e. post_at (λ (d : Clause). (content ≡ encode_clause d) × WellClause arities preds d) e (clause_post arities preds content),
  λ h. ap (read_clause arities preds) h.0 ∙ read_clause-back arities preds few c h.1,
)

-- Conditions and queries
ConditionIs : ℕ → ℕ → Condition → Type 0
ConditionIs types b c = (b ≡ encode_condition c) × WellCondition types c

condition_post : (types b : ℕ) → Post (ConditionIs types b) (read_condition types b)
unfolding ConditionIs
condition_post types b =
    post_cond (ConditionIs types b) (ltb b types) _ _
    (λ t. (refl, ltb→lt b types t))
    (λ _. post_cond (ConditionIs types b) (leb first_variable b && ltb (b - first_variable) types) _ _
    (λ t. let w = both (leb first_variable b) (ltb (b - first_variable) types) t in
    (omega (arith, leb→le first_variable b w.0), ltb→lt (b - first_variable) types w.1))
    (λ _. post_cond (ConditionIs types b) (eqb b free_byte) _ _ (λ t. (eqb→eq b free_byte t, tt)) (λ _. tt)))

pub read_condition-exact : (types b : ℕ) (c : Condition) → read_condition types b ≡ some c → (b ≡ encode_condition c) × WellCondition types c
unfolding ConditionIs
read_condition-exact types b c e = post_at (ConditionIs types b) e (condition_post types b)

-- with at most so many types, a condition's byte says which condition it is
abbrev pub condition_types : ℕ
condition_types = 127

pub read_condition-back : (types : ℕ) → types ≤ condition_types → (c : Condition) → WellCondition types c → read_condition types (encode_condition c) ≡ some c
read_condition-back types few (is_of t) h = cond_yes (ltb t types) _ _ (lt→ltb t types h)
read_condition-back types few (not_of t) h =
    cond_no (ltb b types) _ _ (not_T (ltb b types) (λ s. let w = ltb→lt b types s in not-suc-le-zero {n = 0} (omega arith)))
    ∙ cond_yes (leb first_variable b && ltb (b - first_variable) types) _ _
    (both_of (leb first_variable b) (ltb (b - first_variable) types) (le→leb first_variable b (omega arith)) (lt→ltb (b - first_variable) types (omega arith)))
    ∙ ap (λ (u : ℕ). some (not_of u)) (omega arith)
  where
    b : ℕ
    b = first_variable + t
read_condition-back types few free h =
    cond_no (ltb free_byte types) _ _ (not_T (ltb free_byte types) (λ s. let w = ltb→lt free_byte types s in not-suc-le-zero {n = 0} (omega arith)))
    ∙ cond_no (ltb 127 types) _ _ (not_T (ltb 127 types) (λ s. let w = ltb→lt 127 types s in not-suc-le-zero {n = 0} (omega arith)))

abbrev ConditionsRead : ℕ → ℕ → List ℕ → Read (List Condition) → Type 0
ConditionsRead types n bytes r =
    (bytes ≡ map encode_condition r.value ++ r.rest) × All (WellCondition types) r.value × (length r.value ≡ n)

conditions_post : (types n : ℕ) (bytes : List ℕ) → Post (ConditionsRead types n bytes) (read_conditions types n bytes)
unfolding read_conditions ConditionIs
conditions_post types zero bytes = (refl, tt, refl)
conditions_post types (suc n) [] = tt
conditions_post types (suc n) (b ∷ bytes) =
    post_bind (ConditionIs types b) (ConditionsRead types (suc n) (b ∷ bytes)) (read_condition types b) _ (condition_post types b) (λ c h.
    post_bind (ConditionsRead types n bytes) (ConditionsRead types (suc n) (b ∷ bytes)) (read_conditions types n bytes) _ (conditions_post types n bytes) (λ later u.
    (cons_same h.0 u.0, (h.1, u.1), ap suc u.2)))

pub read_conditions-exact : (types n : ℕ) (bytes : List ℕ) (r : Read (List Condition)) → read_conditions types n bytes ≡ some r
    → (bytes ≡ map encode_condition r.value ++ r.rest) × All (WellCondition types) r.value × (length r.value ≡ n)
read_conditions-exact types n bytes r e = post_at (ConditionsRead types n bytes) e (conditions_post types n bytes)

pub read_conditions-back : (types : ℕ) → types ≤ condition_types → (cs : List Condition) (rest : List ℕ) → All (WellCondition types) cs
    → read_conditions types (length cs) (map encode_condition cs ++ rest) ≡ some (read cs rest)
unfolding read_conditions
read_conditions-back types few [] rest h = refl
read_conditions-back types few (c ∷ cs) rest h =
    ap (λ (o : Option Condition). ◌>>=◌ o (λ d. ◌>>=◌ (read_conditions types (length cs) (map encode_condition cs ++ rest)) (λ later. some (read (d ∷ later.value) later.rest))))
    (read_condition-back types few c h.0)
    ∙ ap (λ (o : Option (Read (List Condition))). ◌>>=◌ o (λ later. some (read (c ∷ later.value) later.rest))) (read_conditions-back types few cs rest h.1)

module _ (types : ℕ) (arities preds : List ℕ) where
  abbrev QueryRead : List ℕ → Read Query → Type 0
  QueryRead content r = (content ≡ encode_query r.value ++ r.rest) × WellQuery types arities preds r.value

  -- a query after its first byte
  abbrev with_atom : List Condition → Option (Read Atom) → Option (Read Query)
  with_atom conditions atom = ◌>>=◌ atom (λ a. some (read (record { conditions = conditions; atom = a.value }) a.rest))

  abbrev with_conditions : ℕ → Option (Read (List Condition)) → Option (Read Query)
  with_conditions v conditions = ◌>>=◌ conditions (λ cs. with_atom cs.value (read_atom arities v preds cs.rest))

  conditions-query : (v : ℕ) (bytes : List ℕ) → v ≤ most_variables → Post (QueryRead (v ∷ bytes)) (with_conditions v (read_conditions types v bytes))
  conditions-query v bytes few =
      post_bind (ConditionsRead types v bytes) (QueryRead (v ∷ bytes)) (read_conditions types v bytes) _ (conditions_post types v bytes) (λ cs h.
      post_bind (AtomRead arities v preds cs.rest) (QueryRead (v ∷ bytes)) (read_atom arities v preds cs.rest) _ (atom_post arities v preds cs.rest) (λ a u. (
        cons_same (sym h.2) (reads_on (map encode_condition cs.value) (encode_atom a.value) a.rest h.0 u.0),
        subst (λ (m : ℕ). (m ≤ most_variables) × All (WellCondition types) cs.value × WellAtom arities m preds a.value) (sym h.2) (few, h.1, u.1),
      )))

  query_post : (content : List ℕ) → Post (λ (q : Query). (content ≡ encode_query q) × WellQuery types arities preds q) (read_query types arities preds content)
  unfolding read_query
  query_post [] = tt
  query_post (v ∷ bytes) =
      post_provided _ (leb v most_variables) _ (λ s.
      post_complete (QueryRead (v ∷ bytes)) (λ q. (v ∷ bytes ≡ encode_query q) × WellQuery types arities preds q) (with_conditions v (read_conditions types v bytes))
      (conditions-query v bytes (leb→le v most_variables s))
      (λ r h e. (h.0 ∙ ap (λ (left : List ℕ). encode_query r.value ++ left) e ∙ append-nil (encode_query r.value), h.1)))

  pub read_query-back : length arities ≤ first_variable → types ≤ condition_types → (q : Query) → WellQuery types arities preds q → read_query types arities preds (encode_query q) ≡ some q
  unfolding read_query
  read_query-back few few_types q h =
      provided_yes (leb v most_variables) _ (le→leb v most_variables h.0)
      ∙ ap (λ (o : Option (Read (List Condition))). complete (with_conditions v o)) (read_conditions-back types few_types q.conditions (encode_atom q.atom) h.1)
      ∙ ap (λ (o : Option (Read Atom)). complete (with_atom q.conditions o))
      (ap (read_atom arities v preds) (sym (append-nil (encode_atom q.atom))) ∙ read_atom-back arities v preds few q.atom [] h.2)
    where
      v : ℕ
      v = length q.conditions

  pub read_query-exact : length arities ≤ first_variable → types ≤ condition_types → (content : List ℕ) (q : Query)
      → (read_query types arities preds content ≡ some q) ↔ ((content ≡ encode_query q) × WellQuery types arities preds q)
  read_query-exact few few_types content q = (
    λ e. post_at (λ (d : Query). (content ≡ encode_query d) × WellQuery types arities preds d) e (query_post content),
    λ h. ap (read_query types arities preds) h.0 ∙ read_query-back few few_types q h.1,
  )

-- Symbols, predicates and productions
pub is_named-exact : (most : ℕ) (content : List ℕ)
    → T (is_named most content) ↔ ((content ≡ encode_named (named content)) × ((named content).arity ≤ most) × T (is_name (named content).name))
is_named-exact most [] = (λ t. absurd t, λ h. nil≢cons h.0)
is_named-exact most (arity ∷ name) = (
  λ t. let w = both (leb arity most) (is_name name) t in (refl, leb→le arity most w.0, w.1),
  λ h. both_of (leb arity most) (is_name name) (le→leb arity most h.1) h.2,
)

pub declared-exact : (arities : List ℕ) (number n : ℕ) → T (declared arities number n) ↔ Declared arities number n
declared-exact arities number n = (
  λ t. let w = both (ltb number (length arities)) (eqb (get_or arities number 0) n) t in (ltb→lt number (length arities) w.0, eqb→eq (get_or arities number 0) n w.1),
  λ h. both_of (ltb number (length arities)) (eqb (get_or arities number 0) n) (lt→ltb number (length arities) h.0) (subst (λ (k : ℕ). T (eqb (get_or arities number 0) k)) h.1 (eqb_refl (get_or arities number 0))),
)

pub is_production-exact : (types : ℕ) (arities content : List ℕ)
    → T (is_production types arities content) ↔ ((content ≡ encode_production (production_of content)) × WellProduction types arities (production_of content))
is_production-exact types arities [] = (λ t. absurd t, λ h. nil≢cons h.0)
is_production-exact types arities (target ∷ []) = (λ t. absurd t, λ h. nil≢cons (tail-eq_of_cons-eq h.0))
is_production-exact types arities (target ∷ symbol ∷ arguments) = (
  λ t.
      let w = both (ltb target types && declared arities symbol (length arguments)) (all_of (λ u. ltb u types) arguments) t in
      let u = both (ltb target types) (declared arities symbol (length arguments)) w.0 in
      (refl, (ltb→lt target types u.0, (declared-exact arities symbol (length arguments)).0 u.1, All-map arguments (λ x. ltb→lt x types) (all_facts (λ x. ltb x types) arguments w.1))),
  λ h. both_of (ltb target types && declared arities symbol (length arguments)) (all_of (λ u. ltb u types) arguments)
      (both_of (ltb target types) (declared arities symbol (length arguments)) (lt→ltb target types h.1.0) ((declared-exact arities symbol (length arguments)).1 h.1.1))
      (facts_all (λ x. ltb x types) arguments (All-map arguments (λ x. lt→ltb x types) h.1.2)),
)

-- what is read is well formed
pub query-well : (types : ℕ) (arities preds content : List ℕ) (q : Query) → read_query types arities preds content ≡ some q → WellQuery types arities preds q
query-well types arities preds content q e = (post_at (λ (d : Query). (content ≡ encode_query d) × WellQuery types arities preds d) e (query_post types arities preds content)).1
