-- Turns of determinisation: what one adds, when it comes to rest, and that the states found so far never get fewer. Assumes nothing.
use Rattle.meaning.proofs.Prelude.{ℕ, ◌+◌, ◌≤◌, ◌<◌, zero, suc, ◌≡◌, refl, sym, ap, ◌∙◌, subst, ⊎_elim, Bool, true, false, not, List, [], ◌∷◌, ◌++◌, map, T}
use Rattle.meaning.proofs.Prelude.{length, le_trans, le_of_lt, arith}
use Rattle.meaning.proofs.Definitions.{same, joined, most_states, Sym, insert_all, reached, grow, saturate, determinise}
use Rattle.meaning.proofs.Lists.{clash, same-eq, eq-same}
use Rattle.meaning.proofs.Rising.{insert_longer, insert_all_longer}

-- more numbers put in are not fewer
pub insert_all-more : (before ss l : List ℕ) → length (insert_all ss l) ≤ length (insert_all (before ++ ss) l)
insert_all-more [] ss l = omega arith
insert_all-more (s ∷ before) ss l =
    ⊎_elim
    (λ e. omega (arith, insert_all-more before ss l, ap (λ (k : List ℕ). length k) e))
    (λ e. omega (arith, insert_all-more before ss l))
    (insert_longer s (insert_all (before ++ ss) l))

module _ (st : ℕ → List ℕ → ℕ) (symbols : List Sym) where
  -- a turn loses no set
  pub grow_longer : (found : List ℕ) → length found ≤ length (grow st symbols found)
  grow_longer found =
      ⊎_elim
      (λ e. omega (arith, ap (λ (k : List ℕ). length k) e))
      (λ lt. le_of_lt lt)
      (insert_all_longer (joined (map (reached st found) symbols)) found)

  -- a turn, by whether something is new
  saturate_cases :
      (P : List ℕ → Type 0) (k : ℕ) (found : List ℕ)
      → (T (same (grow st symbols found) found) → P found)
      → (T (not (same (grow st symbols found) found)) → P (saturate st k symbols (grow st symbols found)))
      → P (saturate st (suc k) symbols found)
  saturate_cases P k found rest turn = go (same (grow st symbols found) found) rest turn
    where
      go : (b : Bool)
          → (T b → P found)
          → (T (not b) → P (saturate st k symbols (grow st symbols found)))
          → P (elim b [ true ↦ found | false ↦ saturate st k symbols (grow st symbols found) ])
      go true rest turn = rest tt
      go false rest turn = turn tt

  -- turns lose no set; at rest nothing changes; else the next turn follows
  saturate_longer : (k : ℕ) (found : List ℕ) → length found ≤ length (saturate st k symbols found)
  saturate_longer zero found = omega arith
  saturate_longer (suc k) found =
      saturate_cases
      (λ (l : List ℕ). length found ≤ length l)
      k
      found
      (λ t. omega arith)
      (λ t. le_trans (grow_longer found) (saturate_longer k (grow st symbols found)))

  saturate-rest : (k : ℕ) (found : List ℕ) → grow st symbols found ≡ found → saturate st k symbols found ≡ found
  saturate-rest zero found e = refl
  saturate-rest (suc k) found e =
      saturate_cases
      (λ (l : List ℕ). l ≡ found)
      k
      found
      (λ t. refl)
      (λ t. absurd (clash (same (grow st symbols found) found) (eq-same (grow st symbols found) found e) t))

  saturate_turn :
      (k : ℕ) (found : List ℕ)
      → length found < length (grow st symbols found)
      → saturate st (suc k) symbols found ≡ saturate st k symbols (grow st symbols found)
  saturate_turn k found h =
      saturate_cases
      (λ (l : List ℕ). l ≡ saturate st k symbols (grow st symbols found))
      k
      found
      (λ t. absurd (omega (arith, ap (λ (l : List ℕ). length l) (same-eq (grow st symbols found) found t))))
      (λ t. refl)

  -- on the way to a list of states, with enough turns left
  pub record Underway (states found : List ℕ) : Type 0 where
    pub turns : ℕ
    pub enough : most_states < turns + length found
    pub leads : saturate st turns symbols found ≡ states

  pub underway : Underway (determinise st symbols) []
  unfolding determinise
  underway = record { turns = suc most_states; enough = omega arith; leads = refl }

  module _ (states found : List ℕ) (u : Underway states found) where
    -- nothing is new: these are the states
    pub at_rest : length (grow st symbols found) ≡ length found → grow st symbols found ≡ states
    at_rest h =
        let same : grow st symbols found ≡ found =
        ⊎_elim (λ e. e) (λ lt. absurd (omega (arith, h))) (insert_all_longer (joined (map (reached st found) symbols)) found) in
        same ∙ sym (saturate-rest u.turns found same) ∙ u.leads

    module _ (few : length found ≤ most_states) (new : length found < length (grow st symbols found)) where
      turned : (k : ℕ) → u.turns ≡ k → (j : ℕ) × (k ≡ suc j)
      turned zero e = absurd (omega (arith, u.enough, few))
      turned (suc j) e = (j, refl)

      -- something is new
      pub goes_on : Underway states (grow st symbols found)
      goes_on =
          let w = turned u.turns refl in
          record {
            turns = w.0;
            enough = omega (arith, u.enough, w.1, new);
            leads =
                sym (saturate_turn w.0 found new) ∙ ap (λ (k : ℕ). saturate st k symbols found) (sym w.1) ∙ u.leads;
          }

      -- a 17th set: there are more than 16 states
      pub too_long : most_states < length (grow st symbols found) → most_states < length states
      too_long h =
          subst
          (λ (l : List ℕ). most_states < length l)
          goes_on.leads
          (omega (arith, saturate_longer goes_on.turns (grow st symbols found)))
