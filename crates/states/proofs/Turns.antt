-- The answer of a turn: it is at rest, it has met a 17th set, or it goes on with more sets. Assumes nothing.
use Rattle.meaning.proofs.Prelude.{ℕ, ◌≤◌, ◌<◌, ◌≡◌, refl, sym, ap, ◌∙◌, List, [], length, take, arith}
use Rattle.meaning.proofs.Definitions.{most_states, Production, Sym, step, signature, grow, states_for}
use Rattle.states.specs.Packed.{padded_states, Holds, held, packed}
use Rattle.std.specs.Prelude.{Result, Ok, Err}
use Rattle.states.specs.declared.TooMany.{TooMany}
use Rattle.states.specs.declared.States.{States}
use Rattle.states.proofs.Packed.{take-padded, holds_again, packed_many, known_is, many_is}
use Rattle.states.proofs.Growing.{Underway, underway, grow_longer, at_rest, goes_on, too_long}

-- the sets found so far, as states
pub record Turning (st : ℕ → List ℕ → ℕ) (symbols : List Sym) (states : List ℕ) (known : States) : Type 0 where
  pub found : List ℕ
  pub padding : known.sets ≡ padded_states found
  pub size : known.count ≡ length found
  pub few : known.count ≤ most_states
  pub leads : Underway st symbols states found

pub turning :
    (arities : List ℕ) (types : ℕ) (productions : List Production)
    → Turning (step productions types) (signature arities) (states_for arities types productions) (held [])
unfolding states_for
turning arities types productions =
    record { found = []; padding = refl; size = refl; few = omega arith; leads = underway (step productions types) (signature arities) }

-- the answer of a turn over them
module _
    {st : ℕ → List ℕ → ℕ} {symbols : List Sym} {states : List ℕ} {known : States}
    (t : Turning st symbols states known)
  where
    pub turning_holds : Holds known.sets known.count
    turning_holds = holds_again known.count known.sets t.found t.few t.size t.padding

    abbrev grown : List ℕ
    grown = grow st symbols t.found

    is : {r : Result States TooMany} → r ≡ packed (grow st symbols (take known.count known.sets)) → r ≡ packed grown
    is answers = answers ∙ ap (λ (l : List ℕ). packed (grow st symbols l)) (ap (take known.count) t.padding ∙ take-padded t.found known.count t.size)

    pub turn_over : {many : TooMany} → Err many ≡ packed (grow st symbols (take known.count known.sets)) → (end : TooMany) → Err end ≡ packed states
    turn_over answers end =
        let over = many_is grown (is answers) in
        sym (packed_many states end (too_long st symbols states t.found t.leads (omega (arith, t.size, t.few)) (omega (arith, over, t.size, t.few)) over))

    module _ {more : States} (answers : Ok more ≡ packed (grow st symbols (take known.count known.sets))) where
      pub turn_size : (more.count ≡ length grown) × (more.count ≤ most_states)
      turn_size = let w = known_is grown (is answers) in (w.0, omega (arith, w.0, w.1))

      pub turn_rest : more.count ≡ known.count → Ok more ≡ packed states
      turn_rest e = is answers ∙ ap packed (at_rest st symbols states t.found t.leads (omega (arith, t.size, turn_size.0)))

      pub turn_grown : (more.count ≡ known.count → ⊥) → known.count < more.count
      turn_grown ne = omega (arith, t.size, turn_size.0, grow_longer st symbols t.found)

      pub turn_on : (more.count ≡ known.count → ⊥) → Turning st symbols states more
      turn_on ne =
          record {
            found = grown;
            padding = (known_is grown (is answers)).2;
            size = turn_size.0;
            few = turn_size.1;
            leads = goes_on st symbols states t.found t.leads (omega (arith, t.size, t.few)) (omega (arith, t.size, turn_size.0, turn_grown ne));
          }
