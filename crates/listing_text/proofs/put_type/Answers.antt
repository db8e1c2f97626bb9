-- `listing_text::put_type` meets its contract. Assumes nothing.
use Rattle.meaning.proofs.Prelude.{ℕ, ◌+◌, ◌≤◌, ◌≡◌, sym, ◌∙◌, subst, true, List, [], ◌∷◌, ◌++◌, length, arith}
use Rattle.meaning.specs.Types.{has}
use Rattle.byte_runs.specs.Pasted.{Put}
use Rattle.byte_runs.proofs.Putting.{put_none, put_first, put_room, put_then}
use Rattle.listing_text.specs.Lines.{space, held_name}
use Rattle.listing_text.proofs.Texts.{held_yes, held_no}
use Rattle.listing_text.proofs.put_type.Goals as goal

-- there is room for the space and the name of a type that the state holds
fits : (state t at : ℕ) (name out : List ℕ) → has state t ≡ true → at + length (held_name state t name) ≤ length out → at + length ((space ∷ []) ++ name) ≤ length out
fits state t at name out e h = subst (λ (l : List ℕ). at + length l ≤ length out) (held_yes state t name e) h

pub put_byte-next-requires : goal.put_byte-next-requires
put_byte-next-requires c = let a = c.args in
    omega (arith, put_first a.out.now a.at (space ∷ []) a.name.now (fits a.state a.t a.at a.name.now a.out.now (sym c.has.ensures ∙ c.if-not-has.false) c.requires.1))

pub put_bytes-requires : goal.put_bytes-requires
put_bytes-requires c = let a = c.args in
    put_room a.out.now a.at (space ∷ []) a.name.now (fits a.state a.t a.at a.name.now a.out.now (sym c.has.ensures ∙ c.if-not-has.false) c.requires.1) c.put_byte-next.ensures

pub returns : goal.returns
returns c = let a = c.args in
    subst (λ (l : List _). Put a.out.now a.at l c.put_bytes.new.out c.put_bytes.result)
    (sym (held_yes a.state a.t a.name.now (sym c.has.ensures ∙ c.if-not-has.false)))
    (put_then a.out.now a.at (space ∷ []) a.name.now (fits a.state a.t a.at a.name.now a.out.now (sym c.has.ensures ∙ c.if-not-has.false) c.requires.1) c.put_byte-next.ensures c.put_bytes.ensures)

pub returns-then-not-has : goal.returns-then-not-has
returns-then-not-has c = let a = c.args in
    subst (λ (l : List _). Put a.out.now a.at l a.out.now a.at)
    (sym (held_no a.state a.t a.name.now (sym c.has.ensures ∙ c.if-not-has.true)))
    (put_none a.out.now a.at)
