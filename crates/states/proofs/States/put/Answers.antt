-- `states::States::put` meets its contract: a number that stands at its place is there already, any other is put there if it finds room. Assumes nothing.
use Rattle.meaning.proofs.Prelude.{◌+◌, ◌<◌, ◌≡◌, ap, ◌∙◌, length, get_or, take, arith}
use Rattle.states.proofs.Putting.{answer, place-within, put_same, put_full, put_more}
use Rattle.states.proofs.States.put.Goals as goal
use Rattle.states.proofs.States.put.Goals.{else-i-known-via-then-i-known+else-known-i, else-i-known-via-else-i-known}

pub returns-then-known-i : goal.returns-then-known-i
returns-then-known-i c = let p = c.place-i in
    put_same c.requires c.args.set p.result p.ensures c.if-i-known.true c.if-known-i.true

pub returns-then-count-eq-MOST : goal.returns-then-count-eq-MOST
returns-then-count-eq-MOST c = let p = c.place-i in
    let self = c.args.self in
    let known = take self.count self.sets in
    let new : p.result < length known → get_or known p.result 0 ≡ c.args.set → ⊥ =
    elim c.else-i-known.branch [ else-i-known-via-then-i-known+else-known-i w ↦ λ lt. w.if-known-i.false | else-i-known-via-else-i-known w ↦ λ lt. absurd (omega (arith, lt, w.if-i-known.false)) ] in
    put_full c.requires c.args.set p.result p.ensures new (omega arith) (record {})

pub shift-requires : goal.shift-requires
shift-requires c = let p = c.place-i in
    (place-within c.requires c.args.set p.result p.ensures, omega (arith, c.requires.few))

pub returns : goal.returns
returns c = let p = c.place-i in
    let self = c.args.self in
    let known = take self.count self.sets in
    let new : p.result < length known → get_or known p.result 0 ≡ c.args.set → ⊥ =
    elim c.else-i-known.branch [ else-i-known-via-then-i-known+else-known-i w ↦ λ lt. w.if-known-i.false | else-i-known-via-else-i-known w ↦ λ lt. absurd (omega (arith, lt, w.if-i-known.false)) ] in
    ap (answer (self.count + 1)) c.shift.ensures ∙ put_more c.requires c.args.set p.result p.ensures new (omega (arith, c.requires.few))
