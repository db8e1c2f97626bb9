-- The goals that are not found.
use Rattle.meaning.proofs.Prelude.{ℕ, ◌+◌, ◌<◌, ◌≡◌, ap, ◌∙◌, List, ◌++◌, length, get_or, drop, arith}
use Rattle.meaning.specs.Refusals.{accepted}
use Rattle.meaning.specs.Files.{rules_of, file_answer}
use Rattle.declarations.specs.declared.Known.{Known}
use Rattle.declarations.specs.Known.{Knows, fields_read}
use Rattle.fields.specs.Found.{nth_in}
use Rattle.byte_runs.proofs.Putting.{left_start, left_room, left_next, left_end}
use Rattle.listing_text.specs.Lines.{held_name, held_names}
use Rattle.listing_text.proofs.Texts.{names-next, names-end}
use Rattle.listing_text.proofs.Found.{nth_of_section, types_known, types-few, type-name}
use Rattle.listing_text.proofs.Findings.put_types.Goals as goal

-- a content that is found is the name of its type
next-name : (file : List ℕ) → file_answer file ≡ accepted → (known : Known) → Knows known (fields_read file) → (state t k : ℕ) (name : List ℕ)
    → t < length (rules_of file).types
    → k ≡ t
    → name ≡ nth_in k (drop (get_or known.starts 2 0) file)
    → held_names state t (drop t (rules_of file).types) ≡ held_name state t name ++ held_names state (t + 1) (drop (t + 1) (rules_of file).types)
next-name file e known knows state t k name h k-is is =
    names-next state (rules_of file).types t
    (is ∙ ap (λ (i : ℕ). nth_in i (drop (get_or known.starts 2 0) file)) k-is ∙ type-name file e known knows t h)
    h

pub loop-t-init : goal.loop-t-init
loop-t-init c = let a = c.args in
    (left_start a.out.now a.at (held_names a.state 0 (rules_of a.self.now.file.now).types) c.requires.file_in_bounds)

pub put_type-next-requires : goal.put_type-next-requires
put_type-next-requires c = let a = c.args in
    let l = c.loop-t in (
      omega (arith, types_known a.self.now.file.now c.requires.file_value.0 a.self.now.known.now c.requires.file_value.1, types-few a.self.now.file.now c.requires.file_value.0),
      left_room a.out.now a.at (held_names a.state 0 (rules_of a.self.now.file.now).types) l.out l.next (held_name a.state l.t c.nth_content-name.result.now)
          (held_names a.state (l.t + 1) (drop (l.t + 1) (rules_of a.self.now.file.now).types))
          (next-name a.self.now.file.now c.requires.file_value.0 a.self.now.known.now c.requires.file_value.1 a.state l.t c.from.result c.nth_content-name.result.now
          (omega (arith, types_known a.self.now.file.now c.requires.file_value.0 a.self.now.known.now c.requires.file_value.1)) c.from.ensures (nth_of_section a.self.now.file c.from.result c.nth_content-name.ensures c.section-types.ensures.0 c.section-types.ensures.1))
          l.invariant,
    )

pub loop-t-preserved : goal.loop-t-preserved
loop-t-preserved c = let a = c.args in
    let l = c.loop-t in (
    left_next a.out.now a.at (held_names a.state 0 (rules_of a.self.now.file.now).types) l.out l.next (held_name a.state l.t c.nth_content-name.result.now)
    (held_names a.state (l.t + 1) (drop (l.t + 1) (rules_of a.self.now.file.now).types))
    (next-name a.self.now.file.now c.requires.file_value.0 a.self.now.known.now c.requires.file_value.1 a.state l.t c.from.result c.nth_content-name.result.now
    (omega (arith, types_known a.self.now.file.now c.requires.file_value.0 a.self.now.known.now c.requires.file_value.1)) c.from.ensures (nth_of_section a.self.now.file c.from.result c.nth_content-name.ensures c.section-types.ensures.0 c.section-types.ensures.1))
    l.invariant c.put_type-next.ensures
    )

pub returns : goal.returns
returns c = let a = c.args in
    let l = c.loop-t in
    left_end a.out.now a.at (held_names a.state 0 (rules_of a.self.now.file.now).types) l.out l.next
    (names-end a.state (rules_of a.self.now.file.now).types l.t (omega (arith, types_known a.self.now.file.now c.requires.file_value.0 a.self.now.known.now c.requires.file_value.1))) l.invariant

pub shape_of-out : goal.shape_of-out
shape_of-out c = c.loop-t.invariant.1
