-- `listing_text::Findings::put_held` meets its contract. Assumes nothing.
use Rattle.meaning.proofs.Prelude.{arith}
use Rattle.meaning.specs.Files.{rules_of}
use Rattle.listing_text.specs.Lines.{held_names}
use Rattle.listing_text.proofs.Texts.{dash_room}
use Rattle.listing_text.proofs.Putting.{names_put, dash_fits, dash_put}
use Rattle.listing_text.proofs.Findings.put_held.Goals as goal

pub put_types-next-requires : goal.put_types-next-requires
put_types-next-requires c = let a = c.args in
    record {
      file_value = c.requires.file_value;
      file_in_bounds = omega (arith, c.requires.file_in_bounds, dash_room (held_names a.state 0 (rules_of a.self.now.file.now).types));
    }

pub put_bytes-requires : goal.put_bytes-requires
put_bytes-requires c = let a = c.args in
    dash_fits a.out.now a.at (held_names a.state 0 (rules_of a.self.now.file.now).types) c.put_types-next.ensures c.if-next-at.true c.requires.file_in_bounds

pub returns-then-next-at : goal.returns-then-next-at
returns-then-next-at c = let a = c.args in
    dash_put a.out.now a.at (held_names a.state 0 (rules_of a.self.now.file.now).types) c.put_types-next.ensures c.if-next-at.true c.put_bytes.ensures

pub returns-else-next-at : goal.returns-else-next-at
returns-else-next-at c = let a = c.args in
    names_put a.out.now a.at (held_names a.state 0 (rules_of a.self.now.file.now).types) c.put_types-next.ensures c.if-next-at.false
