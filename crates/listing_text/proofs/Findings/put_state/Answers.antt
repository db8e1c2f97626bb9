-- `listing_text::Findings::put_state` meets its contract. Assumes nothing.
use Rattle.meaning.specs.Files.{rules_of}
use Rattle.text.specs.Decimal.{decimal}
use Rattle.listing_text.specs.Lines.{held_names, or_dash, state_text}
use Rattle.listing_text.proofs.Putting.{line_first, line_second, line-last, line_put}
use Rattle.listing_text.proofs.Findings.put_state.Goals as goal

pub put_decimal-from-requires : goal.put_decimal-from-requires
unfolding state_text
put_decimal-from-requires c = let a = c.args in
    line_first a.out.now a.at (decimal a.i) (or_dash (held_names a.state 0 (rules_of a.self.now.file.now).types)) c.requires.state_in_bounds

pub put_held-to-requires : goal.put_held-to-requires
unfolding state_text
put_held-to-requires c = let a = c.args in
    record {
      file_value = c.requires.file_value;
      file_in_bounds = line_second a.out.now a.at (decimal a.i) (or_dash (held_names a.state 0 (rules_of a.self.now.file.now).types)) c.requires.state_in_bounds c.put_decimal-from.ensures;
    }

pub put_byte-requires : goal.put_byte-requires
unfolding state_text
put_byte-requires c = let a = c.args in
    line-last a.out.now a.at (decimal a.i) (or_dash (held_names a.state 0 (rules_of a.self.now.file.now).types)) c.requires.state_in_bounds c.put_decimal-from.ensures c.put_held-to.ensures

pub returns : goal.returns
unfolding state_text
returns c = let a = c.args in
    line_put a.out.now a.at (decimal a.i) (or_dash (held_names a.state 0 (rules_of a.self.now.file.now).types)) c.requires.state_in_bounds c.put_decimal-from.ensures c.put_held-to.ensures c.put_byte.ensures
