-- `listing_text::Findings::put_states` meets its contract. Assumes nothing.
use Rattle.meaning.proofs.Prelude.{ℕ, ◌≤◌, ◌-◌, ◌<◌, ◌≡◌, List, lit≤, length, get_or, arith}
use Rattle.meaning.specs.Refusals.{accepted}
use Rattle.meaning.specs.Files.{rules_of, file_answer}
use Rattle.listing_text.specs.Lines.{states_word, count_line, state_text}
use Rattle.listing_text.proofs.Sizes.{count-short, state-short}
use Rattle.listing_text.proofs.Putting.{put_short}
use Rattle.listing_text.proofs.Found.{types-few, types-short}
use Rattle.listing_text.proofs.AtHand.{states-first, states-later}
use Rattle.listing_text.proofs.Findings.put_states.Goals as goal

-- the texts are short
first_short : (n : ℕ) → n ≤ 16 → length (count_line states_word n) ≤ 128
first_short n h = count-short states_word n (lit≤ tt) (omega arith)

later-short : (file : List ℕ) → file_answer file ≡ accepted → (i state : ℕ) → i < 100 → length (state_text (rules_of file).types i state) ≤ 128
later-short file e i state h = state-short (rules_of file).types i state (types-few file e) (types-short file e) h

pub returns-then-k-eq0 : goal.returns-then-k-eq0
returns-then-k-eq0 c = let a = c.args in
    put_short a.out.now a.at (states-first (rules_of a.self.now.file.now).types a.self.now.states.now a.k c.if-k-eq0.true) (first_short (length a.self.now.states.now) (omega arith)) c.put_count.ensures

pub put_state-requires : goal.put_state-requires
put_state-requires c =
    let a = c.args in
    record { file_value = c.requires.file_value; state_in_bounds = omega (arith, later-short a.self.now.file.now c.requires.file_value.0 (a.k - 1) (get_or a.self.now.states.now (a.k - 1) 0) (omega arith)) }

pub returns : goal.returns
returns c = let a = c.args in
    put_short a.out.now a.at (states-later (rules_of a.self.now.file.now).types a.self.now.states.now a.k c.if-k-eq0.false) (later-short a.self.now.file.now c.requires.file_value.0 (a.k - 1) (get_or a.self.now.states.now (a.k - 1) 0) (omega arith)) c.put_state.ensures

pub put_count-requires : goal.put_count-requires
put_count-requires c = omega (arith, first_short (length c.args.self.now.states.now) (omega arith))
