-- `listing_text::Findings::put_model` meets its contract. Assumes nothing.
use Rattle.meaning.proofs.Prelude.{ℕ, subst, List, lit≤, arith}
use Rattle.byte_runs.specs.Pasted.{Put}
use Rattle.listing_text.specs.Lines.{model_word, rounds_word}
use Rattle.listing_text.proofs.Sizes.{counts-short}
use Rattle.listing_text.proofs.Putting.{put_short}
use Rattle.listing_text.proofs.AtHand.{model-first, model-later}
use Rattle.listing_text.proofs.Findings.put_model.Goals as goal

pub returns-then-j-eq0 : goal.returns-then-j-eq0
returns-then-j-eq0 c = let a = c.args in
    put_short a.out.now a.at (model-first a.self.now.file.now a.self.now.atoms a.self.now.rounds a.j c.if-j-eq0.true) (counts-short model_word a.self.now.atoms rounds_word a.self.now.rounds (lit≤ tt) (lit≤ tt) (omega arith) (omega arith)) c.put_counts.ensures

pub put_place-requires : goal.put_place-requires
put_place-requires c = record { file_value = c.requires.file_value; marks_value = (c.requires.marks_value.0, omega arith, c.requires.marks_value.2) }

pub returns : goal.returns
returns c = let a = c.args in
    let put = c.put_place in
    (subst (λ (l : List ℕ). Put a.out.now a.at l put.new.out put.result) (model-later a.self.now.file.now a.self.now.atoms a.self.now.rounds a.j c.if-j-eq0.false) put.ensures.0, put.ensures.1)

pub put_counts-requires : goal.put_counts-requires
put_counts-requires c = let a = c.args in omega (arith, counts-short model_word a.self.now.atoms rounds_word a.self.now.rounds (lit≤ tt) (lit≤ tt) (omega arith) (omega arith))
