-- `sheet_check::judge_cleanly` meets its contract: the marks are zeroed before and after. Assumes nothing.
use Rattle.meaning.proofs.Prelude.{◌∙◌}
use Rattle.acceptance.proofs.Handing.{few-states, narrow-preds}
use Rattle.sheet_answer.proofs.Judging.{length_zeros}
use Rattle.sheet_check.proofs.judge_cleanly.Goals as goal

pub zero_all-requires : goal.zero_all-requires
zero_all-requires c = (few-states c.requires.0.handed, narrow-preds c.requires.0.handed, c.requires.1)

pub zero_all-requires-2 : goal.zero_all-requires-2
zero_all-requires-2 c = (few-states c.requires.0.handed, narrow-preds c.requires.0.handed, c.judge_sheet-answer.ensures.size ∙ length_zeros _ c.zero_all.ensures)
