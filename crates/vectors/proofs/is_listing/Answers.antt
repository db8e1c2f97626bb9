-- The text of a refusal is that of the file, and without one the analysis has filled the buffers.
use Rattle.std.proofs.Common.{sym, ◌∙◌, ap}
use Rattle.meaning.proofs.Prelude.{length-take-le}
use Rattle.analysis.proofs.Done.{filled_is}
use Rattle.listing_text.specs.Listing.{listing}
use Rattle.listing_answer.proofs.Texts.{text_is, text_inside}
use Rattle.vectors.proofs.Standing.{refused-is}
use Rattle.vectors.proofs.is_listing.Goals as goal

pub slice_bounds-out-end : goal.slice_bounds-out-end
slice_bounds-out-end c = text_inside _ _ c.in-Err.ensures.line

pub slice_bounds-is_refusal-end : goal.slice_bounds-is_refusal-end
slice_bounds-is_refusal-end c = sym (length-take-le _ _ (text_inside _ _ c.in-Err.ensures.line))

pub returns-in-Err : goal.returns-in-Err
returns-in-Err c =
    refused-is c.args.file.now _ _ c.in-Err.refused.refusal c.in-Err.ensures.analysis _ (text_is _ _ c.in-Err.ensures.line) c.args.expected.now c.is_refusal.result c.is_refusal.ensures

pub findings-findings-requires : goal.findings-findings-requires
findings-findings-requires c =
    let w = filled_is c.args.file.now _ _ _ c.in-Ok.ensures.analysis in
    record { filled = (w.0, c.read.ensures.1); counts = (w.1, w.2) }

pub returns : goal.returns
returns c = λ e. c.are_pieces.ensures e ∙ ap listing c.findings-findings.ensures.file_value
