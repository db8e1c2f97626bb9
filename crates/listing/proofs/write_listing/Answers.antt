-- The text of a refusal lies in the buffer, and without one the analysis has filled the buffers.
use Rattle.std.proofs.Common.{sym}
use Rattle.meaning.proofs.Prelude.{length-take-le}
use Rattle.analysis.proofs.Done.{filled_is}
use Rattle.listing_answer.proofs.Texts.{text_inside}
use Rattle.listing.proofs.write_listing.Goals as goal

pub slice_bounds-out-end : goal.slice_bounds-out-end
slice_bounds-out-end g c = text_inside _ _ c.in-Err.ensures.line

pub slice_bounds-write_all-end : goal.slice_bounds-write_all-end
slice_bounds-write_all-end g c = sym (length-take-le _ _ (text_inside _ _ c.in-Err.ensures.line))

pub findings-findings-requires : goal.findings-findings-requires
findings-findings-requires g c =
    let w = filled_is c.args.file.now _ _ _ c.in-Ok.ensures.analysis in
    record { filled = (w.0, c.read.ensures.1); counts = (w.1, w.2) }
