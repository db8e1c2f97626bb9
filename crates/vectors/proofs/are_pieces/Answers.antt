-- A piece that was put stands in the listing after those before it, and all of them with nothing after are the listing.
use Rattle.std.proofs.Common.{sym, ◌∙◌, length, arith, refl, Some}
use Rattle.std.proofs.lemmas.Bool.Decides.{Decides-eqb}
use Rattle.std.proofs.lemmas.Slice.Eq.{strip_prefix_is}
use Rattle.meaning.proofs.Prelude.{eqb-true}
use Rattle.listing_text.proofs.Texts.{no_bytes}
use Rattle.vectors.proofs.Standing.{piece_stands, pieces_all}
use Rattle.vectors.proofs.are_pieces.Goals as goal

pub loop-k-init : goal.loop-k-init
loop-k-init c = refl

pub loop-k-preserved : goal.loop-k-preserved
loop-k-preserved c =
    let l = c.loop-k in
    piece_stands c.args.findings.now.file.now c.args.expected.now l.rest.now l.k l.invariant l.out c.in-Some.later.now c.put_piece-n.ensures.0
    (strip_prefix_is Decides-eqb l.rest.now _ (Some c.in-Some.later) c.in-Some.ensures.cases)

pub returns : goal.returns
returns c = λ e.
    let l = c.loop-k in
    let all = c.piece_count-k-end.ensures c.args.findings.now.file.now c.requires.results.0 in
    pieces_all c.args.findings.now.file.now c.args.expected.now l.rest.now l.k l.invariant c.requires.results.0.answer (omega (arith, all))
    (no_bytes l.rest.now (eqb-true (length l.rest.now) 0 (sym c.is_empty.ensures ∙ e)))
