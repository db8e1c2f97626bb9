-- `parser::add_field` meets its contract: the field is counted, and its arity stands behind the others of its kind. Assumes nothing.
use Rattle.meaning.proofs.Prelude.{◌≡◌}
use Rattle.parser.proofs.Keeping.{counted}
use Rattle.parser.proofs.Adding.{counted_first, counted_later, adds_symbol, adds_predicate, adds_other}
use Rattle.parser.proofs.add_field.Goals.{then-n-eq0, else-n-eq0}
use Rattle.parser.proofs.add_field.Goals as goal

pub returns-in_default : goal.returns-in_default
returns-in_default c = λ done content knows w bytes first.
    let a = c.args in
    let t = c.index-t.result in
    let now : c.if-n-eq0.known ≡ counted a.known.now t a.at = elim c.if-n-eq0.branch [ then-n-eq0 b ↦ counted_first a.known.now t a.at b.known-is b.if-n-eq0.true | else-n-eq0 b ↦ counted_later a.known.now t a.at b.known-is b.if-n-eq0.false ] in
    adds_other a.kind c.index-t.ensures now done content knows w bytes c.in_default.not-Symbol c.in_default.not-Predicate

pub returns-in-Symbol : goal.returns-in-Symbol
returns-in-Symbol c = λ done content knows w bytes first.
    let a = c.args in
    let t = c.index-t.result in
    let now : c.if-n-eq0.known ≡ counted a.known.now t a.at = elim c.if-n-eq0.branch [ then-n-eq0 b ↦ counted_first a.known.now t a.at b.known-is b.if-n-eq0.true | else-n-eq0 b ↦ counted_later a.known.now t a.at b.known-is b.if-n-eq0.false ] in
    adds_symbol a.kind c.index-t.ensures now done content knows w bytes c.requires first c.from.ensures c.in-Symbol.is

pub returns-in-Predicate : goal.returns-in-Predicate
returns-in-Predicate c = λ done content knows w bytes first.
    let a = c.args in
    let t = c.index-t.result in
    let now : c.if-n-eq0.known ≡ counted a.known.now t a.at = elim c.if-n-eq0.branch [ then-n-eq0 b ↦ counted_first a.known.now t a.at b.known-is b.if-n-eq0.true | else-n-eq0 b ↦ counted_later a.known.now t a.at b.known-is b.if-n-eq0.false ] in
    adds_predicate a.kind c.index-t.ensures now done content knows w bytes c.requires first c.from-in-Predicate.ensures c.in-Predicate.is
