-- `declarations::judge_field` meets its contract: the tests are made in the order 3, 6, 4, 5, and each way out gives the number of the first that passes.
-- Assumes nothing.
use Rattle.declarations.proofs.Judging.{at_kind, wrong_tag_lem, too_many_lem, malformed_lem, name_taken_lem, fine}
use Rattle.declarations.proofs.judge_field.Goals as goal

pub returns-in_default-clause-answer : goal.returns-in_default-clause-answer
returns-in_default-clause-answer c = let a = c.args in
    wrong_tag_lem a.file a.known.now a.last a.tag a.content.now a.k c.in_default.ensures

pub returns-then-most-earlier-clause-answer : goal.returns-then-most-earlier-clause-answer
returns-then-most-earlier-clause-answer c = let a = c.args in
    too_many_lem a.file a.known.now a.last a.tag a.content.now a.k c.in-Some.ensures c.most.ensures c.section-earlier.ensures c.if-most-earlier.true

pub returns-then-is_malformed-clause-answer : goal.returns-then-is_malformed-clause-answer
returns-then-is_malformed-clause-answer c = let a = c.args in
    malformed_lem a.file a.known.now a.last a.tag a.content.now a.k c.in-Some.ensures c.most.ensures c.section-earlier.ensures c.if-most-earlier.false
    c.is_malformed.ensures c.if-is_malformed.true

pub returns-then-is_name_taken-clause-answer : goal.returns-then-is_name_taken-clause-answer
returns-then-is_name_taken-clause-answer c = let a = c.args in
    name_taken_lem a.file a.known.now a.last a.tag a.content.now a.k c.in-Some.ensures c.most.ensures c.section-earlier.ensures c.if-most-earlier.false
    c.is_malformed.ensures c.if-is_malformed.false c.is_name_taken.ensures c.if-is_name_taken.true

pub returns-clause-kind : goal.returns-clause-kind
returns-clause-kind c = at_kind c.in-Some.ensures.1

pub returns-clause-answer : goal.returns-clause-answer
returns-clause-answer c = let a = c.args in
    fine a.file a.known.now a.last a.tag a.content.now a.k c.in-Some.ensures c.most.ensures c.section-earlier.ensures c.if-most-earlier.false
    c.is_malformed.ensures c.if-is_malformed.false c.is_name_taken.ensures c.if-is_name_taken.false
