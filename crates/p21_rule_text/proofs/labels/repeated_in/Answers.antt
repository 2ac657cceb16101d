use Rattle.std.proofs.Common.{map, take, subst}
use Rattle.p21_rule_text.specs.Clauses.{plain_unique}
use Rattle.p21_rule_text.specs.declared.clauses.UniqueClause.{UniqueClause}
use Rattle.p21_rule_text.proofs.LabelLemmas.{Repeats, distinct_all, distinct_more, repeats_there}
use Rattle.p21_rule_text.proofs.labels.repeated_in.Goals as goal

pub returns-then-repeats : goal.returns-then-repeats
returns-then-repeats c =
    let xs = c.args.rules.now in
    let i = c.loop-index.index in
    repeats_there plain_unique xs i c.index-rules-index.result c.loop-index-test.true (subst (λ (x : UniqueClause). Repeats (map plain_unique (take i xs)) (plain_unique x)) c.index-rules-index.is c.if-repeats.ensures)

pub loop-index-preserved : goal.loop-index-preserved
loop-index-preserved c =
    let xs = c.args.rules.now in
    let i = c.loop-index.index in
    distinct_more plain_unique xs i c.index-rules-index.result c.loop-index-test.true (subst (λ (x : UniqueClause). ¬ (Repeats (map plain_unique (take i xs)) (plain_unique x))) c.index-rules-index.is c.if-repeats.ensures) c.loop-index.invariant

pub returns : goal.returns
returns c = distinct_all plain_unique c.args.rules.now c.loop-index.index c.loop-index-test.false c.loop-index.invariant
