use Rattle.std.proofs.Common.{map, arith}
use Rattle.p21_rule_text.specs.Entities.{plain_clauses}
use Rattle.p21_rule_text.specs.Resolve.{IsLower}
use Rattle.p21_rule_text.proofs.ResolveLemmas.{none_further}
use Rattle.p21_rule_text.proofs.resolve.is_lowest.Goals as goal

pub returns-then-is_lower_at : goal.returns-then-is_lower_at
returns-then-is_lower_at c = λ none. none c.if-is_lower_at.ensures.0 c.if-is_lower_at.ensures.1.0

pub loop-place-preserved : goal.loop-place-preserved
loop-place-preserved c = none_further (IsLower c.args.schema.now (map plain_clauses c.args.clauses.now) c.args.entity c.args.name.now c.args.owner) c.loop-place.place c.loop-place.invariant (λ o h e. c.if-is_lower_at.ensures (o, (h, e)))

pub returns : goal.returns
returns c = λ o h. c.loop-place.invariant o h (let known = h.owner.known in let count = c.count-place-end.ensures in omega (arith, known, count, c.loop-place-test.false))
