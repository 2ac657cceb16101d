use Rattle.std.proofs.Common.{◌<◌, ℕ, map, subst, arith}
use Rattle.p21_rule_text.specs.Entities.{plain_clauses}
use Rattle.p21_rule_text.specs.Resolve.{IsLowest}
use Rattle.p21_rule_text.proofs.ResolveLemmas.{none_further}
use Rattle.p21_rule_text.proofs.resolve.first_lowest.Goals as goal

pub returns-in-Some : goal.returns-in-Some
returns-in-Some c =
    let h = c.in-Some.ensures in
    record { lowest = h.0; first = λ o low less. c.loop-place.invariant o low (subst (λ (u : ℕ). o.index < u) h.1 less) }

pub loop-place-preserved : goal.loop-place-preserved
loop-place-preserved c = none_further (IsLowest c.args.schema.now (map plain_clauses c.args.clauses.now) c.args.entity c.args.name.now) c.loop-place.place c.loop-place.invariant c.in_default.ensures

pub returns : goal.returns
returns c = λ o h. c.loop-place.invariant o h.lowest (let known = h.lowest.owner.known in let count = c.count-place-end.ensures in omega (arith, known, count, c.loop-place-test.false))
