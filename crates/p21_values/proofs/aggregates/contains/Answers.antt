use Rattle.std.proofs.Common.{ap, sym, ◌∙◌}
use Rattle.p21_values.specs.Logic.{or_of}
use Rattle.p21_values.specs.Plain.{plain}
use Rattle.p21_values.proofs.AggregateLemmas.{in_is}
use Rattle.p21_values.proofs.aggregates.contains.Goals as goal

pub returns-in_ok-any_same-in-Aggregate : goal.returns-in_ok-any_same-in-Aggregate
returns-in_ok-any_same-in-Aggregate g c = λ k.
    let e = in_is (g.I.Instances.same c.args.instances.now) (plain c.args.value.now) c.args.aggregate.now c.in-Aggregate.field-0 c.in-Aggregate.values c.deref.result.now c.deref-in-Aggregate.result.now c.in-Aggregate.is c.deref.ensures c.deref-in-Aggregate.ensures.value in
    c.or.ensures ∙ ap (λ x. or_of x c.in_ok-any_same-in-Aggregate.field-0) c.not_known.ensures ∙ ap (or_of _) (c.in_ok-any_same-in-Aggregate.ensures k) ∙ sym e
