use Rattle.std.proofs.Common.{ap, sym, ◌∙◌}
use Rattle.p21_values.specs.Ends.{gives}
use Rattle.p21_values.specs.Plain.{truth}
use Rattle.p21_values.proofs.OperatorLemmas.{at_least_is}
use Rattle.p21_values.proofs.operators.at_least.Goals as goal

pub returns-in_ok-subset-in-Aggregate-Aggregate : goal.returns-in_ok-subset-in-Aggregate-Aggregate
returns-in_ok-subset-in-Aggregate-Aggregate c =
    let h = c.in-Aggregate-Aggregate in
    ap (λ t. gives (truth t)) (at_least_is c.args.v.now c.args.w.now h.field-0-0 h.field-0-1 h.xs h.ys c.deref-in-Aggregate-Aggregate-2.result.now c.deref-in-Aggregate-Aggregate-3.result.now c.deref.result.now c.deref-in-Aggregate-Aggregate.result.now h.is-0 h.is-1 c.deref-in-Aggregate-Aggregate-2.ensures c.deref-in-Aggregate-Aggregate-3.ensures.value c.deref.ensures c.deref-in-Aggregate-Aggregate.ensures.value ∙ sym c.in_ok-subset-in-Aggregate-Aggregate.ensures)
