use Rattle.p21_values.proofs.SetLemmas.{elements_are}
use Rattle.p21_values.proofs.sets.elements.Goals as goal

pub returns-in-Aggregate : goal.returns-in-Aggregate
returns-in-Aggregate c = elements_are c.args.value.now c.in-Aggregate.field-0 c.in-Aggregate.values c.deref.result.now c.deref-in-Aggregate.result.now c.in-Aggregate.is c.deref.ensures c.deref-in-Aggregate.ensures.value
