use Rattle.std.proofs.Common.{rules}
use Rattle.p21_values.proofs.AggregateLemmas.{high_index_is}
use Rattle.p21_values.proofs.aggregates.high_index.Goals as goal

pub returns-in-Aggregate : goal.returns-in-Aggregate
returns-in-Aggregate c =
    let e = high_index_is c.args.value.now c.in-Aggregate.kind c.in-Aggregate.values c.deref.result.now c.in-Aggregate.is c.deref.ensures in
    rw e (search rules)
