use Rattle.std.proofs.Common.{◌≡◌, ap, sym, ◌∙◌, arith, pos}
use Rattle.std.proofs.lemmas.Int.{ints}
use Rattle.p21_values.specs.Plain.{whole}
use Rattle.p21_values.proofs.AggregateLemmas.{size_is}
use Rattle.p21_values.proofs.aggregates.size.Goals as goal

pub returns-in-Aggregate : goal.returns-in-Aggregate
returns-in-Aggregate c =
    let e = size_is c.args.value.now c.in-Aggregate.field-0 c.in-Aggregate.values c.deref.result.now c.in-Aggregate.is c.deref.ensures in
    rw e (ap whole (omega (arith, ints)))
