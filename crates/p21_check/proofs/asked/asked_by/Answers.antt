use Rattle.p21_check.specs.Sets.{HasEntity}
use Rattle.p21_check.proofs.AskedLemmas.{counted}
use Rattle.p21_check.proofs.asked.asked_by.Goals as goal

pub returns-then-counts : goal.returns-then-counts
returns-then-counts c ds d all one =
    let counts = (c.counts.ensures ds d all one.entity).0 c.if-counts.true in
    counted c.args.schema.now (HasEntity c.args.schema.now c.args.set.now) ds d c.asked_by_form.result counts (c.asked_by_form.ensures d.form one.form)
