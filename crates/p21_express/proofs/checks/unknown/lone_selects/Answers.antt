use Rattle.p21_express.specs.Plain.{plain_schema, plain_type}
use Rattle.p21_express.specs.Checks.{HasNoSelectUnder}
use Rattle.p21_express.proofs.ChecksLemmas.{finds_more}
use Rattle.p21_express.proofs.checks.unknown.lone_selects.Goals as goal

pub loop-i-preserved : goal.loop-i-preserved
loop-i-preserved c = λ exact.
    let s = plain_schema c.args.checked.declarations.now in
    finds_more (HasNoSelectUnder s) plain_type c.args.checked.declarations.now.types.items c.loop-i.i c.decl-item.result c.args.first.now.found c.loop-i.first.found c.select_under.new.first.found (rw c.deref-decl-items.ensures.value at c.loop-i-test.true) (rw c.deref-decl-items.ensures.value at c.decl-item.is) (c.loop-i.invariant exact) (c.select_under.ensures s exact)
