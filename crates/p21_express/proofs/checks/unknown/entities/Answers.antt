use Rattle.std.specs.List.{AllByRecursion}
use Rattle.p21_express.specs.Schema.{Attribute}
use Rattle.p21_express.specs.WellFormed.{IsEntity, IsKnown}
use Rattle.p21_express.specs.Plain.{plain_schema, plain_entity}
use Rattle.p21_express.specs.Checks.{HasKnownNames}
use Rattle.p21_express.proofs.ChecksLemmas.{finds_both, finds_more}
use Rattle.p21_express.proofs.checks.unknown.entities.Goals as goal

pub loop-i-preserved : goal.loop-i-preserved
loop-i-preserved c = λ exact.
    let s = plain_schema c.args.checked.declarations.now in
    let e = plain_entity c.entity-item.result in
    finds_more (HasKnownNames s) plain_entity c.args.checked.declarations.now.entities.items c.loop-i.i c.entity-item.result c.args.first.now.found c.loop-i.first.found c.attributes.new.first.found (rw c.deref-entity-items.ensures.value at c.loop-i-test.true) (rw c.deref-entity-items.ensures.value at c.entity-item.is) (c.loop-i.invariant exact)
    (finds_both (AllByRecursion (IsEntity s) e.supertypes) (AllByRecursion (λ (a : Attribute). IsKnown s a.texpr) e.attributes) c.loop-i.first.found c.supertypes.new.first.found c.attributes.new.first.found (rw c.deref.ensures.value at (c.supertypes.ensures s exact)) (rw c.deref-in-loop-i-2.ensures.value at (c.attributes.ensures s exact)))
