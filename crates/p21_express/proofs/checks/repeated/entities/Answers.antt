use Rattle.p21_express.specs.Schema.{Entity}
use Rattle.p21_express.specs.WellFormed.{AreDistinct, new_names}
use Rattle.p21_express.specs.Naming.{texts}
use Rattle.p21_express.specs.Plain.{plain_entity}
use Rattle.p21_express.proofs.ChecksLemmas.{finds_both, finds_more}
use Rattle.p21_express.proofs.checks.repeated.entities.Goals as goal

pub loop-i-preserved : goal.loop-i-preserved
loop-i-preserved c =
    let e = c.entity-item.result in
    finds_more (λ (x : Entity). AreDistinct x.supertypes × AreDistinct (new_names x)) plain_entity c.args.checked.declarations.now.entities.items c.loop-i.i e c.args.first.now.found c.loop-i.first.found c.attributes.new.first.found (rw c.deref-entity-items.ensures.value at c.loop-i-test.true) (rw c.deref-entity-items.ensures.value at c.entity-item.is) c.loop-i.invariant
    (finds_both (AreDistinct (texts e.supertypes.items)) (AreDistinct (new_names (plain_entity e))) c.loop-i.first.found c.list.new.first.found c.attributes.new.first.found (rw c.deref.ensures.value at c.in_ok-list.ensures) c.in_ok-_met.ensures.found)
