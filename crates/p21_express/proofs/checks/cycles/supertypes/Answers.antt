use Rattle.p21_express.specs.Index.{IsEntityAt}
use Rattle.p21_express.specs.Positions.{ArePositions}
use Rattle.p21_express.specs.Plain.{plain_schema, plain_entity}
use Rattle.p21_express.proofs.PositionLemmas.{one_list_more}
use Rattle.p21_express.proofs.checks.cycles.supertypes.Goals as goal

pub loop-entity-preserved : goal.loop-entity-preserved
loop-entity-preserved c =
    rw c.in_ok-push.ensures.items
    (one_list_more (λ e edges. ArePositions (IsEntityAt (plain_schema c.args.checked.declarations.now)) e.supertypes edges) plain_entity c.args.checked.declarations.now.entities.items c.loop-entity.entity-index c.entity-item.result c.loop-entity.graph.items c.in_ok-entities_among.field-0 (rw c.deref-entity-items.ensures.value at c.loop-entity-test.true) (rw c.deref-entity-items.ensures.value at c.entity-item.is) c.loop-entity.invariant (rw c.deref.ensures.value at (c.in_ok-entities_among.ensures (plain_schema c.args.checked.declarations.now) c.requires)))
