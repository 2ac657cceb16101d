use Rattle.p21_express.specs.Plain.{plain_schema, plain_entity}
use Rattle.p21_express.specs.WellFormed.{IsRedeclaring}
use Rattle.p21_express.proofs.RedeclarationLemmas.{redeclares_none, all_step}
use Rattle.p21_express.proofs.checks.redeclared.any_declares_again.Goals as goal

pub loop-entity-preserved : goal.loop-entity-preserved
loop-entity-preserved c =
    let s = plain_schema c.args.declarations.now in
    all_step (IsRedeclaring s) c.args.declarations.now.entities.items c.loop-entity.entity-index c.entity-item.result (rw c.deref-entity-items.ensures.value at c.loop-entity-test.true) (rw c.deref-entity-items.ensures.value at c.entity-item.is) c.loop-entity.invariant (redeclares_none s (plain_entity c.entity-item.result) (c.declares_again.ensures c.if-declares_again.false))
