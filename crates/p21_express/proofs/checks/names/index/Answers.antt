use Rattle.std.proofs.Common.{[], map}
use Rattle.p21_express.specs.Plain.{plain_entity}
use Rattle.p21_express.proofs.IndexLemmas.{index_entities, index_types}
use Rattle.p21_express.proofs.checks.names.index.Goals as goal

pub loop-i-preserved : goal.loop-i-preserved
loop-i-preserved c =
    index_entities c.args.declarations.now.entities.items [] c.entity-item.result c.loop-i.index c.insert.new.self c.as_slice.result c.loop-i.i (rw c.deref-entity-items.ensures.value at c.loop-i-test.true) (rw c.deref-entity-items.ensures.value at c.entity-item.is) c.as_slice.ensures.value c.loop-i.invariant c.in_ok-insert.ensures.updates.0

pub loop-i-2-preserved : goal.loop-i-2-preserved
loop-i-2-preserved c =
    index_types c.args.declarations.now.types.items (map plain_entity c.args.declarations.now.entities.items) c.decl-item.result c.loop-i-2.index c.insert-in-loop-i-2.new.self c.as_slice-in-loop-i-2.result c.loop-i-2.i (rw c.deref-decl-items.ensures.value at c.loop-i-2-test.true) (rw c.deref-decl-items.ensures.value at c.decl-item.is) c.as_slice-in-loop-i-2.ensures.value c.loop-i-2.invariant (rw c.declared_type.ensures at c.in_ok-insert-2.ensures.updates.0)
