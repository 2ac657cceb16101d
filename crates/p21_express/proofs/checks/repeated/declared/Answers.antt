use Rattle.std.proofs.Common.{[], map, take, ◌++◌}
use Rattle.p21_express.specs.Plain.{plain_entity, plain_type}
use Rattle.p21_express.specs.Schema.{Entity, Defined}
use Rattle.p21_express.proofs.MetLemmas.{declared_more}
use Rattle.p21_express.proofs.checks.repeated.declared.Goals as goal

pub loop-i-preserved : goal.loop-i-preserved
loop-i-preserved c =
    declared_more c.args.first.now.found c.meet.new.first.found c.meet.new.self.places plain_entity (λ (e : Entity). e.name) [] c.args.checked.declarations.now.entities.items c.loop-i.i c.entity-item.result (rw c.deref-entity-items.ensures.value at c.loop-i-test.true) (rw c.deref-entity-items.ensures.value at c.entity-item.is)
    (rw c.deref.ensures.value at (c.in_ok-meet.ensures c.args.first.now.found (map (λ (e : Entity). e.name) (map plain_entity (take c.loop-i.i c.args.checked.declarations.now.entities.items))) c.loop-i.invariant))

pub loop-i-2-preserved : goal.loop-i-2-preserved
loop-i-2-preserved c =
    let front = map (λ (e : Entity). e.name) (map plain_entity c.args.checked.declarations.now.entities.items) in
    declared_more c.args.first.now.found c.meet-in-loop-i-2.new.first.found c.meet-in-loop-i-2.new.self.places plain_type (λ (t : Defined). t.name) front c.args.checked.declarations.now.types.items c.loop-i-2.i c.decl-item.result (rw c.deref-decl-items.ensures.value at c.loop-i-2-test.true) (rw c.deref-decl-items.ensures.value at c.decl-item.is)
    (rw c.deref-in-loop-i-2.ensures.value at (c.in_ok-meet-2.ensures c.args.first.now.found (front ++ map (λ (t : Defined). t.name) (map plain_type (take c.loop-i-2.i c.args.checked.declarations.now.types.items))) c.loop-i-2.invariant))
