use Rattle.std.proofs.Common.{map, take, ◌++◌}
use Rattle.p21_express.specs.WellFormed.{new_explicit, new_derived}
use Rattle.p21_express.specs.Plain.{plain_attribute, plain_derived}
use Rattle.p21_express.proofs.MetLemmas.{explicit_more, derived_more}
use Rattle.p21_express.proofs.checks.repeated.attributes.Goals as goal

pub loop-i-preserved : goal.loop-i-preserved
loop-i-preserved c =
    explicit_more c.args.first.now.found c.meet_new.new.first.found c.meet_new.new.self.places c.args.entity.now.attributes.items c.loop-i.i c.attribute-item.result (rw c.deref-attribute-items.ensures.value at c.loop-i-test.true) (rw c.deref-attribute-items.ensures.value at c.attribute-item.is)
    (rw c.deref-in-loop-i.ensures.value at (c.in_ok-meet_new.ensures c.args.first.now.found (new_explicit (map plain_attribute (take c.loop-i.i c.args.entity.now.attributes.items))) c.loop-i.invariant))

pub loop-i-2-preserved : goal.loop-i-2-preserved
loop-i-2-preserved c =
    let front = new_explicit (map plain_attribute c.args.entity.now.attributes.items) in
    derived_more c.args.first.now.found c.meet_new-in-loop-i-2.new.first.found c.meet_new-in-loop-i-2.new.self.places front c.args.entity.now.derived.items c.loop-i-2.i c.derived-item.result (rw c.deref-derived-items.ensures.value at c.loop-i-2-test.true) (rw c.deref-derived-items.ensures.value at c.derived-item.is)
    (rw c.deref-in-loop-i-2-2.ensures.value at (c.in_ok-meet_new-2.ensures c.args.first.now.found (front ++ new_derived (map plain_derived (take c.loop-i-2.i c.args.entity.now.derived.items))) c.loop-i-2.invariant))
