use Rattle.std.proofs.Common.{⊎_elim}
use Rattle.std.proofs.lemmas.List.{take_all}
use Rattle.p21_graph.specs.MemberLaws.{in_either, in_left, in_right}
use Rattle.p21_express.specs.WellFormed.{IsIn, new_names}
use Rattle.p21_express.specs.Plain.{plain_entity}
use Rattle.p21_express.proofs.AgainLemmas.{found_in, new_derived_of, new_explicit_of, new_explicit_of_joins, not_in_more, test_same}
use Rattle.p21_express.proofs.checks.owners.declares.Goals as goal

pub returns-then-is_new : goal.returns-then-is_new
returns-then-is_new c =
    let attributes = c.args.entity.now.attributes.items in
    in_left (new_explicit_of attributes) (new_derived_of c.args.entity.now.derived.items) c.args.name.now (found_in new_explicit_of new_explicit_of_joins attributes c.loop-attribute.attribute-index c.attribute-item.result c.args.name.now (rw c.deref-attribute-items.ensures.value at c.loop-attribute-test.true) (rw c.deref-attribute-items.ensures.value at c.attribute-item.is) (rw (c.if-is_new.true, c.deref.ensures.value) at c.is_new.ensures))

pub loop-attribute-preserved : goal.loop-attribute-preserved
loop-attribute-preserved c = not_in_more new_explicit_of new_explicit_of_joins c.args.entity.now.attributes.items c.loop-attribute.attribute-index c.attribute-item.result c.args.name.now (rw c.deref-attribute-items.ensures.value at c.loop-attribute-test.true) (rw c.deref-attribute-items.ensures.value at c.attribute-item.is) c.loop-attribute.invariant (rw (c.if-is_new.false, c.deref.ensures.value) at c.is_new.ensures)

pub returns : goal.returns
returns c =
    let n = c.args.name.now in
    let explicit = new_explicit_of c.args.entity.now.attributes.items in
    let derived = new_derived_of c.args.entity.now.derived.items in
    let none = rw (take_all c.loop-attribute.attribute-index c.args.entity.now.attributes.items (rw c.deref-attribute-items.ensures.value at c.loop-attribute-test.false)) at c.loop-attribute.invariant in
    test_same c.derives.result (IsIn derived n) (IsIn (new_names (plain_entity c.args.entity.now)) n) (in_right explicit derived n) (λ i. ⊎_elim (λ (k : IsIn explicit n). absurd (none k)) (λ (k : IsIn derived n). k) (in_either explicit derived n i)) c.derives.ensures
