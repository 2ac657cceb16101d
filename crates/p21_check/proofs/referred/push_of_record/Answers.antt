use Rattle.std.proofs.Common.{◌≡◌, ◌<◌, ◌≤◌, false, List, length, get_or, refl, sym, subst, ◌∙◌}
use Rattle.p21_tree.specs.Views.{plain_record}
use Rattle.p21_tree.specs.declared.params.Param.{Param}
use Rattle.p21_schema.specs.Row.{attribute_at}
use Rattle.p21_check.specs.declared.entity_set.EntitySet.TheVariants as set
use Rattle.p21_check.specs.Attributes.{AreAttributes}
use Rattle.p21_check.specs.Instances.{simple_instance}
use Rattle.p21_check.specs.Referred.{HasSomewhere}
use Rattle.p21_check.specs.Sets.{HasEntity}
use Rattle.p21_check.proofs.ElementLemmas.{count_all}
use Rattle.p21_check.proofs.InstanceLemmas.{simple_set}
use Rattle.p21_check.proofs.RecordLemmas.{record_counted}
use Rattle.p21_check.proofs.ReferredLemmas.{HasBelow, adds_parameter, adds_same, all_below}
use Rattle.p21_check.proofs.referred.push_of_record.Goals as goal

pub attribute-attribute-requires-clause-position : goal.attribute-attribute-requires-clause-position
attribute-attribute-requires-clause-position c =
    let s = c.args.schema.now in
    let one = c.args.one.now in
    let local = c.requires.local in
    let found = c.attribute_count-count.ensures in
    let are = subst (λ n. AreAttributes s false n found.0) c.requires.named found.1.0 in
    let same : length one.params ≡ length found.0 = sym (count_all one.params) ∙ record_counted s (simple_instance local.0 local.1 (plain_record one)) 0 (plain_record one) local.2 refl found.0 are in
    let less = subst (λ (xs : List Param). c.loop-attr.attr < length xs) c.as_slice-param-items.ensures c.loop-attr-test.true in
    (found.0, (found.1.0, subst (λ n. c.loop-attr.attr < n) same less))

pub loop-attr-preserved : goal.loop-attr-preserved
loop-attr-preserved c name at =
    let s = c.args.schema.now in
    let one = c.args.one.now in
    let own = c.args.own in
    let i = c.loop-attr.attr in
    let d = c.param-item.result in
    let e = c.as_slice-param-items.ensures in
    let found = c.attribute_count-count.ensures in
    let are = subst (λ n. AreAttributes s false n found.0) c.requires.named found.1.0 in
    adds_parameter s name at one (HasEntity s (set.Simple own)) (simple_set s name at (plain_record one) own c.requires.entity c.requires.named) found.0 i d (attribute_at s c.attribute-attribute.result) are
    (λ os these. c.attribute-attribute.ensures.there os (subst (λ n. AreAttributes s false n os) (sym c.requires.named) these))
    (subst (λ (xs : List Param). i < length xs) e c.loop-attr-test.true)
    (subst (λ (xs : List Param). d ≡ get_or xs i d) e c.param-item.is)
    c.args.into.now.items c.loop-attr.into.items c.push_of_parameter.new.into.items (c.loop-attr.invariant name at) c.in_ok-push_of_parameter.ensures

pub returns : goal.returns
returns c name at =
    let s = c.args.schema.now in
    let one = c.args.one.now in
    let i = simple_instance name at (plain_record one) in
    let n = c.loop-attr.attr in
    let long = subst (λ (xs : List Param). length xs ≤ n) c.as_slice-param-items.ensures c.loop-attr-test.false in
    adds_same s (HasBelow s i n) (HasSomewhere s i) c.args.into.now.items c.loop-attr.into.items (all_below s name at one n long) (c.loop-attr.invariant name at)
