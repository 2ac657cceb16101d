use Rattle.std.proofs.Common.{List, refl, sym, subst, ◌∙◌}
use Rattle.std.specs.List.{AllZip}
use Rattle.p21_schema.specs.declared.ids.EntityId.{EntityId}
use Rattle.p21_rule_text.specs.Statements.{IsUniquePassedElsewhere}
use Rattle.p21_rule_text.proofs.TellingLemmas.{told_of_all, told_of_more, told_of_none}
use Rattle.p21_rule_text.proofs.unique.push_told.Goals as goal

pub loop-subtype-init : goal.loop-subtype-init
loop-subtype-init c = told_of_none c.args.schema.now c.args.below.rule.now c.args.below.label.now c.args.attribute c.deref-subtype-items.result.now c.args.told.now.items

pub loop-subtype-preserved : goal.loop-subtype-preserved
loop-subtype-preserved c =
    let none : EntityId = record { index = 0 } in
    told_of_more c.args.schema.now c.args.below.rule.now c.args.below.label.now c.args.attribute c.deref-subtype-items.result.now c.loop-subtype.subtype-index none _ c.args.told.now.items c.loop-subtype.told.items c.push.new.self.items c.loop-subtype-test.true c.loop-subtype.invariant
    (record { kind = refl; entity = refl; label = c.in_ok-from_slice.ensures.items; attribute = c.in_ok-from_slice-2.ensures.items ∙ sym c.requires.name; subtype = c.in_ok-from_slice-3.ensures.items ∙ c.name_of.ensures })
    c.in_ok-push.ensures.items

pub returns : goal.returns
returns c =
    let all = told_of_all c.args.schema.now c.args.below.rule.now c.args.below.label.now c.args.attribute c.deref-subtype-items.result.now c.loop-subtype.subtype-index c.args.told.now.items c.loop-subtype.told.items c.loop-subtype-test.false c.loop-subtype.invariant in
    let are = subst (λ (os : List EntityId). AllZip (IsUniquePassedElsewhere c.args.schema.now c.args.below.rule.now c.args.below.label.now c.args.attribute) os all.0) c.deref-subtype-items.ensures.value all.1 in
    (all.0, (c.in_ok-subtypes.subtypes.items, c.in_ok-subtypes.ensures, are), all.2)
