use Rattle.std.proofs.Common.{get_or, subst}
use Rattle.p21_schema.specs.Row.{attribute_at}
use Rattle.p21_tree.specs.Plain.{plain}
use Rattle.p21_tree.specs.Tree.{Tree}
use Rattle.p21_tree.specs.Views.{plain_instance}
use Rattle.p21_rules.specs.Parameter.{IsValueOf}
use Rattle.p21_rules.specs.Slots.{IsPushedOf}
use Rattle.p21_rules.proofs.ParameterLemmas.{parameter_once}
use Rattle.p21_rules.proofs.ValueLemmas.{first_id, value_added, value_there}
use Rattle.p21_rules.proofs.unique.push_values.Goals as goal

pub loop-attribute-preserved : goal.loop-attribute-preserved
loop-attribute-preserved c =
    let s = c.args.schema.now in
    let i = plain_instance c.args.instance.now in
    let t = plain c.in-Some.param.now in
    let pushed = subst (IsPushedOf s i _ t c.loop-attribute.code.items c.push_attribute.new.code.items) c.if-not-branch.false c.in_ok-push_attribute.ensures in
    value_added s i c.args.attributes.now c.loop-attribute.attribute-index t _ _ _ c.loop-attribute-test.true c.loop-attribute.invariant c.in-Some.ensures.value pushed

pub returns-in-None : goal.returns-in-None
returns-in-None c = λ vs h.
    let r = value_there c.args.schema.now (plain_instance c.args.instance.now) c.args.attributes.now c.loop-attribute.attribute-index vs c.loop-attribute-test.true h in
    c.in-None.ensures.value r.1.0 r.1.1

pub returns-then-not-branch : goal.returns-then-not-branch
returns-then-not-branch c = λ vs h.
    let s = c.args.schema.now in
    let i = plain_instance c.args.instance.now in
    let o = attribute_at s (get_or c.args.attributes.now c.loop-attribute.attribute-index first_id) in
    let t = plain c.in-Some.param.now in
    let r = value_there s i c.args.attributes.now c.loop-attribute.attribute-index vs c.loop-attribute-test.true h in
    let same = parameter_once s c.fits.ensures i.complex o i.records r.1.0 t r.1.1 c.in-Some.ensures.value in
    let none = subst (IsPushedOf s i o t c.loop-attribute.code.items c.push_attribute.new.code.items) c.if-not-branch.true c.in_ok-push_attribute.ensures in
    none r.0 (subst (λ (u : Tree). IsValueOf s i o u r.0) same r.1.2)
