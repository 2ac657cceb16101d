use Rattle.std.proofs.Common.{◌<◌, ◌≤◌, length, sym, subst, arith}
use Rattle.p21_express.specs.Naming.{plain_naming}
use Rattle.p21_schema.specs.Row.{IsAttributeOf}
use Rattle.p21_schema.specs.declared.ids.AttrId.{AttrId}
use Rattle.p21_rule_text.specs.Statements.{AreToldOf}
use Rattle.p21_rule_text.proofs.TellingLemmas.{as_many, named_at, told_all, told_more}
use Rattle.p21_rule_text.proofs.unique.told.Goals as goal

pub index-requires : goal.index-requires
index-requires c =
    let many = as_many c.args.known.schema.now plain_naming c.args.names.now c.args.rule.now.attributes.items c.requires.names in
    omega (arith, many, c.loop-index-test.true)

pub push_told-requires-clause-attribute : goal.push_told-requires-clause-attribute
push_told-requires-clause-attribute c =
    let many = as_many c.args.known.schema.now plain_naming c.args.names.now c.args.rule.now.attributes.items c.requires.names in
    let less : c.loop-index.index < length c.args.rule.now.attributes.items = omega (arith, many, c.loop-index-test.true) in
    subst (IsAttributeOf c.args.known.schema.now) (sym c.index.ensures) (c.requires.rule.attributes c.loop-index.index c.index.result.now less)

pub push_told-requires-clause-name : goal.push_told-requires-clause-name
push_told-requires-clause-name c = named_at c.args.known.schema.now plain_naming c.args.names.now c.args.rule.now.attributes.items c.loop-index.index _ c.index.result.now c.requires.names c.loop-index-test.true c.index.ensures

pub loop-index-preserved : goal.loop-index-preserved
loop-index-preserved c =
    let s = c.args.known.schema.now in
    let rule = c.args.rule.now in
    let many = as_many s plain_naming c.args.names.now rule.attributes.items c.requires.names in
    let less : c.loop-index.index < length rule.attributes.items = omega (arith, many, c.loop-index-test.true) in
    let more = c.in_ok-push_told.ensures in
    told_more s rule c.args.label.now rule.attributes.items c.loop-index.index c.index.result.now more.0 c.loop-index.told.items c.push_told.new.told.items less c.loop-index.invariant (subst (λ (a : AttrId). AreToldOf s rule c.args.label.now a more.0) c.index.ensures more.1) more.2

pub returns : goal.returns
returns c =
    let s = c.args.known.schema.now in
    let rule = c.args.rule.now in
    let many = as_many s plain_naming c.args.names.now rule.attributes.items c.requires.names in
    let past : length rule.attributes.items ≤ c.loop-index.index = omega (arith, many, c.loop-index-test.false) in
    told_all s rule c.args.label.now rule.attributes.items c.loop-index.index c.loop-index.told.items past c.loop-index.invariant
