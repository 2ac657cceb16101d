use Rattle.std.proofs.Common.{◌≡◌, ◌<◌, ◌≤◌, ◌∙◌, Some, length, get_or, min, sym, ap, arith}
use Rattle.std.proofs.lemmas.Option.{slice_get-get_or}
use Rattle.p21_tree.specs.declared.params.Param.{Param}
use Rattle.p21_tree.specs.Plain.{plain}
use Rattle.p21_schema.specs.Row.{attribute_at, no_attribute}
use Rattle.p21_rules.proofs.ParameterLemmas.{one_list, passed, stands, ended}
use Rattle.p21_rules.proofs.attributes.parameter_of.Goals as goal

pub returns-then-is_at-clause-value : goal.returns-then-is_at-clause-value
returns-then-is_at-clause-value c = λ os a.
    let s = c.args.schema.now in
    let ps = c.args.params.now in
    let i = c.loop-position.position in
    let x = c.index-params-position.result in
    let count = c.attribute_count-count.ensures in
    let same : length count.0 ≡ length os = ap length (one_list s c.fits.ensures count.1.0 a) in
    let many = count.1.1 in
    let end = c.min-position-end.ensures in
    let less : i < length os = omega arith in
    let below : i < length ps = omega arith in
    let at = slice_get-get_or os i no_attribute less in
    let is = sym (c.is_at.ensures os (get_or os i no_attribute) a at) ∙ c.if-is_at.true in
    ap (λ (p : Param). Some (plain p)) c.index-params-position.is ∙ sym (stands os ps i (attribute_at s c.args.attribute) (get_or os i no_attribute) x below at is) ∙ c.loop-position.invariant os a

pub loop-position-preserved : goal.loop-position-preserved
loop-position-preserved c = λ os a.
    let s = c.args.schema.now in
    let ps = c.args.params.now in
    let i = c.loop-position.position in
    let count = c.attribute_count-count.ensures in
    let same : length count.0 ≡ length os = ap length (one_list s c.fits.ensures count.1.0 a) in
    let many = count.1.1 in
    let end = c.min-position-end.ensures in
    let less : i < length os = omega arith in
    let below : i < length ps = omega arith in
    let at = slice_get-get_or os i no_attribute less in
    let is = sym (c.is_at.ensures os (get_or os i no_attribute) a at) ∙ c.if-is_at.false in
    sym (passed os ps i (attribute_at s c.args.attribute) (get_or os i no_attribute) below at is) ∙ c.loop-position.invariant os a

pub returns-clause-value : goal.returns-clause-value
returns-clause-value c = λ os a.
    let s = c.args.schema.now in
    let ps = c.args.params.now in
    let i = c.loop-position.position in
    let count = c.attribute_count-count.ensures in
    let same : length count.0 ≡ length os = ap length (one_list s c.fits.ensures count.1.0 a) in
    let many = count.1.1 in
    let end = c.min-position-end.ensures in
    let past : min (length os) (length ps) ≤ i = omega arith in
    sym (ended os ps i (attribute_at s c.args.attribute) past) ∙ c.loop-position.invariant os a
