use Rattle.std.proofs.Common.{◌≡◌, ◌≢◌, ◌<◌, true, length, sym, subst, ◌∙◌, arith}
use Rattle.p21_express.specs.WellFormed.{IsIn}
use Rattle.p21_check.specs.LocalFault.{HasWrongCount}
use Rattle.p21_check.specs.Attributes.{AreAttributes}
use Rattle.p21_check.specs.Instances.{complex_instance, HasRightCount}
use Rattle.p21_check.proofs.AnyLemmas.{each_further}
use Rattle.p21_check.proofs.AttributeLemmas.{none_more, none_all}
use Rattle.p21_check.proofs.ComplexLemmas.{at_index, wrong_here, right_here, no_wrong_behind}
use Rattle.p21_check.proofs.complex.first_wrong_count.Goals as goal

pub known-entity-requires : goal.known-entity-requires
known-entity-requires c =
    let rs = c.args.records.now in
    let k = c.loop-k.k in
    let x = c.index-records-k.result in
    let less : k < length rs = omega arith in
    let among : IsIn rs x = subst (IsIn rs) (sym c.index-records-k.is) (at_index rs k x less) in
    c.requires x among

pub returns-then-attribute_count-len-clause-wrong : goal.returns-then-attribute_count-len-clause-wrong
returns-then-attribute_count-len-clause-wrong c = λ name at.
    let rs = c.args.records.now in
    let k = c.loop-k.k in
    let x = c.index-records-k.result in
    let less : k < length rs = omega arith in
    let among : IsIn rs x = subst (IsIn rs) (sym c.index-records-k.is) (at_index rs k x less) in
    let count = c.attribute_count.ensures in
    let are : AreAttributes c.args.schema.now true x.keyword.now count.0 = subst (λ n. AreAttributes c.args.schema.now true n count.0) c.known-entity.ensures.1 count.1.0 in
    let long : c.len.result ≡ length x.params = c.len.ensures in
    let differ : length x.params ≢ length count.0 = λ e. c.if-attribute_count-len.true (count.1.1 ∙ sym e ∙ sym long) in
    (wrong_here c.args.schema.now c.fits.ensures name at rs k x less c.index-records-k.is count.0 are differ, c.loop-k.invariant.none name at)

pub loop-k-preserved : goal.loop-k-preserved
loop-k-preserved c =
    let rs = c.args.records.now in
    let k = c.loop-k.k in
    let x = c.index-records-k.result in
    let less : k < length rs = omega arith in
    let among : IsIn rs x = subst (IsIn rs) (sym c.index-records-k.is) (at_index rs k x less) in
    let count = c.attribute_count.ensures in
    let are : AreAttributes c.args.schema.now true x.keyword.now count.0 = subst (λ n. AreAttributes c.args.schema.now true n count.0) c.known-entity.ensures.1 count.1.0 in
    let long : c.len.result ≡ length x.params = c.len.ensures in
    let same : length x.params ≡ length count.0 = sym long ∙ sym c.if-attribute_count-len.false ∙ count.1.1 in
    record {
      none = λ name at. none_more (HasWrongCount c.args.schema.now (complex_instance name at rs)) k (c.loop-k.invariant.none name at) (right_here c.args.schema.now c.fits.ensures name at rs k x less c.index-records-k.is count.0 are same);
      right = each_further (HasRightCount c.args.schema.now) rs k x less (subst (HasRightCount c.args.schema.now) c.index-records-k.is (count.0, (are, same))) c.loop-k.invariant.right;
    }

pub returns-clause-wrong : goal.returns-clause-wrong
returns-clause-wrong c = λ name at.
    let rs = c.args.records.now in
    none_all (HasWrongCount c.args.schema.now (complex_instance name at rs)) c.loop-k.k (c.loop-k.invariant.none name at) (λ q h. no_wrong_behind c.args.schema.now name at rs q (omega arith))
