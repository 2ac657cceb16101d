use Rattle.p21_express.specs.Schema.{Attribute}
use Rattle.p21_express.specs.WellFormed.{IsKnown}
use Rattle.p21_express.specs.Plain.{plain_attribute}
use Rattle.p21_express.proofs.ChecksLemmas.{finds_more}
use Rattle.p21_express.proofs.checks.unknown.attributes.Goals as goal

pub loop-i-preserved : goal.loop-i-preserved
loop-i-preserved c = λ s exact.
    finds_more (λ (a : Attribute). IsKnown s a.texpr) plain_attribute c.args.attributes.now c.loop-i.i c.index-attributes-i.result c.args.first.now.found c.loop-i.first.found c.known_in.new.first.found c.loop-i-test.true c.index-attributes-i.is (c.loop-i.invariant s exact) (c.known_in.ensures s exact)
