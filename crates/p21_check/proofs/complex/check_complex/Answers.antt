use Rattle.p21_check.specs.Instances.{complex_instance}
use Rattle.p21_check.proofs.LocalLemmas.{unknown_entity}
use Rattle.p21_check.proofs.ComplexLemmas.{complex_unknown}
use Rattle.p21_check.proofs.complex.check_complex.Goals as goal

pub returns-then-has_unknown : goal.returns-then-has_unknown
returns-then-has_unknown c = λ name at.
    let s = c.args.schema.now in
    let rs = c.args.records.now in
    unknown_entity s (complex_instance name at rs) (complex_unknown s name at rs (c.has_unknown.ensures.some c.if-has_unknown.true))
