use Rattle.std.proofs.Common.{◌⊎◌, ⊎_elim, inl, inr, sym, ◌∙◌}
use Rattle.std.proofs.lemmas.Bool.{false≢true}
use Rattle.p21_check.specs.LocalFault.{NamesTwice, LacksSupertype, LacksSubtype}
use Rattle.p21_check.specs.Instances.{complex_instance}
use Rattle.p21_check.proofs.LocalLemmas.{bad_complex}
use Rattle.p21_check.proofs.ComplexLemmas.{complex_known, complex_concrete, twice_by, bad_by}
use Rattle.p21_check.proofs.complex.check_known.Goals as goal

pub returns-then-marks_twice : goal.returns-then-marks_twice
returns-then-marks_twice c = λ name at.
    let s = c.args.schema.now in
    let rs = c.args.records.now in
    bad_complex s (complex_instance name at rs) (complex_known s name at rs c.requires) (complex_concrete s name at rs)
    ((bad_by s name at rs).0 (inl ((twice_by s name at rs).0 (c.marks_twice.ensures.twice.0 c.if-marks_twice.true))))

pub returns-then-lacks_entity : goal.returns-then-lacks_entity
returns-then-lacks_entity c = λ name at.
    let s = c.args.schema.now in
    let rs = c.args.records.now in
    bad_complex s (complex_instance name at rs) (complex_known s name at rs c.requires) (complex_concrete s name at rs)
    ((bad_by s name at rs).0 (inr ((c.lacks_entity.ensures name at).0 c.if-lacks_entity.true)))

pub check_whole-requires-clause-whole : goal.check_whole-requires-clause-whole
check_whole-requires-clause-whole c = λ name at bad.
    let s = c.args.schema.now in
    let rs = c.args.records.now in
    ⊎_elim
    (λ (h : NamesTwice (complex_instance name at rs)). false≢true (sym c.if-marks_twice.false ∙ c.marks_twice.ensures.twice.1 ((twice_by s name at rs).1 h)))
    (λ (h : LacksSupertype s (complex_instance name at rs) ⊎ LacksSubtype s (complex_instance name at rs)). false≢true (sym c.if-lacks_entity.false ∙ (c.lacks_entity.ensures name at).1 h))
    ((bad_by s name at rs).1 bad)
