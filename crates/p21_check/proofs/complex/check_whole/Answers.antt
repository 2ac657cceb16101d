use Rattle.p21_check.specs.Instances.{complex_instance}
use Rattle.p21_check.proofs.LocalLemmas.{wrong_count, bad_attribute, distinct_answer}
use Rattle.p21_check.proofs.ComplexLemmas.{complex_known, complex_concrete}
use Rattle.p21_check.proofs.complex.check_whole.Goals as goal

pub returns-in-Some : goal.returns-in-Some
returns-in-Some c = λ name at.
    let s = c.args.schema.now in
    let rs = c.args.records.now in
    let found = c.in-Some.ensures.wrong name at in
    wrong_count s (complex_instance name at rs) (complex_known s name at rs c.requires.known) (complex_concrete s name at rs) (c.requires.whole name at) c.in-Some.rec found.0 found.1

pub returns-in-Some-first_bad_attribute : goal.returns-in-Some-first_bad_attribute
returns-in-Some-first_bad_attribute c = λ name at.
    let s = c.args.schema.now in
    let rs = c.args.records.now in
    let found = c.in-Some-first_bad_attribute.ensures name at in
    bad_attribute s (complex_instance name at rs) (complex_known s name at rs c.requires.known) (complex_concrete s name at rs) (c.requires.whole name at) (c.in_default.ensures.wrong name at) c.in-Some-first_bad_attribute.rec c.in-Some-first_bad_attribute.attr found.0 found.1 found.2

pub returns-in-None : goal.returns-in-None
returns-in-None c = λ name at.
    let s = c.args.schema.now in
    let rs = c.args.records.now in
    distinct_answer s (complex_instance name at rs) (complex_known s name at rs c.requires.known) (complex_concrete s name at rs) (c.requires.whole name at) (c.in_default.ensures.wrong name at) (c.in-None.ensures name at) c.check_complex_distinct.result (c.check_complex_distinct.ensures name at)
