use Rattle.std.proofs.Common.{inl}
use Rattle.p21_tree.specs.declared.faults.FaultKind.TheVariants as kind
use Rattle.p21_check.proofs.ComplexLemmas.{complex_unknown, twice_by, bad_by}
use Rattle.p21_check.proofs.references.marked_references.Goals as goal

pub returns-then-has_unknown : goal.returns-then-has_unknown
returns-then-has_unknown g c = λ name at.
    let s = c.args.schema.now in
    let local = c.requires.local in
    absurd (local.2 kind.UnknownEntity (complex_unknown s local.0 local.1 c.args.records.now (c.has_unknown.ensures.some c.if-has_unknown.true)))

pub returns-then-marks_twice : goal.returns-then-marks_twice
returns-then-marks_twice g c = λ name at.
    let s = c.args.schema.now in
    let rs = c.args.records.now in
    let local = c.requires.local in
    absurd (local.2 kind.BadComplex ((bad_by s local.0 local.1 rs).0 (inl ((twice_by s local.0 local.1 rs).0 (c.marks_twice.ensures.twice.0 c.if-marks_twice.true)))))
