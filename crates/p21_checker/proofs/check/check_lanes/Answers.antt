use Rattle.p21_checker.specs.Checked.{IsStated}
use Rattle.p21_checker.proofs.CheckLemmas.{first_answer, first_returned, has_faults}
use Rattle.p21_checker.proofs.check.check_lanes.Goals as goal

pub first_of-requires : goal.first_of-requires
first_of-requires g c =
    let told = c.in_ok-all.ensures.answer in
    has_faults c.args.schema.now c.args.file.now c.in_ok-all.all.answer told.full told.is_reading told.told

pub returns-clause-returned : goal.returns-clause-returned
returns-clause-returned g c = first_returned (IsStated c.args.schema.now) c.args.schema.now c.args.file.now c.args.lanes c.in_ok-all.all.answer c.first_of.result _ _ _ c.first_of.ensures c.in_ok-all.ensures.returned

pub returns-clause-answer : goal.returns-clause-answer
returns-clause-answer g c =
    let s = c.args.schema.now in
    let file = c.args.file.now in
    let told = c.in_ok-all.ensures.answer in
    let one = first_answer s file c.in_ok-all.all.answer c.first_of.result told.full (c.all_begin_with_reading.ensures.reading s file) told.is_reading told.told c.first_of.ensures in
    record { full = one.0; is_reading = one.1; told = one.2 }
