use Rattle.std.proofs.Common.{◌≡◌, ◌≢◌, [], length, rules}
use Rattle.std.proofs.lemmas.List.{nil_from_length}
use Rattle.p21_join.specs.Model.{plain_instances}
use Rattle.p21_outline.specs.Outline.{outlined_instances}
use Rattle.p21_checker.specs.Checked.{outlines_of, values_of}
use Rattle.p21_checker.proofs.GatheringLemmas.{fitting, has_tail, none_found}
use Rattle.p21_checker.proofs.gathering.Gathering.conclude.Goals as goal

pub returns-then-is_empty : goal.returns-then-is_empty
returns-then-is_empty c = λ outs h.
    let g = c.args.self in
    let is = plain_instances (outlined_instances g.outline) in
    let zero : length c.in_ok-faults.faults.items ≡ 0 = search rules in
    let none = nil_from_length c.in_ok-faults.faults.items zero in
    let so_far = c.in_ok-faults.ensures.none none in
    let all = c.in_ok-faults.ensures.all (values_of outs) is g.names h.faults in
    (none_found (values_of outs) is g.names g.faults.items g.ended so_far h.faults, fitting g.faults.items g (outlines_of outs) so_far h.fits, has_tail c.args.file.now c.args.tail (values_of outs) c.in_ok-faults.faults.items all none)

pub returns : goal.returns
returns c = λ outs h.
    let g = c.args.self in
    let some : c.in_ok-faults.faults.items ≢ [] = search rules in
    (c.in_ok-faults.ensures.all (values_of outs) (plain_instances (outlined_instances g.outline)) g.names h.faults, some)
