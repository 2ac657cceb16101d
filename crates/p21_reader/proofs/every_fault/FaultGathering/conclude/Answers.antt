use Rattle.std.proofs.Common.{◌≡◌, ◌≢◌, [], length, sym, subst, rules}
use Rattle.std.proofs.lemmas.List.{nil_from_length}
use Rattle.p21_join.specs.Joined.{joined}
use Rattle.p21_join.specs.Model.{plain_instances}
use Rattle.p21_reader.specs.Judged.{values_of}
use Rattle.p21_reader.specs.Values.{HaveInstances}
use Rattle.p21_reader.proofs.EveryFaultLemmas.{has_tail, none_found}
use Rattle.p21_reader.proofs.every_fault.FaultGathering.conclude.Goals as goal

pub returns-then-is_empty : goal.returns-then-is_empty
returns-then-is_empty c = λ js h.
    let g = c.args.self in
    let is = plain_instances (joined g.joiner) in
    let zero : length c.in_ok-faults.faults.items ≡ 0 = search rules in
    let none = nil_from_length c.in_ok-faults.faults.items zero in
    let all = c.in_ok-faults.ensures.all js is g.entities.items g.names h in
    let v = none_found js is g.entities.items g.names g.faults.items g.ended (c.in_ok-faults.ensures.none none) h in
    (subst (λ l. HaveInstances (values_of js) (plain_instances l)) (sym c.into_model.ensures) v.0, v.1, has_tail c.args.file.now c.args.tail (values_of js) c.in_ok-faults.faults.items all none)

pub returns : goal.returns
returns c = λ js h.
    let g = c.args.self in
    let some : c.in_ok-faults.faults.items ≢ [] = search rules in
    (c.in_ok-faults.ensures.all js (plain_instances (joined g.joiner)) g.entities.items g.names h, some)
