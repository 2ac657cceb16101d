use Rattle.std.proofs.Common.{◌≡◌, Option, None, Some, length, refl, rules, subst}
use Rattle.std.proofs.lemmas.List.{nil_from_length}
use Rattle.p21_tree.specs.Views.{plain_instance}
use Rattle.p21_tree.specs.declared.faults.FaultKind.{FaultKind}
use Rattle.p21_tree.specs.declared.instances.RawInstance.{RawInstance}
use Rattle.p21_reader.specs.Values.{whole}
use Rattle.p21_checker.specs.Checked.{Adds}
use Rattle.p21_checker.proofs.GatheringLemmas.{on_ok}
use Rattle.p21_checker.proofs.ListLemmas.{adds_sound, on_both}
use Rattle.p21_checker.proofs.checked_list.CheckedList.push_instance.Goals as goal

pub returns-in-Ok : goal.returns-in-Ok
returns-in-Ok c =
    let was = c.args.self.now in
    let zero : length was.rest.items ≡ 0 = search rules in
    let none = nil_from_length was.rest.items zero in
    on_both c.push.result _ _ _ (λ listed kept. (None, c.in-Ok.ensures.fault, adds_sound c.args.schema.now was _ c.args.instance refl none listed kept)) c.push.ensures.instances c.push.ensures.fits

pub returns-in-Ok-2 : goal.returns-in-Ok-2
returns-in-Ok-2 c =
    let s = c.args.schema.now in
    let was = c.args.self.now in
    let new = c.push-in-Ok-2.new.self in
    on_ok c.push-in-Ok-2.result _ _
    (λ adds. (
      None,
      c.in-Ok-2.ensures.fault,
      subst (λ (o : Option FaultKind). Adds s was (whole (record { instance = plain_instance c.args.instance; own = o })) new) c.of.ensures.own
          (subst (λ (i : RawInstance). Adds s was (whole (record { instance = plain_instance i; own = c.of.result.own })) new) c.of.ensures.gone (adds s)),
    ))
    c.push-in-Ok-2.ensures

pub returns-in-Err : goal.returns-in-Err
returns-in-Err c =
    let s = c.args.schema.now in
    let was = c.args.self.now in
    let new = c.push-in-Err.new.self in
    on_ok c.push-in-Err.result _ _
    (λ adds. (
      Some c.in-Err.kind,
      c.in-Err.ensures.fault,
      subst (λ (o : Option FaultKind). Adds s was (whole (record { instance = plain_instance c.args.instance; own = o })) new) c.of-in-Err.ensures.own
          (subst (λ (i : RawInstance). Adds s was (whole (record { instance = plain_instance i; own = c.of-in-Err.result.own })) new) c.of-in-Err.ensures.gone (adds s)),
    ))
    c.push-in-Err.ensures
