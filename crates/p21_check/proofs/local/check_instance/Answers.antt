use Rattle.std.proofs.Common.{subst}
use Rattle.p21_tree.specs.Views.{plain_instance}
use Rattle.p21_check.specs.EntityOf.{IsSimpleEntity}
use Rattle.p21_check.proofs.EntityOfLemmas.{unknown_has}
use Rattle.p21_check.proofs.LocalLemmas.{unknown_entity}
use Rattle.p21_check.proofs.local.check_instance.Goals as goal

pub returns-in-None-2 : goal.returns-in-None-2
returns-in-None-2 c =
    let s = c.args.schema.now in
    let i = plain_instance c.args.instance.now in
    unknown_entity s i (unknown_has s c.args.instance.now c.if-instance.false (subst (IsSimpleEntity s i) c.in-None.is c.requires))
