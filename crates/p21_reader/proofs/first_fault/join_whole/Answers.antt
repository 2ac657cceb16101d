use Rattle.std.proofs.Common.{[], ◌∷◌, ◌++◌, Err, List, refl, ap, subst, sym, ◌∙◌}
use Rattle.std.specs.Prelude.{Contains, map}
use Rattle.std.proofs.lemmas.List.{map-append}
use Rattle.p21_tree.specs.declared.instances.RawInstance.{RawInstance}
use Rattle.p21_tree.specs.Views.{plain_instance}
use Rattle.p21_join.specs.Joined.{joined, Joins}
use Rattle.p21_join.specs.Model.{plain_instances}
use Rattle.p21_reader.specs.InstanceFault as fault
use Rattle.p21_reader.specs.Names.{AreNames}
use Rattle.p21_reader.proofs.NameLemmas.{is_repeated, is_not_repeated}
use Rattle.p21_reader.proofs.NamingLemmas.{names_of_all, names_again, named_there}
use Rattle.p21_reader.proofs.first_fault.join_whole.Goals as goal

pub returns-in-Ok-clause-fault : goal.returns-in-Ok-clause-fault
returns-in-Ok-clause-fault c = fault.alone (is_not_repeated (joined c.args.joiner.now) c.args.instance c.in-Ok.ensures.0) refl

pub returns-in-Ok-clause-names : goal.returns-in-Ok-clause-names
returns-in-Ok-clause-names c =
    let i = c.args.instance in
    let old = joined c.args.joiner.now in
    let new = joined c.add.new.self in
    let more = ap plain_instances c.in-Ok.ensures.1 ∙ map-append plain_instance old (i ∷ []) in
    subst (AreNames (Contains (map (λ (x : RawInstance). x.name) new))) more (names_of_all new)

pub returns-in-Err-Duplicate-clause-fault : goal.returns-in-Err-Duplicate-clause-fault
returns-in-Err-Duplicate-clause-fault c =
    let i = c.args.instance in
    let old = joined c.args.joiner.now in
    let there = subst (λ e. Joins old i (Err e) (joined c.add.new.self)) c.in-Err-Duplicate.field-0-is c.in-Err-Duplicate.ensures in
    fault.repeated (is_repeated old i there.0)

pub returns-in-Err-Duplicate-clause-names : goal.returns-in-Err-Duplicate-clause-names
returns-in-Err-Duplicate-clause-names c =
    let i = c.args.instance in
    let old = joined c.args.joiner.now in
    let new = joined c.add.new.self in
    let there = subst (λ e. Joins old i (Err e) new) c.in-Err-Duplicate.field-0-is c.in-Err-Duplicate.ensures in
    subst (λ (l : List RawInstance). AreNames (Contains (map (λ (x : RawInstance). x.name) l)) (plain_instances old ++ plain_instance i ∷ [])) (sym there.2)
    (names_again (Contains (map (λ (x : RawInstance). x.name) old)) (plain_instances old) (plain_instance i) (names_of_all old) (named_there old i there.0))
