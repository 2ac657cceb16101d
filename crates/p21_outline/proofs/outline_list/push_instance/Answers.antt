use Rattle.std.proofs.Common.{sym, subst}
use Rattle.std.proofs.lemmas.Result.{on_ok_weaker}
use Rattle.p21_tree.specs.Views.{plain_instance}
use Rattle.p21_check.specs.EntityOf.{IsSimpleEntity}
use Rattle.p21_check.specs.Referred.{AreReferencesOf}
use Rattle.p21_outline.proofs.ColumnLemmas.{adds_simple, adds_whole}
use Rattle.p21_outline.proofs.KeptLemmas.{is_complex}
use Rattle.p21_outline.proofs.outline_list.push_instance.Goals as goal

pub returns-in_default-clause-ok : goal.returns-in_default-clause-ok
returns-in_default-clause-ok c =
    let s = c.args.schema.now in
    let i = c.args.instance in
    let complex = is_complex s i c.requires.local (subst (IsSimpleEntity s (plain_instance i)) c.in_default.is c.requires.entity) in
    on_ok_weaker c.push_whole.result (adds_whole s c.args.columns.now c.push_whole.new.self i c.references_in-written.result c.requires.local complex c.references_in-written.ensures) c.push_whole.ensures.ok

pub returns-clause-ok : goal.returns-clause-ok
returns-clause-ok c =
    let s = c.args.schema.now in
    let i = c.args.instance in
    let simple = subst (IsSimpleEntity s (plain_instance i)) c.in-Some.is c.requires.entity in
    let refers = subst (AreReferencesOf s (plain_instance i)) (sym c.as_slice.ensures) c.in_ok-push_written.ensures in
    on_ok_weaker c.push_simple.result (adds_simple s c.args.columns.now c.push_simple.new.self i c.of-gone.result.value c.in-Some.own c.as_slice.result.now c.references_in-written.result c.of-gone.ensures c.requires.local simple refers c.references_in-written.ensures) c.push_simple.ensures.ok
