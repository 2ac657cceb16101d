use Rattle.std.proofs.Common.{sym, subst}
use Rattle.p21_tree.specs.Views.{plain_instance}
use Rattle.p21_check.specs.Referred.{AreReferencesOf}
use Rattle.p21_outline.proofs.NamelessLemmas.{no_references}
use Rattle.p21_outline.proofs.outline_list.push_written.Goals as goal

pub returns-then-written-eq0 : goal.returns-then-written-eq0
returns-then-written-eq0 c =
    let s = c.args.schema.now in
    let i = plain_instance c.args.instance.now in
    subst (AreReferencesOf s i) (sym c.requires.empty) (no_references s i c.args.written c.requires.counted c.if-written-eq0.true)
