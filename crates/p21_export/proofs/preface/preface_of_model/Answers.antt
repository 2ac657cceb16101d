use Rattle.std.proofs.Common.{subst}
use Rattle.p21_tree.specs.Texts.{HasPrefaceFault, OnGrammar}
use Rattle.p21_reader.specs.LocalFault.{IsOpeningFault}
use Rattle.p21_export.proofs.ModelLemmas.{no_opening_fault}
use Rattle.p21_export.proofs.preface.preface_of_model.Goals as goal

pub unreachable-requires : goal.unreachable-requires
unreachable-requires c =
    let s = c.args.schema.now in
    let file = c.args.file.now in
    no_opening_fault s file c.requires.0 _ (c.one_reading.ensures s file) c.requires.1 (IsOpeningFault.in_header c.in-Ok.ensures.ok c.in-Err.ensures)

pub unreachable-requires-in-Err-Grammar : goal.unreachable-requires-in-Err-Grammar
unreachable-requires-in-Err-Grammar c =
    let s = c.args.schema.now in
    let file = c.args.file.now in
    no_opening_fault s file c.requires.0 _ (c.one_reading.ensures s file) c.requires.1 (IsOpeningFault.in_preface (subst (λ e. OnGrammar e (HasPrefaceFault file)) c.in-Err-Grammar.field-0-is c.in-Err-Grammar.ensures.fault))
