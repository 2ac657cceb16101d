use Rattle.std.proofs.Common.{None, Some, ap, subst}
use Rattle.p21_tree.specs.Texts.{HasPieceFault, OnGrammar}
use Rattle.p21_tree.specs.Views.{plain_instance}
use Rattle.p21_cut.specs.Cutter.{plain_piece}
use Rattle.p21_check.specs.LocalFault.{IsLocalFault}
use Rattle.p21_check.specs.References.{IsReferenceFault, named_in}
use Rattle.p21_join.specs.Model.{plain_instances}
use Rattle.p21_outline.specs.Outline.{outlined_instances}
use Rattle.p21_checker.proofs.AgainLemmas.{no_fault, one_instance}
use Rattle.p21_checker.proofs.again.fault_of.Goals as goal

pub unreachable-requires : goal.unreachable-requires
unreachable-requires c =
    let i = c.requires.instance in
    no_fault c.one_fault_at_most.ensures.of_pieces c.faults_of_tokens.ensures.of_pieces c.args.piece i.0 c.in-Err-Grammar.field-0-0 i.1
    (subst (λ e. OnGrammar e (HasPieceFault c.args.piece)) c.in-Err-Grammar.field-0-is c.in-Err-Grammar.ensures.fault)

pub reference_fault-requires-clause-local : goal.reference_fault-requires-clause-local
reference_fault-requires-clause-local c =
    let i = c.requires.instance in
    subst (λ j. IsLocalFault c.args.schema.now j None) (one_instance c.tokens_are_unique.ensures c.one_tree.ensures (plain_piece c.args.piece) i.0 (plain_instance c.in-Ok.instance) i.1 c.in-Ok.ensures.ok) i.2

pub unreachable-requires-in-Ok-reference_fault : goal.unreachable-requires-in-Ok-reference_fault
unreachable-requires-in-Ok-reference_fault c =
    let i = c.requires.instance in
    let named = named_in (plain_instances (outlined_instances c.args.outline.now)) in
    i.3 (subst (λ j. IsReferenceFault c.args.schema.now named j None) (one_instance c.tokens_are_unique.ensures c.one_tree.ensures (plain_piece c.args.piece) (plain_instance c.in-Ok.instance) i.0 c.in-Ok.ensures.ok i.1) c.in-Ok-reference_fault.ensures)

pub returns : goal.returns
returns c = λ i text.
    let named = named_in (plain_instances (outlined_instances c.args.outline.now)) in
    let same = one_instance c.tokens_are_unique.ensures c.one_tree.ensures (plain_piece c.args.piece) (plain_instance c.in-Ok.instance) i c.in-Ok.ensures.ok text in
    (subst (λ j. IsReferenceFault c.args.schema.now named j (Some c.in-Err.kind)) same c.in-Err.ensures, ap (λ x. x.at) same)
