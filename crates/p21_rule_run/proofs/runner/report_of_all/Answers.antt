use Rattle.std.proofs.Common.{Result, Vec, Global, subst, sym, ap, ◌∙◌}
use Rattle.p21_tree.specs.declared.faults.Fault.{Fault}
use Rattle.p21_join.specs.declared.model.Model.{Model}
use Rattle.p21_reader.specs.AllFaults.{IsReadingWithAll}
use Rattle.p21_reader.specs.AllAnswer.{plain_all}
use Rattle.p21_render.specs.FaultLine.{fault_lines}
use Rattle.p21_rule_run.specs.Ruled.{IsFullyRuled}
use Rattle.p21_rule_run.specs.Ruled as ruled
use Rattle.p21_run.specs.declared.check.Answer.{Answer}
use Rattle.p21_rule_run.proofs.RunLemmas.{on_ok}
use Rattle.p21_rule_run.proofs.runner.report_of_all.Goals as goal

pub returns-in-Ok : goal.returns-in-Ok
returns-in-Ok g c =
    let read = subst (λ (a : Result Model (Vec Fault Global)). IsReadingWithAll c.args.schema.now c.args.file.now (plain_all a)) c.in-Ok.is c.requires.read in
    on_ok c.report_of_model.result (λ report of. ruled.of_model read of) c.report_of_model.ensures

pub returns-in_ok-text-in-Err : goal.returns-in_ok-text-in-Err
returns-in_ok-text-in-Err g c =
    let read = subst (λ (a : Result Model (Vec Fault Global)). IsReadingWithAll c.args.schema.now c.args.file.now (plain_all a)) c.in-Err.is c.requires.read in
    subst (λ (r : Answer). IsFullyRuled c.args.schema.now c.args.by.rules.now c.args.file.now r.outcome r.text.items) (sym c.faulty.ensures) (ruled.faulty read (c.in_ok-text-in-Err.ensures ∙ ap fault_lines c.as_slice-in-Err.ensures.value))
