use Rattle.std.proofs.Common.{◌∙◌, ◌++◌, List, ap, sym, subst}
use Rattle.p21_join.specs.Model.{instances_of, plain_instances}
use Rattle.p21_render.specs.ReadingText.{IsModelText}
use Rattle.p21_tree.specs.declared.instances.RawInstance.{RawInstance}
use Rattle.p21_rule_run.specs.BrokenLine.{rule_broken_lines}
use Rattle.p21_rule_run.specs.FaultLine.{rule_fault_lines}
use Rattle.p21_rule_run.specs.Ruled.{told, IsOfModel}
use Rattle.p21_rule_run.specs.Ruled as ruled
use Rattle.p21_run.specs.declared.check.Answer.{Answer}
use Rattle.p21_rule_run.proofs.RunLemmas.{on_both, kept_of, broken_of, of_kept}
use Rattle.p21_rule_run.proofs.runner.report_of_findings.Goals as goal

pub returns-then-are_kept : goal.returns-then-are_kept
returns-then-are_kept g c =
    let s = c.args.schema.now in
    let rules = c.args.rules.now in
    let is = plain_instances (instances_of c.args.model.now) in
    let none = (kept_of _ _ c.are_kept.result c.are_kept.ensures c.if-are_kept.true).0 in
    on_both c.report_without_faults.result
    (λ report complete counted. of_kept c.args.all s rules is c.args.faults.now report.outcome report.text.items c.requires.faults none complete (subst (λ (l : List RawInstance). IsModelText s (plain_instances l) report.text.items) c.instances.ensures counted))
    c.report_without_faults.ensures.outcome c.report_without_faults.ensures.text

pub returns : goal.returns
returns g c =
    let s = c.args.schema.now in
    let rules = c.args.rules.now in
    let is = plain_instances (instances_of c.args.model.now) in
    let some = broken_of _ _ c.are_kept.result c.are_kept.ensures c.if-are_kept.false in
    let ws = c.deref.result.now in
    let lines = c.in_ok-text.ensures ∙ ap (λ fs. rule_fault_lines s rules fs ++ rule_broken_lines ws c.told_after-reported_after.result.now) c.told-reported.ensures ∙ ap (λ bs. rule_fault_lines s rules (told c.args.all c.args.faults.now) ++ rule_broken_lines ws bs) c.told_after-reported_after.ensures in
    subst (λ (r : Answer). IsOfModel c.args.all s rules is r.outcome r.text.items) (sym c.faulty.ensures) (ruled.broken ws c.requires.faults some lines)
