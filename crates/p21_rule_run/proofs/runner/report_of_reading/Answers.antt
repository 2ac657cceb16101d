use Rattle.std.proofs.Common.{Result, subst, sym}
use Rattle.p21_tree.specs.declared.faults.Fault.{Fault}
use Rattle.p21_join.specs.declared.model.Model.{Model}
use Rattle.p21_reader.specs.Reading.{IsReading}
use Rattle.p21_reader.specs.Answer.{plain_answer}
use Rattle.p21_rule_run.specs.Ruled.{IsFirstRuled}
use Rattle.p21_rule_run.specs.Ruled as ruled
use Rattle.p21_run.specs.declared.check.Answer.{Answer}
use Rattle.p21_rule_run.proofs.RunLemmas.{on_ok}
use Rattle.p21_rule_run.proofs.runner.report_of_reading.Goals as goal

pub returns-in-Ok : goal.returns-in-Ok
returns-in-Ok g c =
    let read = subst (λ (a : Result Model Fault). IsReading c.args.schema.now c.args.file.now (plain_answer a)) c.in-Ok.is c.requires.read in
    on_ok c.report_of_model.result (λ report of. ruled.of_model read of) c.report_of_model.ensures

pub returns-in_ok-text-in-Err : goal.returns-in_ok-text-in-Err
returns-in_ok-text-in-Err g c =
    let read = subst (λ (a : Result Model Fault). IsReading c.args.schema.now c.args.file.now (plain_answer a)) c.in-Err.is c.requires.read in
    subst (λ (r : Answer). IsFirstRuled c.args.schema.now c.args.by.rules.now c.args.file.now r.outcome r.text.items) (sym c.faulty.ensures) (ruled.faulty read c.in_ok-text-in-Err.ensures)
