use Rattle.std.proofs.Common.{Result, refl, subst}
use Rattle.p21_tree.specs.declared.faults.Fault.{Fault}
use Rattle.p21_join.specs.declared.model.Model.{Model}
use Rattle.p21_reader.specs.Answer.{plain_answer}
use Rattle.p21_reader.specs.Reading.{IsReading}
use Rattle.p21_export.specs.Export.{IsAnswer}
use Rattle.p21_export.proofs.runner.export_reading.Goals as goal

pub returns-in_ok-answer_of_fault-in-Err-clause-answered : goal.returns-in_ok-answer_of_fault-in-Err-clause-answered
returns-in_ok-answer_of_fault-in-Err-clause-answered g c =
    let read = subst (λ (a : Result Model Fault). IsReading c.args.schema.now c.args.file.now (plain_answer a)) c.in-Err.is c.requires.read in
    IsAnswer.faulty c.in-Err.fault read c.in_ok-answer_of_fault-in-Err.ensures.outcome c.in_ok-answer_of_fault-in-Err.ensures.line refl
