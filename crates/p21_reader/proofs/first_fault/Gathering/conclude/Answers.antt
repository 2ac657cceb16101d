use Rattle.std.proofs.Common.{Err, List, subst}
use Rattle.p21_express.specs.Schema.{Schema}
use Rattle.p21_join.specs.Joined.{joined}
use Rattle.p21_join.specs.Model.{plain_instances}
use Rattle.p21_tree.specs.declared.faults.Fault.{Fault}
use Rattle.p21_reader.specs.declared.judged.Judgement.{Judgement}
use Rattle.p21_reader.specs.FirstFault.{Gathers, IsGathered}
use Rattle.p21_reader.specs.Judged.{values_of}
use Rattle.p21_reader.specs.Values.{IsAnswerTo}
use Rattle.p21_reader.specs.Values as values
use Rattle.p21_reader.proofs.ExitLemmas.{exit_fault}
use Rattle.p21_reader.proofs.FirstFaultLemmas.{instances_gathered}
use Rattle.p21_reader.proofs.first_fault.Gathering.conclude.Goals as goal

pub returns-in-Some-clause-fault : goal.returns-in-Some-clause-fault
returns-in-Some-clause-fault c = λ s js h.
    let g = c.args.self in values.value (subst (Gathers js (plain_instances (joined g.joiner)) g.entities.items) c.in-Some.is h)

pub returns-in_err-read_tail-clause-fault : goal.returns-in_err-read_tail-clause-fault
returns-in_err-read_tail-clause-fault c =
    let g = c.args.self in
    let Q : Fault → Type 0 = λ f. (s : Schema) → (js : List Judgement) → IsGathered g js → IsAnswerTo s c.args.file.now c.args.tail (values_of js) (Err f) in
    exit_fault Q c.from_residual.result c.in_err-read_tail.field-0.0 c.from_residual.ensures.1 (λ s js h. values.tail (instances_gathered js (plain_instances (joined g.joiner)) g.entities.items g.fault (λ f e. c.in_default.not-Some f e) h).0 c.in_err-read_tail.ensures.fault)
