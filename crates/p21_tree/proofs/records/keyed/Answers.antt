use Rattle.p21_tree.specs.Plain.{plain_all}
use Rattle.p21_tree.specs.Parts.{Arguments}
use Rattle.p21_tree.specs.Progress.{Fails}
use Rattle.p21_tree.proofs.BodyLemmas.{arguments_bodies}
use Rattle.p21_tree.proofs.RecordLemmas.{keyed_arguments}
use Rattle.p21_tree.proofs.ExitLemmas.{exit_error}
use Rattle.p21_tree.proofs.records.keyed.Goals as goal

pub returns-in_err-params-clause-fault : goal.returns-in_err-params-clause-fault
returns-in_err-params-clause-fault c =
    let Q = Fails Arguments c.args.left c.args.source c.args.at in
    exit_error c.from_residual.result Q Q c.in_err-params.field-0.0 c.from_residual.ensures.1 (λ f h. h) c.in_err-params.ensures.fault

pub invariant_of-result : goal.invariant_of-result
invariant_of-result c = record {
  bodies = arguments_bodies c.first_has_content.ensures c.args.source c.args.at c.in_ok-params.after c.args.left c.in_ok-params.params c.in_ok-params.ensures.ok;
}

pub returns-clause-ok : goal.returns-clause-ok
returns-clause-ok c =
    keyed_arguments c.args.source c.args.at c.in_ok-params.after c.args.left c.args.keyword.now (plain_all c.in_ok-params.params) c.in_ok-params.ensures.ok
