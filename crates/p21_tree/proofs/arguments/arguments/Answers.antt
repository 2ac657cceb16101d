use Rattle.p21_text.specs.Tokens.{placed}
use Rattle.p21_tree.specs.Parts.{Closed, Arguments, Terminal}
use Rattle.p21_text.specs.Spelling as token
use Rattle.p21_tree.specs.Plain.{plain_all}
use Rattle.p21_tree.specs.Progress.{Fails}
use Rattle.p21_tree.proofs.ProgressLemmas.{fails_first}
use Rattle.p21_tree.proofs.PartLemmas.{some_closed}
use Rattle.p21_tree.proofs.ArgumentLemmas.{covers_arguments, fails_arguments}
use Rattle.p21_tree.proofs.ExitLemmas.{exit_fault, result_ok, result_fault}
use Rattle.p21_tree.proofs.arguments.arguments.Goals as goal

pub returns-in_err-open-clause-fault : goal.returns-in_err-open-clause-fault
returns-in_err-open-clause-fault c =
    exit_fault c.from_residual.result (Fails Arguments c.args.left c.args.source c.args.at) c.in_err-open.field-0.0 c.from_residual.ensures.1
    (fails_first (Terminal token.lparen) Closed c.args.left c.args.source c.args.at c.in_err-open.field-0.0 (some_closed c.args.left) (c.in_err-open.ensures.fault c.args.left))

pub returns-clause-ok : goal.returns-clause-ok
returns-clause-ok c =
    result_ok c.parameters.result _ _ (λ r h. covers_arguments c.args.source c.args.at r.1 c.args.left (placed c.in_ok-open.open) (plain_all r.0) c.in_ok-open.ensures.first c.in_ok-open.ensures.terminal h) c.parameters.ensures.ok

pub returns-clause-fault : goal.returns-clause-fault
returns-clause-fault c =
    result_fault c.parameters.result (Fails Closed c.args.left c.args.source c.in_ok-open.open.after) (Fails Arguments c.args.left c.args.source c.args.at) (λ f h. fails_arguments c.args.source c.args.at c.args.left (placed c.in_ok-open.open) f c.in_ok-open.ensures.first c.in_ok-open.ensures.terminal h) c.parameters.ensures.fault
