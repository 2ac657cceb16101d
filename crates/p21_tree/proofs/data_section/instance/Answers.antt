use Rattle.std.proofs.Common.{◌+◌, map}
use Rattle.p21_text.specs.Spelling as token
use Rattle.p21_text.specs.Tokens.{placed}
use Rattle.p21_tree.specs.Views.{plain_record}
use Rattle.p21_tree.specs.Parts.{Terminal, Form, FormOn, EqualsOn}
use Rattle.p21_tree.specs.Progress.{Fails}
use Rattle.p21_tree.proofs.PartLemmas.{some_form_on}
use Rattle.p21_tree.proofs.ProgressLemmas.{fails_first}
use Rattle.p21_tree.proofs.DataLemmas.{fails_form, fails_semi, covers_instance}
use Rattle.p21_tree.proofs.ExitLemmas.{exit_fault, exit_error}
use Rattle.p21_tree.proofs.data_section.instance.Goals as goal

pub returns-in_err-equals-clause-fault : goal.returns-in_err-equals-clause-fault
returns-in_err-equals-clause-fault c =
    exit_fault c.from_residual.result (Fails EqualsOn 64 c.args.source c.args.at) c.in_err-equals.field-0.0 c.from_residual.ensures.1
    (fails_first (Terminal token.equals) FormOn 64 c.args.source c.args.at c.in_err-equals.field-0.0 (some_form_on 63) (c.in_err-equals.ensures.fault 64))

pub returns-in_err-body-clause-fault : goal.returns-in_err-body-clause-fault
returns-in_err-body-clause-fault c =
    exit_error c.from_residual-in_err-body.result (Fails Form 64 c.args.source c.in_ok-equals.equals.after) (Fails EqualsOn 64 c.args.source c.args.at) c.in_err-body.field-0.0 c.from_residual-in_err-body.ensures.1
    (fails_form c.args.source c.args.at (placed c.in_ok-equals.equals) c.in_ok-equals.ensures.first c.in_ok-equals.ensures.terminal) c.in_err-body.ensures.fault

pub returns-in_err-semi-clause-fault : goal.returns-in_err-semi-clause-fault
returns-in_err-semi-clause-fault c =
    exit_fault c.from_residual-in_err-semi.result (Fails EqualsOn 64 c.args.source c.args.at) c.in_err-semi.field-0.0 c.from_residual-in_err-semi.ensures.1
    (fails_semi c.args.source c.args.at (placed c.in_ok-equals.equals) c.in_ok-equals.ensures.first c.in_ok-equals.ensures.terminal c.in_ok-body.body.after c.in_ok-body.body.complex (map plain_record c.in_ok-body.body.records) c.in_err-semi.field-0.0 c.in_ok-body.ensures.ok (c.in_err-semi.ensures.fault 64))

pub returns-clause-ok : goal.returns-clause-ok
returns-clause-ok c =
    covers_instance c.args.source c.args.at (placed c.in_ok-equals.equals) c.in_ok-equals.ensures.first c.in_ok-equals.ensures.terminal c.in_ok-body.body.after c.args.name (c.args.source.base + c.args.start) c.in_ok-body.body.complex (map plain_record c.in_ok-body.body.records) (placed c.in_ok-semi.semi) c.in_ok-body.ensures.ok c.in_ok-semi.ensures.first c.in_ok-semi.ensures.terminal
