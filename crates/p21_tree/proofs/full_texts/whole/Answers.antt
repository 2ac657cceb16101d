use Rattle.std.proofs.Common.{map}
use Rattle.p21_tree.specs.Views.{plain_preface, plain_instance}
use Rattle.p21_tree.specs.Parts.{Bodies, Prefaces, Files}
use Rattle.p21_tree.specs.Progress.{Fails}
use Rattle.p21_tree.proofs.ExitLemmas.{exit_error}
use Rattle.p21_tree.proofs.ReaderLemmas.{finishes_file, fails_body, fails_opening}
use Rattle.p21_tree.proofs.full_texts.whole.Goals as goal

pub returns-in_err-opening-clause-fault : goal.returns-in_err-opening-clause-fault
returns-in_err-opening-clause-fault c =
    exit_error c.from_residual.result (Fails Prefaces 64 c.args.source 0) (Fails Files 64 c.args.source 0) c.in_err-opening.field-0.0 c.from_residual.ensures.1
    (fails_opening c.args.source) c.in_err-opening.ensures.fault

pub returns-in_err-body-clause-fault : goal.returns-in_err-body-clause-fault
returns-in_err-body-clause-fault c =
    exit_error c.from_residual-in_err-body.result (Fails Bodies 64 c.args.source c.in_ok-opening.data_at) (Fails Files 64 c.args.source 0) c.in_err-body.field-0.0 c.from_residual-in_err-body.ensures.1
    (λ f h. fails_body c.args.source c.in_ok-opening.data_at (plain_preface c.in_ok-opening.opening) f c.in_ok-opening.ensures.ok h) c.in_err-body.ensures.fault

pub returns-clause-ok : goal.returns-clause-ok
returns-clause-ok c =
    finishes_file c.args.source c.in_ok-opening.data_at (plain_preface c.in_ok-opening.opening) (map plain_instance c.in_ok-body.body.items) c.in_ok-opening.ensures.ok c.in_ok-body.ensures.ok
