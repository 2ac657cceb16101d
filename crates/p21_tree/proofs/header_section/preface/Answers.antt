use Rattle.std.proofs.Common.{◌+◌, map}
use Rattle.p21_tree.specs.Views.{plain_entity}
use Rattle.p21_tree.specs.Parts.{HeaderRest, Prefaces}
use Rattle.p21_tree.specs.Progress.{Fails}
use Rattle.p21_tree.proofs.ExitLemmas.{exit_fault, exit_error}
use Rattle.p21_tree.proofs.HeaderLemmas.{fails_header_rest, covers_preface}
use Rattle.p21_tree.proofs.header_section.preface.Goals as goal

pub returns-in_err-header_at-clause-fault : goal.returns-in_err-header_at-clause-fault
returns-in_err-header_at-clause-fault c =
    exit_fault c.from_residual.result (Fails Prefaces 64 c.args.source 0) c.in_err-header_at.field-0.0 c.from_residual.ensures.1 c.in_err-header_at.ensures.fault

pub returns-in_err-entities-clause-fault : goal.returns-in_err-entities-clause-fault
returns-in_err-entities-clause-fault c =
    exit_error c.from_residual-in_err-entities.result (Fails HeaderRest 64 c.args.source c.in_ok-header_at.body) (Fails Prefaces 64 c.args.source 0) c.in_err-entities.field-0.0 c.from_residual-in_err-entities.ensures.1
    (λ f h. fails_header_rest c.args.source c.in_ok-header_at.body c.in_ok-header_at.header_at f c.in_ok-header_at.ensures.ok h) c.in_err-entities.ensures.fault

pub returns-in_err-after-clause-fault : goal.returns-in_err-after-clause-fault
returns-in_err-after-clause-fault c =
    exit_fault c.from_residual-in_err-after.result (Fails Prefaces 64 c.args.source 0) c.in_err-after.field-0.0 c.from_residual-in_err-after.ensures.1
    (fails_header_rest c.args.source c.in_ok-header_at.body c.in_ok-header_at.header_at c.in_err-after.field-0.0 c.in_ok-header_at.ensures.ok (c.in_ok-entities.ensures.rest c.in_err-after.field-0.0 c.in_err-after.ensures.fault))

pub returns-clause-ok : goal.returns-clause-ok
returns-clause-ok c =
    covers_preface c.args.source c.in_ok-header_at.body c.in_ok-entities.rest c.in_ok-after.after c.in_ok-header_at.header_at (c.args.source.base + c.in_ok-after.after) (map plain_entity c.in_ok-entities.entities.items) c.in_ok-header_at.ensures.ok c.in_ok-entities.ensures.ok c.in_ok-after.ensures.ok
