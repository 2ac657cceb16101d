use Rattle.p21_tree.specs.Texts.{HasPrefaceFault}
use Rattle.p21_reader.specs.LocalFault.{IsOpeningFault}
use Rattle.p21_reader.specs.LocalFault as fault
use Rattle.p21_reader.proofs.ExitLemmas.{exit_tree}
use Rattle.p21_reader.proofs.preface.checked_preface.Goals as goal

pub returns-in_err-preface-clause-fault : goal.returns-in_err-preface-clause-fault
returns-in_err-preface-clause-fault c =
    exit_tree (IsOpeningFault c.args.schema.now c.args.file.now) c.from_residual.result c.in_err-preface.field-0.0 (HasPrefaceFault c.args.file.now) c.from_residual.ensures.1 (λ f h. fault.in_preface h) c.in_err-preface.ensures.fault

pub returns-clause-fault : goal.returns-clause-fault
returns-clause-fault c = fault.in_header c.in_ok-preface.ensures.ok c.in-Err.ensures
