use Rattle.std.proofs.Common.{refl}
use Rattle.p21_tree.specs.Views.{plain_preface}
use Rattle.p21_tree.specs.Texts.{HasPrefaceFault}
use Rattle.p21_tree.specs.Parts.{Prefaces}
use Rattle.p21_tree.specs.Progress.{Fails}
use Rattle.p21_tree.proofs.ExitLemmas.{exit_error}
use Rattle.p21_tree.proofs.ReaderLemmas.{in_preface, begins_preface}
use Rattle.p21_tree.proofs.readers.read_preface.Goals as goal

pub returns-in_err-read-clause-fault : goal.returns-in_err-read-clause-fault
returns-in_err-read-clause-fault c =
    exit_error c.from_residual.result (Fails Prefaces 64 _ 0) (HasPrefaceFault c.args.file.now) c.in_err-read.field-0.0 c.from_residual.ensures.1
    (λ f h. in_preface _ f refl h) c.in_err-read.ensures.fault

pub returns-clause-ok : goal.returns-clause-ok
returns-clause-ok c = begins_preface _ c.in_ok-read._after (plain_preface c.in_ok-read.read) refl c.in_ok-read.ensures.data_at c.in_ok-read.ensures.ok
