use Rattle.std.proofs.Common.{map, refl}
use Rattle.p21_tree.specs.Views.{plain_preface, plain_instance}
use Rattle.p21_tree.specs.Fault.{files}
use Rattle.p21_tree.specs.Texts.{HasFault}
use Rattle.p21_tree.specs.Parts.{Files}
use Rattle.p21_tree.specs.Progress.{Fails}
use Rattle.p21_tree.proofs.ExitLemmas.{result_ok, result_fault}
use Rattle.p21_tree.proofs.ReaderLemmas.{in_files, is_file}
use Rattle.p21_tree.proofs.readers.read_whole.Goals as goal

pub returns-clause-ok : goal.returns-clause-ok
returns-clause-ok c = result_ok c.whole.result _ _ (λ r h. is_file _ (plain_preface r.0) (map plain_instance r.1.items) refl h) c.whole.ensures.ok

pub returns-clause-fault : goal.returns-clause-fault
returns-clause-fault c = result_fault c.whole.result (Fails Files 64 _ 0) (HasFault files c.args.file.now 0) (λ f h. in_files _ f refl h) c.whole.ensures.fault
