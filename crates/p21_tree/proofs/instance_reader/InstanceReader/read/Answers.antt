use Rattle.std.proofs.Common.{refl}
use Rattle.p21_tree.specs.Views.{plain_instance}
use Rattle.p21_tree.specs.Texts.{HasPieceFault}
use Rattle.p21_tree.specs.Parts.{Pieces}
use Rattle.p21_tree.specs.Progress.{Fails}
use Rattle.p21_tree.proofs.ExitLemmas.{result_ok, result_fault}
use Rattle.p21_tree.proofs.ReaderLemmas.{in_piece, is_piece}
use Rattle.p21_tree.proofs.instance_reader.InstanceReader.read.Goals as goal

pub returns-clause-ok : goal.returns-clause-ok
returns-clause-ok c = result_ok c.single.result _ _ (λ r h. is_piece _ c.args.piece (plain_instance r) refl refl h) c.single.ensures.ok

pub returns-clause-fault : goal.returns-clause-fault
returns-clause-fault c = result_fault c.single.result (Fails Pieces 64 _ 0) (HasPieceFault c.args.piece) (λ f h. in_piece _ c.args.piece f refl refl h) c.single.ensures.fault
