use Rattle.p21_tree.specs.Fault.{files, instances, pieces, prefaces, tails}
use Rattle.p21_tree.specs.Parts.{Tails, Prefaces, Instances, Pieces, Files}
use Rattle.p21_tree.proofs.TreeLaws.{none_begins_another, once_files, once_pieces, once_tails, preface_language, instance_language}
use Rattle.p21_tree.proofs.PartLemmas.{once_prefaces, once_instances}
use Rattle.p21_tree.proofs.Sentences.{file_into, piece_into, tail_into}
use Rattle.p21_tree.proofs.laws.one_beginning.Goals as goal

pub returns : goal.returns
returns c = record {
  of_files = none_begins_another files Files file_into once_files;
  of_prefaces = none_begins_another prefaces Prefaces preface_language once_prefaces;
  of_instances = none_begins_another instances Instances instance_language once_instances;
  of_pieces = none_begins_another pieces Pieces piece_into once_pieces;
  of_tails = none_begins_another tails Tails tail_into once_tails;
}
