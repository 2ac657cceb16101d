use Rattle.std.proofs.Common.{◌≡◌}
use Rattle.p21_tree.specs.Views.{plain_preface}
use Rattle.p21_check.specs.EntityOf.{AreSimpleEntities}
use Rattle.p21_cut.specs.Cutter.{bytes_left, file_of, place_of}
use Rattle.p21_join.specs.Joined.{joined}
use Rattle.p21_reader.specs.Steps.{IsReadUpTo}
use Rattle.p21_join.specs.Model.{plain_instances}
use Rattle.p21_reader.proofs.preface.join_pieces.Given as goal

abbrev pub invariant-loop-piece : goal.invariant-loop-piece
invariant-loop-piece l = record {
  read : IsReadUpTo l.schema l.file (plain_preface l.preface) (plain_instances (joined l.joiner)) (place_of l.cutter);
  same : file_of l.cutter ≡ l.file;
  known : AreSimpleEntities l.schema (plain_instances (joined l.joiner)) l.entities.items;
}

abbrev pub decreases-loop-piece : goal.decreases-loop-piece
decreases-loop-piece l = bytes_left l.cutter
