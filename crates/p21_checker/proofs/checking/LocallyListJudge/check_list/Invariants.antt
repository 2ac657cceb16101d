use Rattle.std.proofs.Common.{◌∷◌, take}
use Rattle.p21_checker.specs.Checked.{AreStated}
use Rattle.p21_checker.proofs.checking.LocallyListJudge.check_list.Given as goal

-- this is said of the first piece and of those that were looked at
abbrev pub invariant-loop-piece : goal.invariant-loop-piece
invariant-loop-piece l = AreStated l.self.schema.now (l.fn.list.first ∷ take l.piece-index l.piece-items) l.checked
