use Rattle.std.proofs.Common.{[], sym}
use Rattle.p21_express.specs.Index.{IsTypeAt}
use Rattle.p21_express.proofs.PositionLemmas.{no_positions, position_add}
use Rattle.p21_express.proofs.checks.cycles.type_alone.Goals as goal

pub returns : goal.returns
returns c = λ s h. rw (sym c.in-Some.ensures, c.in_ok-add.ensures, c.new-found.ensures.items) (rw c.deref.ensures.value at (position_add (IsTypeAt s) [] c.deref.result.now [] c.type_at.result (c.type_at.ensures s h) (no_positions (IsTypeAt s))))
