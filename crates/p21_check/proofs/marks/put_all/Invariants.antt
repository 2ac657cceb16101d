use Rattle.std.proofs.Common.{◌≡◌, length, take}
use Rattle.p21_check.specs.Marks.{AreAdded}
use Rattle.p21_check.proofs.marks.put_all.Given as goal

-- those so far are marked, beside those that were
abbrev pub invariant-loop-entity : goal.invariant-loop-entity
invariant-loop-entity l = record {
  long : length l.marks ≡ length l.fn.marks;
  added : AreAdded l.fn.marks l.marks (take l.entity-index l.entities);
}
