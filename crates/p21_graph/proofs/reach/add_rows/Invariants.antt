use Rattle.std.proofs.Common.{◌≡◌, ◌↔◌, ◌⊎◌, ℕ, take}
use Rattle.p21_graph.specs.Bits.{Holds, IsLike}
use Rattle.p21_graph.specs.Reach.{SomeHolds}
use Rattle.p21_graph.proofs.reach.add_rows.Given as goal

abbrev pub invariant-loop-other : goal.invariant-loop-other
invariant-loop-other l = record {
  size : IsLike l.fn.table l.table;
  holds : (r c : ℕ) → Holds l.table r c ↔ (Holds l.fn.table r c ⊎ ((r ≡ l.row) × SomeHolds l.fn.table (take l.other-index l.from) c));
}
