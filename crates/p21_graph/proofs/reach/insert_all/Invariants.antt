use Rattle.std.proofs.Common.{◌≡◌, ◌↔◌, ◌⊎◌, ℕ, take}
use Rattle.p21_graph.specs.Bits.{Holds, IsLike}
use Rattle.p21_graph.specs.Members.{IsIn}
use Rattle.p21_graph.proofs.reach.insert_all.Given as goal

abbrev pub invariant-loop-column : goal.invariant-loop-column
invariant-loop-column l = record {
  size : IsLike l.fn.table l.table;
  holds : (r c : ℕ) → Holds l.table r c ↔ (Holds l.fn.table r c ⊎ ((r ≡ l.row) × IsIn (take l.column-index l.columns) c));
}
