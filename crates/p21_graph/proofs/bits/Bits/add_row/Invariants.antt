use Rattle.std.proofs.Common.{◌≡◌, ◌<◌, ◌/◌, ◌↔◌, ◌⊎◌, ℕ}
use Rattle.p21_graph.specs.Bits.{Holds, IsLike}
use Rattle.p21_graph.proofs.bits.Bits.add_row.Given as goal

abbrev pub invariant-loop-place : goal.invariant-loop-place
invariant-loop-place l = record {
  size : IsLike l.fn.self l.self;
  holds : (r c : ℕ) → Holds l.self r c ↔ (Holds l.fn.self r c ⊎ ((r ≡ l.row) × ((c / 64 < l.place) × Holds l.fn.self l.from c)));
}
