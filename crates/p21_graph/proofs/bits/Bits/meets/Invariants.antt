use Rattle.std.proofs.Common.{◌<◌, ◌/◌, ℕ}
use Rattle.p21_graph.specs.Bits.{Holds}
use Rattle.p21_graph.proofs.bits.Bits.meets.Given as goal

abbrev pub invariant-loop-place : goal.invariant-loop-place
invariant-loop-place l = (c : ℕ) → c / 64 < l.place → Holds l.self l.row c → ¬ (Holds l.other l.other_row c)
