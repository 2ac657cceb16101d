use Rattle.std.proofs.Common.{map, take}
use Rattle.p21_tree.specs.Views.{plain_instance}
use Rattle.p21_rules.specs.Counters.{CountAll}
use Rattle.p21_rules.proofs.inverse.count_all.Given as goal

-- each rule counted the instances so far
abbrev pub invariant-loop-place : goal.invariant-loop-place
invariant-loop-place l = CountAll l.schema l.rules l.all.items (λ k. map plain_instance (take l.place l.instances))
