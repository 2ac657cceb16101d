-- The references that are left to count.
use Rattle.std.proofs.Common.{◌≡◌, ℕ, ◌+◌, ◌^◌, ◌<◌, ◌≤◌, List, length, drop, map, ap, arith}
use Rattle.std.proofs.lemmas.List.{drop_all}
use Rattle.p21_tree.specs.declared.instances.RawInstance.{RawInstance}
use Rattle.p21_join.specs.Model.{plain_instances}
use Rattle.p21_counts.specs.Counts.{capped, reference_count}

abbrev pub left_in : List RawInstance → ℕ → ℕ
left_in is k = reference_count (plain_instances (drop k is))

pub all_counted : (is : List RawInstance) (k sum : ℕ) → length is ≤ k → sum < 2 ^ 64 → capped (sum + left_in is k) ≡ sum
all_counted is k sum h small =
    let none : left_in is k ≡ 0 = ap (λ l. reference_count (plain_instances l)) (drop_all k is h) in omega arith
