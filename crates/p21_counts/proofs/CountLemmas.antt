-- Sums that stop at their greatest value.
use Rattle.std.proofs.Common.{◌≡◌, ℕ, ◌+◌, ◌-◌, ◌^◌, ◌<◌, ◌≤◌, List, length, drop, map, ap, ◌∙◌, arith}
use Rattle.std.proofs.lemmas.List.{drop_all}
use Rattle.p21_tree.specs.declared.params.Param.{Param}
use Rattle.p21_tree.specs.declared.instances.Record.{Record}
use Rattle.p21_tree.specs.Plain.{plain_all}
use Rattle.p21_tree.specs.Views.{plain_record}
use Rattle.p21_counts.specs.Counts.{capped, record_references}
use Rattle.p21_check.specs.References.{names_count}

-- the references that are left to count
abbrev pub left_in : List Param → ℕ → ℕ
left_in ps i = names_count (plain_all (drop i ps))

pub list_all : (ps : List Param) (i sum : ℕ) → length ps ≤ i → sum < 2 ^ 64 → capped (sum + left_in ps i) ≡ sum
list_all ps i sum h small =
    let none : left_in ps i ≡ 0 = ap (λ l. names_count (plain_all l)) (drop_all i ps h) in omega arith

-- the same of the records of an instance
abbrev pub left_of : List Record → ℕ → ℕ
left_of rs i = record_references (map plain_record (drop i rs))

pub records_all : (rs : List Record) (i sum : ℕ) → length rs ≤ i → sum < 2 ^ 64 → capped (sum + left_of rs i) ≡ sum
records_all rs i sum h small =
    let none : left_of rs i ≡ 0 = ap (λ l. record_references (map plain_record l)) (drop_all i rs h) in omega arith
