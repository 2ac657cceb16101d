use Rattle.std.proofs.Common.{◌↔◌, ◌<◌, ℕ, drop}
use Rattle.p21_check.specs.LocalFault.{HasWrongCount}
use Rattle.p21_check.specs.Sets.{EachIn}
use Rattle.p21_check.specs.Instances.{HasRightCount, complex_instance}
use Rattle.p21_check.proofs.complex.first_wrong_count.Given as goal

-- each record so far has the right count
abbrev pub invariant-loop-k : goal.invariant-loop-k
invariant-loop-k l = record {
  none : (name at b : ℕ) → b < l.k → ¬ (HasWrongCount l.schema (complex_instance name at l.records) b);
  right : EachIn (drop l.k l.records) (HasRightCount l.schema) ↔ EachIn l.records (HasRightCount l.schema);
}
