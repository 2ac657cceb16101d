use Rattle.std.proofs.Common.{◌<◌, ℕ}
use Rattle.p21_check.specs.LocalFault.{HasBadAttribute}
use Rattle.p21_check.specs.Instances.{complex_instance}
use Rattle.p21_check.proofs.complex.first_bad_attribute.Given as goal

-- each record so far has only parameters that fit
abbrev pub invariant-loop-k : goal.invariant-loop-k
invariant-loop-k l = (name at q b : ℕ) → q < l.k → ¬ (HasBadAttribute l.schema (complex_instance name at l.records) q b)
