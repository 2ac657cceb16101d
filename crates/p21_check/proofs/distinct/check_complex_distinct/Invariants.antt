use Rattle.std.proofs.Common.{◌<◌, ℕ}
use Rattle.p21_check.specs.LocalFault.{HasRepeatedReference}
use Rattle.p21_check.specs.Instances.{complex_instance}
use Rattle.p21_check.proofs.distinct.check_complex_distinct.Given as goal

-- no record so far has a repeated reference
abbrev pub invariant-loop-rec : goal.invariant-loop-rec
invariant-loop-rec l = (name at q b : ℕ) → q < l.rec → ¬ (HasRepeatedReference l.schema (complex_instance name at l.records) q b)
