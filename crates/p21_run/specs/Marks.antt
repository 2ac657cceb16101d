-- When a call of a reader or a writer sets its mark.
use Rattle.std.specs.Prelude.{◌&&◌, ℕ, Bool, true, false, nat_eq, not, List, length, Result, Ok, Err}
use Rattle.p21_run.specs.declared.source.IoFault.{IoFault}
use Rattle.p21_run.specs.declared.source.IoFault.TheVariants as fault

-- a fault was answered
abbrev pub is_fault : {E : Type 0} → Result ℕ E → Bool
is_fault (Ok count) = false
is_fault (Err e) = true

-- a fault was answered, or no byte of some was taken
abbrev pub is_fault_or_nothing : {E : Type 0} → Result ℕ E → List ℕ → Bool
is_fault_or_nothing (Ok count) from = nat_eq count 0 && not (nat_eq (length from) 0)
is_fault_or_nothing (Err e) from = true

-- a fault was answered that was no interruption
abbrev pub is_failure : Result ℕ IoFault → Bool
is_failure (Ok count) = false
is_failure (Err fault.Interrupted) = false
is_failure (Err fault.Failed) = true
