use Rattle.std.proofs.Common.{take}
use Rattle.p21_express.specs.WellFormed.{IsIn}
use Rattle.p21_express.proofs.AgainLemmas.{new_derived_of}
use Rattle.p21_express.proofs.checks.owners.derives.Given as goal

abbrev pub invariant-loop-derived : goal.invariant-loop-derived
invariant-loop-derived l = ¬ (IsIn (new_derived_of (take l.derived-index l.entity.derived.items)) l.name)
