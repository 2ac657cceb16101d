use Rattle.std.proofs.Common.{take}
use Rattle.p21_express.specs.WellFormed.{IsIn}
use Rattle.p21_express.proofs.AgainLemmas.{new_explicit_of}
use Rattle.p21_express.proofs.checks.owners.declares.Given as goal

abbrev pub invariant-loop-attribute : goal.invariant-loop-attribute
invariant-loop-attribute l = ¬ (IsIn (new_explicit_of (take l.attribute-index l.entity.attributes.items)) l.name)
