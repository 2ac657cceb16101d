use Rattle.std.proofs.Common.{◌↔◌, drop}
use Rattle.p21_express.specs.WellFormed.{IsIn}
use Rattle.p21_check.specs.RepeatedNames.{names_of}
use Rattle.p21_check.proofs.repeated_names.is_among.Given as goal

-- one is the name where one of those that are left is
abbrev pub invariant-loop-element : goal.invariant-loop-element
invariant-loop-element l = IsIn (names_of (drop l.element-index l.elements)) l.name ↔ IsIn (names_of l.elements) l.name
