use Rattle.std.proofs.Common.{◌↔◌, drop}
use Rattle.p21_check.specs.Repeats.{HasTwice}
use Rattle.p21_check.specs.RepeatedNames.{names_of}
use Rattle.p21_check.proofs.repeated_names.repeats_among.Given as goal

-- a name stands twice where it does so among the elements that are left
abbrev pub invariant-loop-position : goal.invariant-loop-position
invariant-loop-position l = HasTwice (names_of (drop l.position l.elements)) ↔ HasTwice (names_of l.elements)
