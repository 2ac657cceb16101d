use Rattle.std.proofs.Common.{◌≡◌, ◌++◌, drop}
use Rattle.p21_check.specs.RepeatedNames.{names_of}
use Rattle.p21_check.proofs.repeated_names.names_among.Given as goal

-- the names so far, and those that are left
abbrev pub invariant-loop-element : goal.invariant-loop-element
invariant-loop-element l = l.names.items ++ names_of (drop l.element-index l.elements) ≡ names_of l.elements
