use Rattle.std.proofs.Common.{drop}
use Rattle.p21_check.specs.Repeats.{HasTwice}
use Rattle.p21_check.specs.RepeatedNames.{names_of}
use Rattle.p21_check.proofs.TwiceLemmas.{IsRising}
use Rattle.p21_check.proofs.repeated_names.rises.Given as goal

-- the names are different where those that are left rise from the last
abbrev pub invariant-loop-element : goal.invariant-loop-element
invariant-loop-element l = IsRising l.last (names_of (drop l.element-index l.elements)) → ¬ (HasTwice (names_of l.elements))
