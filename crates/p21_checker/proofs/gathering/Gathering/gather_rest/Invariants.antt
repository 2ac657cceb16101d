use Rattle.std.proofs.Common.{◌≡◌, ◌≢◌, ◌⊎◌, ◌++◌, [], List, map}
use Rattle.std.specs.Vec.Iter.{into_iter_items, into_iter_len}
use Rattle.p21_outline.specs.declared.outline_list.OutlineList.{OutlineList}
use Rattle.p21_reader.specs.Values.{Value}
use Rattle.p21_checker.specs.Begin.{BeginWithFault}
use Rattle.p21_checker.specs.Checked.{value_of}
use Rattle.p21_checker.specs.Gathering.{HasGathered}
use Rattle.p21_checker.proofs.gathering.Gathering.gather_rest.Given as goal

-- some values are gathered, after which those that are left make up all
abbrev pub invariant-loop-one : goal.invariant-loop-one
invariant-loop-one l =
    (vs : List Value) (ls : List OutlineList) → BeginWithFault l.fn.rest.items → HasGathered l.fn.self vs ls
    → (done : List Value) × (done ++ map value_of (into_iter_items l.left) ≡ vs ++ map value_of l.fn.rest.items) × HasGathered l.self done ls × ((l.self.faults.items ≢ []) ⊎ BeginWithFault (into_iter_items l.left))

-- each turn gathers one
abbrev pub decreases-loop-one : goal.decreases-loop-one
decreases-loop-one l = into_iter_len l.left
