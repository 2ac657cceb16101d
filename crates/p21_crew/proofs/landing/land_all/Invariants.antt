use Rattle.std.proofs.Common.{◌≡◌, ◌++◌, IsTrue, List}
use Rattle.std.specs.Vec.Iter.{into_iter_items, into_iter_len}
use Rattle.p21_crew.specs.Landing.{AreLanded}
use Rattle.p21_crew.proofs.landing.land_all.Given as goal

-- the lanes that are landed, and after them those that are left
abbrev pub invariant-loop-flight : goal.invariant-loop-flight
invariant-loop-flight g l =
    (landed : List _) × (landed ++ into_iter_items l.left ≡ l.fn.flights.items)
    × (IsTrue l.is_whole → AreLanded g.W.Work.stated landed l.all.receipts.items l.all.returned.items)

-- each turn lands one
abbrev pub decreases-loop-flight : goal.decreases-loop-flight
decreases-loop-flight g l = into_iter_len l.left
