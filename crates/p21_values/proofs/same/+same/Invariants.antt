use Rattle.std.proofs.Common.{◌≡◌, ◌+◌, ◌*◌, ◌<◌, IfSome, drop, length, map}
use Rattle.p21_values.specs.Logic.{and_of}
use Rattle.p21_values.specs.Plain.{plain, plain_all}
use Rattle.p21_values.specs.Same.{AreBelow, at_places, counted_same, ordered_same, same_of}
use Rattle.p21_values.proofs.SameLemmas.{Looked}
use Rattle.p21_values.proofs.same.+same.Given as goal

abbrev pub decreases-same : goal.decreases-same
decreases-same g l = 5 * l.depth

abbrev pub decreases-same_elements : goal.decreases-same_elements
decreases-same_elements g l = 5 * l.depth + 3

abbrev pub decreases-ordered_same : goal.decreases-ordered_same
decreases-ordered_same g l = 5 * l.depth + 2

abbrev pub decreases-counted_same : goal.decreases-counted_same
decreases-counted_same g l = 5 * l.depth + 2

abbrev pub decreases-partner : goal.decreases-partner
decreases-partner g l = 5 * l.depth + 1

abbrev pub invariant-ordered_same-loop-i : goal.invariant-ordered_same-loop-i
invariant-ordered_same-loop-i g l =
    g.I.Instances.known l.instances →
    and_of l.all (ordered_same (g.I.Instances.same l.instances) (plain_all (drop l.i l.vs)) (map plain (drop l.i l.ws)))
    ≡ ordered_same (g.I.Instances.same l.instances) (plain_all l.vs) (map plain l.ws)

abbrev pub invariant-counted_same-loop-v : goal.invariant-counted_same-loop-v
invariant-counted_same-loop-v g l =
    (g.I.Instances.known l.instances → and_of l.all (counted_same (g.I.Instances.same l.instances) (plain_all (drop l.v-index l.vs)) (at_places (map plain l.ws) l.left.items))
    ≡ counted_same (g.I.Instances.same l.instances) (plain_all l.vs) (map plain l.ws))
    × AreBelow (length l.ws) l.left.items

abbrev pub invariant-partner-loop-i : goal.invariant-partner-loop-i
invariant-partner-loop-i g l =
    (g.I.Instances.known l.instances → Looked (same_of (g.I.Instances.same l.instances) (plain l.v)) (at_places (map plain l.ws) l.left) l.possible l.i)
    × IfSome l.possible (λ i. i < length l.left)
