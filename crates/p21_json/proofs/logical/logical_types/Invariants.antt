use Rattle.std.proofs.Common.{◌≡◌, length}
use Rattle.p21_json.specs.Flags.{AreSound, missing}
use Rattle.p21_json.proofs.logical.logical_types.Given as goal

abbrev pub invariant-loop-types : goal.invariant-loop-types
invariant-loop-types l = (length l.flags.items ≡ length l.schema.types) × AreSound l.schema l.flags.items

abbrev pub decreases-loop-types : goal.decreases-loop-types
decreases-loop-types l = missing l.flags.items
