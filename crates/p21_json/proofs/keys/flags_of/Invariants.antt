use Rattle.std.proofs.Common.{◌≡◌, length}
use Rattle.p21_json.specs.Keys.{AreFlags}
use Rattle.p21_json.proofs.keys.flags_of.Given as goal

abbrev pub invariant-loop-position : goal.invariant-loop-position
invariant-loop-position l = (length l.flags.items ≡ l.position) × AreFlags l.schema l.entity l.flags.items
