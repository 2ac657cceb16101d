use Rattle.std.proofs.Common.{◌≡◌, ◌<◌, ℕ, true, false, get_or}
use Rattle.p21_schema.specs.Place.{no_type}
use Rattle.p21_json.specs.Flags.{IsFlaggedUnder}
use Rattle.p21_json.proofs.logical.flag_next.Given as goal

abbrev pub invariant-loop-place : goal.invariant-loop-place
invariant-loop-place l = (l.flags.items ≡ l.initial.flags.items) × ((k : ℕ) → k < l.place → IsFlaggedUnder l.schema l.flags.items (get_or l.schema.types k no_type).under → get_or l.flags.items k false ≡ true)
