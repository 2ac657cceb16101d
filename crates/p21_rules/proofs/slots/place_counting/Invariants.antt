use Rattle.std.proofs.Common.{◌↔◌, List, drop}
use Rattle.p21_schema.specs.Declaration.{Declaration, AreResolvedIn}
use Rattle.p21_check.specs.Sets.{AnyIn, CountsAmong}
use Rattle.p21_rules.specs.Slots.{set_of}
use Rattle.p21_rules.proofs.slots.place_counting.Given as goal

-- some declaration is such where one of those that are left is
abbrev pub invariant-loop-place : goal.invariant-loop-place
invariant-loop-place l = (ds : List Declaration) → AreResolvedIn l.fn.slot.schema.now l.fn.slot.declarations.now ds → AnyIn (drop l.place ds) (CountsAmong l.fn.slot.schema.now (set_of l.fn.slot) ds) ↔ AnyIn ds (CountsAmong l.fn.slot.schema.now (set_of l.fn.slot) ds)
