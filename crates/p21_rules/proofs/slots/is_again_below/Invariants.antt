use Rattle.std.proofs.Common.{◌↔◌, List, drop}
use Rattle.p21_schema.specs.Declaration.{Declaration, AreResolvedIn}
use Rattle.p21_check.specs.Sets.{AnyIn, IsAgainBelow}
use Rattle.p21_schema.specs.Place.{entity_name}
use Rattle.p21_rules.specs.Slots.{set_of}
use Rattle.p21_rules.proofs.slots.is_again_below.Given as goal

-- some declaration is such where one of those that are left is
abbrev pub invariant-loop-declaration : goal.invariant-loop-declaration
invariant-loop-declaration l = (ds : List Declaration) → AreResolvedIn l.fn.slot.schema.now l.fn.slot.declarations.now ds → AnyIn (drop l.declaration-index ds) (IsAgainBelow l.fn.slot.schema.now (set_of l.fn.slot) (entity_name l.fn.slot.schema.now l.fn.entity)) ↔ AnyIn ds (IsAgainBelow l.fn.slot.schema.now (set_of l.fn.slot) (entity_name l.fn.slot.schema.now l.fn.entity))
