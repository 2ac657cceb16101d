use Rattle.std.proofs.Common.{◌↔◌, List, drop}
use Rattle.p21_schema.specs.Declaration.{Declaration, AreResolvedIn}
use Rattle.p21_check.specs.Sets.{HasEntity, AnyIn, IsAgainBelow}
use Rattle.p21_schema.specs.Place.{entity_name}
use Rattle.p21_check.proofs.slot.is_again_below.Given as goal

-- some declaration is such where one of those that are left is
abbrev pub invariant-loop-declaration : goal.invariant-loop-declaration
invariant-loop-declaration l = (ds : List Declaration) → AreResolvedIn l.schema l.declarations ds → AnyIn (drop l.declaration-index ds) (IsAgainBelow l.schema (HasEntity l.schema l.set) (entity_name l.schema l.entity)) ↔ AnyIn ds (IsAgainBelow l.schema (HasEntity l.schema l.set) (entity_name l.schema l.entity))
