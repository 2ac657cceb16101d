use Rattle.std.proofs.Common.{List, drop}
use Rattle.p21_tree.specs.Views.{plain_instance}
use Rattle.p21_schema.specs.Declaration.{Declaration, AreResolvedIn}
use Rattle.p21_schema.specs.Place.{entity_name}
use Rattle.p21_json.specs.Where.{IsDeclaredBelow}
use Rattle.p21_json.proofs.attributes.is_declared_below.Given as goal

-- one that is such is among those that are left
abbrev pub invariant-loop-declaration : goal.invariant-loop-declaration
invariant-loop-declaration l =
    (ds : List Declaration) → AreResolvedIn l.schema l.declarations ds → IsDeclaredBelow l.schema (plain_instance l.instance) ds (entity_name l.schema l.entity) → IsDeclaredBelow l.schema (plain_instance l.instance) (drop l.declaration-index ds) (entity_name l.schema l.entity)
