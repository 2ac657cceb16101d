use Rattle.std.proofs.Common.{List, map, take}
use Rattle.std.specs.List.{AllByRecursion}
use Rattle.p21_schema.specs.Declaration.{AreResolvedIn, Chosen, Declaration}
use Rattle.p21_schema.specs.Place.{IsEntityOf, entity_name}
use Rattle.p21_rule_text.specs.Resolve.{DerivesElsewhere}
use Rattle.p21_rule_text.proofs.redeclared.derivers.Given as goal

abbrev pub invariant-loop-declaration : goal.invariant-loop-declaration
invariant-loop-declaration l = record {
  chosen : (ds : List Declaration) → AreResolvedIn l.schema l.declaration-items ds → Chosen (DerivesElsewhere l.schema l.entity) (λ d. d.entity) (take l.declaration-index ds) (map (entity_name l.schema) l.found.items);
  known : AllByRecursion (IsEntityOf l.schema) l.found.items;
}
