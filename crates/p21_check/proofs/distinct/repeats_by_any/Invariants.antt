use Rattle.std.proofs.Common.{◌↔◌, List, drop}
use Rattle.p21_tree.specs.Plain.{plain}
use Rattle.p21_schema.specs.Declaration.{Declaration, AreResolvedIn}
use Rattle.p21_check.specs.Sets.{HasEntity, AnyIn, RepeatsCounting}
use Rattle.p21_check.proofs.distinct.repeats_by_any.Given as goal

-- some declaration is such where one of those that are left is
abbrev pub invariant-loop-declaration : goal.invariant-loop-declaration
invariant-loop-declaration l = (ds : List Declaration) → AreResolvedIn l.schema l.declarations ds → AnyIn (drop l.declaration-index ds) (RepeatsCounting l.schema (HasEntity l.schema l.set) ds (plain l.param)) ↔ AnyIn ds (RepeatsCounting l.schema (HasEntity l.schema l.set) ds (plain l.param))
