use Rattle.std.proofs.Common.{◌↔◌, List, drop}
use Rattle.p21_tree.specs.Plain.{plain}
use Rattle.p21_schema.specs.Declaration.{Declaration, AreResolvedIn}
use Rattle.p21_check.specs.Sets.{HasEntity, EachIn, FitsCounting}
use Rattle.p21_check.proofs.slot.fits_each.Given as goal

-- each declaration is fit where each of those that are left is
abbrev pub invariant-loop-declaration : goal.invariant-loop-declaration
invariant-loop-declaration l = (ds : List Declaration) → AreResolvedIn l.schema l.declarations ds → EachIn (drop l.declaration-index ds) (FitsCounting l.schema (HasEntity l.schema l.set) ds (plain l.param)) ↔ EachIn ds (FitsCounting l.schema (HasEntity l.schema l.set) ds (plain l.param))
