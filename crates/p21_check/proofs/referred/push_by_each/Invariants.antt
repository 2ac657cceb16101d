use Rattle.std.proofs.Common.{List}
use Rattle.p21_tree.specs.Plain.{plain}
use Rattle.p21_schema.specs.Declaration.{Declaration, AreResolvedIn}
use Rattle.p21_check.specs.Referred.{Adds, Somewhere}
use Rattle.p21_check.specs.Sets.{HasEntity}
use Rattle.p21_check.proofs.AskedLemmas.{AskedUpTo}
use Rattle.p21_check.proofs.referred.push_by_each.Given as goal

-- what the declarations before this one ask for is added
abbrev pub invariant-loop-declaration : goal.invariant-loop-declaration
invariant-loop-declaration l =
    (ds : List Declaration) → AreResolvedIn l.schema l.declarations ds →
    Adds l.schema (Somewhere (AskedUpTo l.schema (HasEntity l.schema l.set) ds l.declaration-index (plain l.param))) l.initial.into.items l.into.items
