use Rattle.std.proofs.Common.{List}
use Rattle.p21_tree.specs.Plain.{plain}
use Rattle.p21_schema.specs.Declaration.{Declaration, AreResolvedIn}
use Rattle.p21_check.specs.Sets.{HasEntity}
use Rattle.p21_check.specs.Wanted.{Asks, IsAsked}
use Rattle.p21_check.proofs.AskedLemmas.{AskedUpTo, Best}
use Rattle.p21_check.proofs.asked.against_each.Given as goal

-- the first fault against the declarations before this one, and the best of these
abbrev pub invariant-loop-declaration : goal.invariant-loop-declaration
invariant-loop-declaration g l =
    IsAsked l.schema l.wanted
    × ((ds : List Declaration) → AreResolvedIn l.schema l.declarations ds → Best l.schema (g.J.NameJudge.named l.judge) (AskedUpTo l.schema (HasEntity l.schema l.set) ds l.declaration-index (plain l.param)) (Asks l.schema l.wanted (plain l.param)) l.first)
