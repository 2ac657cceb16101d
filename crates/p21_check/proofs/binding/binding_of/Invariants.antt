use Rattle.std.proofs.Common.{List, take}
use Rattle.p21_schema.specs.Declaration.{Declaration, AreResolvedIn}
use Rattle.p21_check.specs.Bound.{IsBound}
use Rattle.p21_check.specs.Sets.{HasEntity}
use Rattle.p21_check.proofs.binding.binding_of.Given as goal

-- what binds the attribute by the declarations so far
abbrev pub invariant-loop-declaration : goal.invariant-loop-declaration
invariant-loop-declaration l = (ds : List Declaration) → AreResolvedIn l.schema l.declarations ds → IsBound l.schema (HasEntity l.schema l.set) (take l.declaration-index ds) l.so_far
