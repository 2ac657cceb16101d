use Rattle.std.proofs.Common.{List, drop}
use Rattle.p21_tree.specs.Views.{plain_instance}
use Rattle.p21_schema.specs.Declaration.{Declaration, AreResolvedIn}
use Rattle.p21_check.specs.Sets.{AnyIn}
use Rattle.p21_json.specs.Where.{DeclaresLogical}
use Rattle.p21_json.proofs.attributes.declare_logical.Given as goal

-- a declaration that is such is among those that are left
abbrev pub invariant-loop-declaration : goal.invariant-loop-declaration
invariant-loop-declaration l =
    (ds : List Declaration) → AreResolvedIn l.terms l.declarations ds → AnyIn ds (DeclaresLogical l.terms (plain_instance l.instance) ds) → AnyIn (drop l.declaration-index ds) (DeclaresLogical l.terms (plain_instance l.instance) ds)
