use Rattle.std.proofs.Common.{List}
use Rattle.p21_schema.specs.Declaration.{AreResolvedIn, Declaration}
use Rattle.p21_rule_text.specs.Resolve.{DerivesAbove}
use Rattle.p21_rule_text.proofs.DeclarationLemmas.{NoneIn}
use Rattle.p21_rule_text.proofs.redeclared.is_derived_above.Given as goal

abbrev pub invariant-loop-declaration : goal.invariant-loop-declaration
invariant-loop-declaration l = (ds : List Declaration) → AreResolvedIn l.schema l.declaration-items ds → NoneIn (DerivesAbove l.schema l.entity) ds l.declaration-index
