use Rattle.std.proofs.Common.{◌≡◌, true, List}
use Rattle.p21_schema.specs.Declaration.{AreResolvedIn, Declaration}
use Rattle.p21_schema.specs.Declaration.{is_explicit}
use Rattle.p21_schema.specs.Place.{entity_name}
use Rattle.p21_rule_text.proofs.DeclarationLemmas.{NoneIn}
use Rattle.p21_rule_text.proofs.redeclared.is_declared_in.Given as goal

abbrev pub invariant-loop-declaration : goal.invariant-loop-declaration
invariant-loop-declaration l = (ds : List Declaration) → AreResolvedIn l.schema l.declaration-items ds → NoneIn (λ d. (d.entity ≡ entity_name l.schema l.entity) × (is_explicit d.form ≡ true)) ds l.declaration-index
