use Rattle.std.proofs.Common.{◌<◌}
use Rattle.p21_schema.specs.Row.{attribute_at}
use Rattle.p21_schema.specs.declared.ids.AttrId.{AttrId}
use Rattle.p21_schema.specs.declared.ids.EntityId.{EntityId}
use Rattle.p21_rule_text.specs.Resolve.{IsDeclaredIn, IsOwn, IsOwner}
use Rattle.p21_rule_text.proofs.redeclared.again.Given as goal

-- none in front of the place is declared again
abbrev pub invariant-loop-place : goal.invariant-loop-place
invariant-loop-place l = (o : EntityId) (a : AttrId) → IsOwner l.schema l.entity o → o.index < l.place → IsOwn l.schema o l.name a → ¬ (IsDeclaredIn l.schema l.entity (attribute_at l.schema a))
