-- The attributes that the code finds for the names of a rule.
use Rattle.std.specs.Prelude.{◌≡◌, List}
use Rattle.p21_express.specs.Grammar.{Naming}
use Rattle.p21_express.specs.Schema.{Schema}
use Rattle.p21_schema.specs.Row.{attribute_at}
use Rattle.p21_schema.specs.declared.ids.AttrId.{AttrId}
use Rattle.p21_schema.specs.declared.ids.EntityId.{EntityId}
use Rattle.p21_rule_text.specs.Entities.{EntityClauses}
use Rattle.p21_rule_text.specs.Statements.{AreExplicit, IsFirst}
use Rattle.p21_rule_text.specs.declared.resolve.Found.TheVariants as found
use Rattle.p21_rule_text.specs.declared.unique.Attributes.{Attributes}
use Rattle.p21_rule_text.specs.declared.unique.Attributes.TheVariants as attributes

abbrev pub AreAttributes : Schema → List EntityClauses → EntityId → List Naming → Attributes → Type 0
AreAttributes s es e names (attributes.Explicit ids) = AreExplicit s es e names ids.items
AreAttributes s es e names (attributes.Other n) = IsFirst s es e names found.Other n.now

-- the attribute has this name
abbrev pub IsNamedAs : Schema → Naming → AttrId → Type 0
IsNamedAs s x a = (attribute_at s a).name ≡ x.name
