use Rattle.std.proofs.Common.{◌≡◌, List, drop}
use Rattle.p21_express.specs.WellFormed.{Origin}
use Rattle.p21_tree.specs.Plain.{plain_all}
use Rattle.p21_schema.specs.Place.{entity_name}
use Rattle.p21_schema.specs.Row.{attribute_at}
use Rattle.p21_check.specs.Attributes.{AreAttributes}
use Rattle.p21_rules.specs.Parameter.{parameter_of}
use Rattle.p21_rules.proofs.attributes.parameter_of.Given as goal

-- the parameter is among those that are left
abbrev pub invariant-loop-position : goal.invariant-loop-position
invariant-loop-position l =
    (os : List Origin) → AreAttributes l.schema l.complex (entity_name l.schema l.entity) os
    → parameter_of (drop l.position os) (plain_all (drop l.position l.params)) (attribute_at l.schema l.attribute) ≡ parameter_of os (plain_all l.params) (attribute_at l.schema l.attribute)
