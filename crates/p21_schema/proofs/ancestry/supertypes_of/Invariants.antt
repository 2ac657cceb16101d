use Rattle.std.proofs.Common.{take}
use Rattle.p21_express.specs.Plain.{plain_entity}
use Rattle.p21_schema.specs.Ancestry.{AreNamed}
use Rattle.p21_schema.proofs.ancestry.supertypes_of.Given as goal

abbrev pub invariant-loop-name : goal.invariant-loop-name
invariant-loop-name l = AreNamed l.names l.places.items (take l.name-index (plain_entity l.entity).supertypes)
