use Rattle.std.proofs.Common.{◌≡◌, map, take}
use Rattle.p21_express.specs.Grammar.{attributes_of}
use Rattle.p21_express.specs.Naming.{plain_namings}
use Rattle.p21_express.specs.Plain.{plain_attribute, plain_expr}
use Rattle.p21_express.proofs.attributes.declared.Given as goal

abbrev pub invariant-loop-naming : goal.invariant-loop-naming
invariant-loop-naming l = map plain_attribute l.list.items ≡ attributes_of (plain_namings (take l.naming-index l.namings)) l.optional (plain_expr l.texpr)
