use Rattle.std.proofs.Common.{◌≡◌, map, take}
use Rattle.p21_express.specs.Plain.{plain_type}
use Rattle.p21_schema.proofs.names.type_names.Given as goal

abbrev pub invariant-loop-decl : goal.invariant-loop-decl
invariant-loop-decl l = l.names ≡ take l.decl-index (map (λ d. d.name) (map plain_type l.types))
