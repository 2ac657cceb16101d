use Rattle.std.proofs.Common.{◌≡◌, Some, map, take}
use Rattle.p21_schema.specs.Resolved.{target_name}
use Rattle.p21_schema.proofs.under.targets.Given as goal

abbrev pub invariant-loop-name : goal.invariant-loop-name
invariant-loop-name l = map (target_name l.entities l.types) l.targets.items ≡ map Some (map (λ n. n.items) (take l.name-index l.names))
