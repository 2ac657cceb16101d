use Rattle.std.proofs.Common.{◌≡◌, ◌++◌, map, drop}
use Rattle.std.specs.List.{flat_map}
use Rattle.p21_express.specs.Plain.{plain_entity}
use Rattle.p21_spelling.specs.Spelled.{lower, names_in, own_names}
use Rattle.p21_spelling.proofs.declared.spell_names.Given as goal

abbrev pub invariant-loop-entity : goal.invariant-loop-entity
invariant-loop-entity l =
    (names_in l.entities.items ++ map (λ e. lower e.name) (map plain_entity (drop l.entity-index l.entity-items)) ≡ map (λ e. lower e.name) (map plain_entity l.entity-items))
    × (names_in l.attributes.items ++ map lower (flat_map own_names (map plain_entity (drop l.entity-index l.entity-items))) ≡ map lower (flat_map own_names (map plain_entity l.entity-items)))
