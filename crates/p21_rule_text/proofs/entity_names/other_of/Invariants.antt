use Rattle.std.proofs.Common.{◌≡◌, map, take}
use Rattle.p21_express.specs.Plain.{plain_entity}
use Rattle.p21_rule_text.specs.Entities.{plain_clauses}
use Rattle.p21_rule_text.proofs.entity_names.other_of.Given as goal

abbrev pub invariant-loop-place : goal.invariant-loop-place
invariant-loop-place l = take l.place (map (λ e. e.name) (map plain_clauses l.clauses)) ≡ take l.place (map (λ d. d.name) (map plain_entity l.entities))
