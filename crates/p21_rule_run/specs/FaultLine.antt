-- The report text of the faults by rules: a line for each.
use Rattle.std.specs.Prelude.{ℕ, List, [], ◌∷◌, ◌++◌, Option, None, Some, codes, decimal, get_or, map, option_map, slice_get}
use Rattle.p21_express.specs.Schema.{Schema}
use Rattle.p21_rule_text.specs.declared.rules.Rules.{Rules}
use Rattle.p21_rules.specs.declared.inverse.InverseCount.{InverseCount}
use Rattle.p21_rules.specs.declared.unique.NotUnique.{NotUnique}
use Rattle.p21_schema.specs.Place.{entity_name}
use Rattle.p21_schema.specs.declared.ids.EntityId.{EntityId}
use Rattle.p21_rule_run.specs.declared.rule_fault.RuleFault.{RuleFault}
use Rattle.p21_rule_run.specs.declared.rule_fault.RuleFault.TheVariants as fault

-- a name after that of its entity
abbrev pub behind_entity : Schema → Option EntityId → List ℕ → List ℕ
behind_entity s None n = n
behind_entity s (Some e) n = entity_name s e ++ (codes "." ++ n)

-- the label of the rule UNIQUE of this number, after its entity
abbrev pub unique_name : Schema → Rules → ℕ → List ℕ
unique_name s rules k = behind_entity s (option_map (λ r. r.entity) (slice_get rules.unique.items k)) (get_or (map (λ label. label.items) rules.labels.items) k [])

-- the name of the INVERSE attribute of this number, after its entity
abbrev pub inverse_name : Schema → Rules → ℕ → List ℕ
inverse_name s rules k = behind_entity s (option_map (λ r. r.entity) (slice_get rules.inverse.items k)) (get_or (map (λ name. name.items) rules.inverse_names.items) k [])

-- its place, the rule, and the name of the earlier instance
abbrev pub not_unique_text : List ℕ → NotUnique → List ℕ
not_unique_text rule f = codes "fault 16 NotUnique at " ++ (decimal f.at ++ (codes " rule " ++ (rule ++ (codes " name #" ++ (decimal f.earlier ++ 10 ∷ [])))))

-- its place, the INVERSE attribute, and how many refer to it
abbrev pub inverse_count_text : List ℕ → InverseCount → List ℕ
inverse_count_text name f = codes "fault 17 InverseCount at " ++ (decimal f.at ++ (codes " inverse " ++ (name ++ (codes " count " ++ (decimal f.count ++ 10 ∷ [])))))

-- the line of a fault by one of these rules
abbrev pub rule_fault_text : Schema → Rules → RuleFault → List ℕ
rule_fault_text s rules (fault.NotUnique f) = not_unique_text (unique_name s rules f.rule) f
rule_fault_text s rules (fault.InverseCount f) = inverse_count_text (inverse_name s rules f.rule) f

-- the lines of several, in their order
abbrev pub rule_fault_lines : Schema → Rules → List RuleFault → List ℕ
rule_fault_lines s rules [] = []
rule_fault_lines s rules (f ∷ fs) = rule_fault_text s rules f ++ rule_fault_lines s rules fs
