-- The report text of broken rules of WHERE: a line for each.
use Rattle.std.specs.Prelude.{ℕ, List, [], ◌∷◌, ◌++◌, Bool, true, false, codes, decimal, get_or, map, take}
use Rattle.p21_where_findings.specs.declared.findings.BrokenRule.{BrokenRule}
use Rattle.p21_where_findings.specs.declared.findings.WhereRule.{WhereRule}
use Rattle.p21_rule_run.specs.declared.rule_fault.RuleFault.{RuleFault}

-- its place, and the name of the rule of its number
unfoldable pub rule_broken_text : List WhereRule → BrokenRule → List ℕ
rule_broken_text rules f = codes "fault 18 RuleBroken at " ++ (decimal f.at ++ (codes " rule " ++ (get_or (map (λ rule. rule.name.items) rules) f.rule [] ++ 10 ∷ [])))

-- the lines of several, in their order
abbrev pub rule_broken_lines : List WhereRule → List BrokenRule → List ℕ
rule_broken_lines rules [] = []
rule_broken_lines rules (f ∷ fs) = rule_broken_text rules f ++ rule_broken_lines rules fs

-- those that a report tells after other faults: all; or where one alone is told the first, if there is no other fault
abbrev pub told_after : (all : Bool) → List RuleFault → List BrokenRule → List BrokenRule
told_after true fs bs = bs
told_after false [] bs = take 1 bs
told_after false (f ∷ fs) bs = []
