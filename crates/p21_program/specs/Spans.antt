-- Where rules stand.
use Rattle.std.specs.Prelude.{ℕ, List, length, replicate}
use Rattle.std.specs.List.{flat_map}
use Rattle.p21_algorithm.specs.declared.found.Found.{Found}
use Rattle.p21_algorithm.specs.declared.found.Item.{Item}
use Rattle.p21_algorithm.specs.declared.found.Item.TheVariants as item
use Rattle.p21_algorithm.specs.declared.found.Part.{Part}
use Rattle.p21_algorithm.specs.declared.found.Part.TheVariants as part
use Rattle.p21_algorithm.specs.declared.found.Span.{Span}

-- How many rules a part of the text stands for that has no reading: one where it is to be a rule of WHERE or a RULE.
abbrev pub count_without_reading : Part → ℕ
count_without_reading part.Explicit = 0
count_without_reading part.Derived = 0
count_without_reading part.Inverse = 0
count_without_reading part.Unique = 0
count_without_reading part.DomainRule = 1
count_without_reading part.Constant = 0
count_without_reading part.Function = 0
count_without_reading part.Procedure = 0
count_without_reading part.GlobalRule = 1

-- How many rules a part of the text has.
abbrev pub rule_count : Item → ℕ
rule_count (item.DomainRule r) = 1
rule_count (item.Derived d) = 0
rule_count (item.Constant c) = 0
rule_count (item.Routine r) = 0
rule_count (item.GlobalRule g) = length g.rules.items
rule_count (item.PassedOver p k n) = count_without_reading p

-- Where the rules of a part of the text stand: each where that part does.
abbrev pub spans_of : Found → List Span
spans_of f = replicate (rule_count f.item) f.span

-- Where the rules of all parts stand, in order.
abbrev pub all_spans : List Found → List Span
all_spans fs = flat_map spans_of fs
