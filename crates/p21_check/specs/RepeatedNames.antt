-- The instance names of elements of the code, in lists of numbers.
use Rattle.std.specs.Prelude.{◌<◌, ℕ, List, Option, Some, None}
use Rattle.p21_tree.specs.Plain.{plain_all}
use Rattle.p21_tree.specs.declared.params.Param.{Param}
use Rattle.p21_check.specs.Repeats.{names_among}

-- the instance names among some elements, in order
abbrev pub names_of : List Param → List ℕ
names_of ps = names_among (plain_all ps)

-- the name is above the last one, where there is one
abbrev pub IsAbove : Option ℕ → ℕ → Type 0
IsAbove None n = Unit {0}
IsAbove (Some m) n = m < n
