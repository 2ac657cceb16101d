use Rattle.std.proofs.Common.{◌+◌, ◌*◌, drop}
use Rattle.p21_tree.specs.Plain.{plain, plain_all}
use Rattle.p21_query.specs.Names.{HasNameIn}
use Rattle.p21_query.proofs.PlainLemmas.{tree_size, trees_size}
use Rattle.p21_query.proofs.references.+name.Given as goal

-- a parameter that has the name is among those that are left
abbrev pub invariant-has_name-loop-param : goal.invariant-has_name-loop-param
invariant-has_name-loop-param l = HasNameIn l.name (plain_all l.params) → HasNameIn l.name (plain_all (drop l.param-index l.params))

abbrev pub decreases-has_name : goal.decreases-has_name
decreases-has_name l = 2 * trees_size (plain_all l.params.now) + 1

abbrev pub decreases-is_or_has_name : goal.decreases-is_or_has_name
decreases-is_or_has_name l = 2 * tree_size (plain l.param.now)
