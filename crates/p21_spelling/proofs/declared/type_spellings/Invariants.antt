use Rattle.std.proofs.Common.{◌≡◌, ◌++◌, map, drop}
use Rattle.p21_express.specs.Plain.{plain_type}
use Rattle.p21_spelling.specs.Spelled.{lower, names_in}
use Rattle.p21_spelling.proofs.declared.type_spellings.Given as goal

abbrev pub invariant-loop-declared : goal.invariant-loop-declared
invariant-loop-declared l = names_in l.spelled.items ++ map (λ t. lower t.name) (map plain_type (drop l.declared-index l.types)) ≡ map (λ t. lower t.name) (map plain_type l.types)
