use Rattle.std.proofs.Common.{◌≡◌, ◌++◌, drop, map}
use Rattle.p21_rules.specs.Pushed.{codes_code}
use Rattle.p21_rules.proofs.value.push_codes.Given as goal

abbrev pub invariant-loop-own : goal.invariant-loop-own
invariant-loop-own l = l.code.items ++ codes_code (map (λ c. c.items) (drop l.own-index l.codes)) ≡ l.initial.code.items ++ codes_code (map (λ c. c.items) l.codes)
