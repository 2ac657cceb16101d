use Rattle.std.proofs.Common.{map}
use Rattle.p21_rule_text.specs.Entities.{plain_clauses}
use Rattle.p21_rule_text.specs.Resolve.{IsLower}
use Rattle.p21_rule_text.proofs.ResolveLemmas.{NoneBefore}
use Rattle.p21_rule_text.proofs.resolve.is_lowest.Given as goal

abbrev pub invariant-loop-place : goal.invariant-loop-place
invariant-loop-place l = NoneBefore (IsLower l.schema (map plain_clauses l.clauses) l.entity l.name l.owner) l.place
