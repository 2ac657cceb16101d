use Rattle.std.proofs.Common.{◌++◌, List, map, take}
use Rattle.p21_rule_text.specs.Clauses.{plain_unique}
use Rattle.p21_rule_text.specs.Entities.{plain_clauses}
use Rattle.p21_rule_text.specs.Rules.{AreStated}
use Rattle.p21_rule_text.specs.Statements.{Clause, numbered}
use Rattle.p21_rule_text.proofs.statements.push_unique.Given as goal

abbrev pub invariant-loop-index : goal.invariant-loop-index
invariant-loop-index l = (cs : List Clause) → AreStated l.fn.known.schema.now (map plain_clauses l.fn.known.clauses.now) cs l.initial.rules → AreStated l.fn.known.schema.now (map plain_clauses l.fn.known.clauses.now) (cs ++ numbered l.fn.entity 1 (map plain_unique (take l.index l.fn.clauses))) l.rules
