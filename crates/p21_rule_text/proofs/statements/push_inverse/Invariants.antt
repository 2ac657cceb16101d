use Rattle.std.proofs.Common.{◌++◌, List, map, take}
use Rattle.p21_rule_text.specs.Clauses.{plain_inverse}
use Rattle.p21_rule_text.specs.Entities.{plain_clauses}
use Rattle.p21_rule_text.specs.Rules.{AreStated}
use Rattle.p21_rule_text.specs.Statements.{Clause, inverse}
use Rattle.p21_rule_text.proofs.statements.push_inverse.Given as goal

abbrev pub invariant-loop-clause : goal.invariant-loop-clause
invariant-loop-clause l = (cs : List Clause) → AreStated l.fn.known.schema.now (map plain_clauses l.fn.known.clauses.now) cs l.initial.rules → AreStated l.fn.known.schema.now (map plain_clauses l.fn.known.clauses.now) (cs ++ map (inverse l.fn.entity) (map plain_inverse (take l.clause-index l.fn.clauses))) l.rules
