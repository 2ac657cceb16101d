use Rattle.std.proofs.Common.{[], map, take}
use Rattle.std.specs.List.{flat_map}
use Rattle.p21_rule_text.specs.Entities.{plain_clauses}
use Rattle.p21_rule_text.specs.Rules.{AreStated}
use Rattle.p21_rule_text.specs.Statements.{clauses_of}
use Rattle.p21_rule_text.proofs.statements.push_statements.Given as goal

abbrev pub invariant-loop-entity : goal.invariant-loop-entity
invariant-loop-entity l = AreStated l.fn.known.schema.now (map plain_clauses l.fn.known.clauses.now) [] l.initial.rules → AreStated l.fn.known.schema.now (map plain_clauses l.fn.known.clauses.now) (flat_map clauses_of (map plain_clauses (take l.entity-index l.fn.known.clauses.now))) l.rules
