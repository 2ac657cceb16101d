use Rattle.std.proofs.Common.{map, take}
use Rattle.p21_express.specs.Naming.{plain_namings}
use Rattle.p21_rule_text.specs.Entities.{plain_clauses}
use Rattle.p21_rule_text.specs.Statements.{AreExplicit}
use Rattle.p21_rule_text.proofs.unique.attributes_named.Given as goal

abbrev pub invariant-loop-name : goal.invariant-loop-name
invariant-loop-name l = AreExplicit l.fn.known.schema.now (map plain_clauses l.fn.known.clauses.now) l.fn.entity (plain_namings (take l.name-index l.fn.names)) l.attributes.items
