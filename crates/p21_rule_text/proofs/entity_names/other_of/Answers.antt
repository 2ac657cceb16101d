use Rattle.std.proofs.Common.{rules}
use Rattle.p21_rule_text.proofs.EntityNameLemmas.{differ, same_further}
use Rattle.p21_rule_text.proofs.entity_names.other_of.Goals as goal

pub returns-then-is_other : goal.returns-then-is_other
returns-then-is_other c = differ c.args.clauses.now c.args.entities.now c.loop-place.place c.index-clauses-place.result c.index-entities-place.result (search rules) (search rules) c.index-clauses-place.is c.index-entities-place.is c.if-is_other.ensures

pub loop-place-preserved : goal.loop-place-preserved
loop-place-preserved c = same_further c.args.clauses.now c.args.entities.now c.loop-place.place c.index-clauses-place.result c.index-entities-place.result (search rules) (search rules) c.index-clauses-place.is c.index-entities-place.is c.if-is_other.ensures c.loop-place.invariant
