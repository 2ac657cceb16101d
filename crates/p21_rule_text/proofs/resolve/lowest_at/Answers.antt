use Rattle.std.proofs.Common.{map, sym, subst, ◌∙◌}
use Rattle.p21_rule_text.specs.Entities.{plain_clauses}
use Rattle.p21_rule_text.specs.Resolve.{IsLowest}
use Rattle.p21_rule_text.proofs.ResolveLemmas.{same_owner}
use Rattle.p21_rule_text.proofs.resolve.lowest_at.Goals as goal
use Rattle.p21_rule_text.proofs.resolve.lowest_at.Goals.{else-is_declarer-via-then-is_declarer+else-is_lowest, else-is_declarer-via-else-is_declarer}

pub returns-else-is_declarer : goal.returns-else-is_declarer
returns-else-is_declarer c = λ o lowest place.
    let owner = c.in_ok-owner.owner in
    let here = subst (IsLowest c.args.schema.now (map plain_clauses c.args.clauses.now) c.args.entity c.args.name.now) (same_owner o owner (place ∙ sym c.in_ok-owner.ensures.1)) lowest in
    elim c.else-is_declarer.branch [ else-is_declarer-via-then-is_declarer+else-is_lowest w ↦ w.if-is_lowest.ensures here.lowest | else-is_declarer-via-else-is_declarer w ↦ w.if-is_declarer.ensures (here.owner, here.declares) ]
