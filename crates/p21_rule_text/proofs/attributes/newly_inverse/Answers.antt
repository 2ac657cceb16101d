use Rattle.std.proofs.Common.{◌≡◌, ◌≤◌, None, length, MatchBool, subst, arith}
use Rattle.p21_express.specs.WellFormed.{IsIn}
use Rattle.p21_rule_text.specs.Clauses.{InverseClause}
use Rattle.p21_rule_text.specs.Entities.{EntityClauses, plain_clauses}
use Rattle.p21_rule_text.specs.Resolve.{no_clauses}
use Rattle.p21_rule_text.proofs.ResolveLemmas.{map_past, own_clauses}
use Rattle.p21_rule_text.proofs.attributes.newly_inverse.Goals as goal

pub returns-then-place-clauses : goal.returns-then-place-clauses
returns-then-place-clauses c =
    subst (λ (u : EntityClauses). let is = (i : InverseClause) × (IsIn u.inverse i × ((i.name.of ≡ None) × (i.name.name ≡ c.args.name.now))) in MatchBool c.newly_inverse_in.result is (¬ is))
    (own_clauses plain_clauses c.args.clauses.now c.place-place.result c.args.entity c.index-clauses-place.result no_clauses c.place-place.ensures c.if-place-clauses.true c.index-clauses-place.is)
    c.newly_inverse_in.ensures

pub returns-else-place-clauses : goal.returns-else-place-clauses
returns-else-place-clauses c = λ h.
    let past : length c.args.clauses.now ≤ c.args.entity.index = omega (arith, c.place-place.ensures, c.if-place-clauses.false) in
    subst (λ (u : EntityClauses). IsIn u.inverse h.0) (map_past plain_clauses c.args.clauses.now c.args.entity.index no_clauses past) h.1.0
