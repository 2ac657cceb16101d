use Rattle.std.proofs.Common.{◌≡◌, List, get_or, sym, subst}
use Rattle.std.specs.Prelude.{MatchOption}
use Rattle.p21_tree.specs.declared.instances.Record.{Record}
use Rattle.p21_express.specs.WellFormed.{IsEntity}
use Rattle.p21_schema.specs.Place.{IsEntityOf, entity_name}
use Rattle.p21_check.proofs.EntityOfLemmas.{of_keyword}
use Rattle.p21_check.proofs.entity_of.simple_entity.Goals as goal

pub returns : goal.returns
returns c =
    let s = c.args.schema.now in
    let x = c.index-records-0.result in
    let first = subst (λ (l : List Record). x ≡ get_or l 0 x) c.as_slice-records.ensures c.index-records-0.is in
    let found = subst (λ (r : Record). MatchOption c.entity.result (¬ (IsEntity s r.keyword.now)) (λ e. IsEntityOf s e × (entity_name s e ≡ r.keyword.now))) (sym c.index-records-0.is) c.entity.ensures in
    of_keyword s c.args.instance.now x c.entity.result c.if-instance.false first found
