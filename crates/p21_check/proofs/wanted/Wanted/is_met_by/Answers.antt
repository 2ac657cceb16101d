use Rattle.std.proofs.Common.{subst}
use Rattle.p21_check.specs.Wanted.{IsAsked}
use Rattle.p21_check.proofs.MetLemmas.{met_entity, met_select}
use Rattle.p21_check.proofs.wanted.Wanted.is_met_by.Goals as goal

pub returns-in-Entity : goal.returns-in-Entity
returns-in-Entity c =
    let s = c.args.schema.now in
    let e = c.in-Entity.entity in
    let own = c.in-Some.own in
    let known = c.in-Some.ensures in
    met_entity s c.args.self own e c.args.name.now c.eq.result c.in-Entity.is known.0 known.1 c.eq.ensures
    (c.one_id.ensures.entities own e known.0 (subst (IsAsked s) c.in-Entity.is c.requires))

pub returns-in-Select : goal.returns-in-Select
returns-in-Select c =
    met_select c.args.schema.now c.args.self c.in-Some.own c.in-Select.select c.args.name.now c.select_reaches.result c.in-Select.is c.in-Some.ensures.0 c.in-Some.ensures.1 c.select_reaches.ensures
