use Rattle.p21_join.proofs.EntityLemmas.{missing_known, other_known, simple_known}
use Rattle.p21_join.proofs.entities.EntityView.named.Goals as goal

pub returns-in_default : goal.returns-in_default
returns-in_default c = missing_known c.args.self.schema.now c.args.self.model.now.instances.items c.args.name c.in_default.ensures

pub returns-in-Some-entity : goal.returns-in-Some-entity
returns-in-Some-entity c =
    let made = c.args.self in
    let model = made.model.now in
    simple_known made.schema.now model.instances.items c.args.name c.in-Some.place c.in-Some-entity.entity model.own_names c.in-Some.ensures c.in-Some-entity.ensures

pub returns-in-None : goal.returns-in-None
returns-in-None c =
    let made = c.args.self in
    let model = made.model.now in
    other_known made.schema.now model.instances.items c.args.name c.in-Some.place c.instance.result model.own_names c.in-Some.ensures c.instance.ensures (c.in-None.ensures c.instance.result.now)
