use Rattle.std.proofs.Common.{Ok, refl, subst}
use Rattle.p21_join.specs.InstancePlaces.{InsertsPlace}
use Rattle.p21_join.proofs.NameLemmas.{is_named}
use Rattle.p21_join.proofs.joiner.Joiner.add.Goals as goal

pub returns-in-Ok-false : goal.returns-in-Ok-false
returns-in-Ok-false c =
    let was = c.args.self.now in
    let i = c.args.instance in
    let there = subst (λ b. InsertsPlace was.places i.name c.len.result (Ok b) c.insert.new.self) c.in-Ok-false.field-0-test c.in-Ok-false.ensures in
    (is_named was.places was.instances.items i was.placed there.0, refl, refl)
