use Rattle.std.proofs.Common.{◌<◌, length, sym, ◌∙◌, true≢false, arith}
use Rattle.std.proofs.lemmas.Bool.{lt-ltb}
use Rattle.p21_join.proofs.EntityLemmas.{as_many, entity_at}
use Rattle.p21_join.proofs.entities.EntityView.entity.Goals as goal

pub returns : goal.returns
returns c d =
    let view = c.args.self in
    entity_at view.schema.now view.model.now.instances.items view.entities.now c.args.i c.in_ok-get.field-0.now d view.known c.requires c.in_ok-get.ensures.lookup.1

pub returns-in_err-get : goal.returns-in_err-get
returns-in_err-get c =
    let view = c.args.self in
    let within : c.args.i < length view.entities.now = omega (arith, c.requires, as_many view.schema.now view.model.now.instances.items view.entities.now view.known) in
    absurd (true≢false (sym (lt-ltb c.args.i (length view.entities.now) within) ∙ sym c.in_err-get.ensures.lookup.0))
