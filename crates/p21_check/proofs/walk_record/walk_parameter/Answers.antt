use Rattle.std.proofs.Common.{◌≡◌, Some}
use Rattle.std.specs.Prelude.{slice_get}
use Rattle.p21_express.specs.WellFormed.{Origin}
use Rattle.p21_schema.specs.Row.{attribute_at}
use Rattle.p21_check.specs.WalkRecord.{SetOf, WalksSlot}
use Rattle.p21_check.proofs.PassedLemmas.{ok_some}
use Rattle.p21_check.proofs.walk_record.walk_parameter.Goals as goal

pub returns-clause-walked : goal.returns-clause-walked
returns-clause-walked c g os are =
    let s = c.args.schema.now in
    ok_some _ (λ p. (o : Origin) × (slice_get os c.args.position ≡ Some o) × WalksSlot s (SetOf s c.args.own) o c.args.text.now c.args.at c.args.into.now.items c.walk_slot.new.into.items p) c.walk_slot.result (c.walk_slot.ensures.walked g)
    (λ p h. (attribute_at s c.attribute-attribute.result, c.attribute-attribute.ensures.there os are, h))
