use Rattle.std.proofs.Common.{refl}
use Rattle.p21_check.specs.EntitySet.{keywords}
use Rattle.p21_rules.proofs.IdLemmas.{both}
use Rattle.p21_schema.specs.Place.{entity_name}
use Rattle.p21_tree.specs.Views.{plain_instance}
use Rattle.p21_rules.proofs.ParameterLemmas.{is_entity}
use Rattle.p21_rules.proofs.SlotLemmas.{in_complex, in_simple}
use Rattle.p21_rules.proofs.slots.is_in_set.Goals as goal

pub returns-then-slot : goal.returns-then-slot
returns-then-slot c =
    let s = c.args.slot.schema.now in
    let i = plain_instance c.args.slot.instance.now in
    both (c.is_named.ensures (keywords i) c.requires.slot.named) (in_complex s i (entity_name s c.args.entity) (is_entity s c.args.entity _ c.requires.entity refl) c.if-slot.true)

pub returns-else-slot : goal.returns-else-slot
returns-else-slot c =
    let s = c.args.slot.schema.now in
    let i = plain_instance c.args.slot.instance.now in
    both (c.is_of.ensures (keywords i) c.requires.slot.named) (in_simple s i (entity_name s c.args.entity) (is_entity s c.args.entity _ c.requires.entity refl) c.if-slot.false)
