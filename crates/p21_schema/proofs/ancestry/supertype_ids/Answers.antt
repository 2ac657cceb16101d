use Rattle.std.proofs.Common.{◌<◌, length, ◌≡◌, get_or}
use Rattle.p21_schema.proofs.AncestryLemmas.{ids_more}
use Rattle.p21_schema.proofs.ancestry.supertype_ids.Goals as goal

pub loop-places-preserved : goal.loop-places-preserved
loop-places-preserved c =
    let g = c.args.graph.now in
    let row = c.places-item.result in
    let k = c.loop-places.places-index in
    let less : k < length g.items = rw (← c.deref-places-items.ensures.value) c.loop-places-test.true in
    let at : row ≡ get_or g.items k row = rw (← c.deref-places-items.ensures.value) c.places-item.is in
    ids_more c.loop-places.table c.push.new.self g c.in_ok-ids.field-0 row c.deref.result.now k less at c.deref.ensures.value c.in_ok-ids.ensures c.in_ok-push.ensures.items c.loop-places.invariant
