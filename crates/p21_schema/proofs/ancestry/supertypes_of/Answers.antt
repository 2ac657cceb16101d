use Rattle.std.proofs.Common.{◌<◌, length, ◌≡◌, get_or}
use Rattle.p21_schema.proofs.AncestryLemmas.{named_more}
use Rattle.p21_schema.proofs.NameLemmas.{known_name}
use Rattle.p21_schema.proofs.ancestry.supertypes_of.Goals as goal

pub known-requires : goal.known-requires
known-requires c =
    let ks = c.args.entity.now.supertypes.items in
    let x = c.name-item.result in
    let k = c.loop-name.name-index in
    let less : k < length ks = rw (← c.deref-name-items.ensures.value) c.loop-name-test.true in
    let at : x ≡ get_or ks k x = rw (← c.deref-name-items.ensures.value) c.name-item.is in
    c.requires c.deref.result.now (known_name ks k x c.deref.result.now less at c.deref.ensures.value)

pub loop-name-preserved : goal.loop-name-preserved
loop-name-preserved c =
    let ks = c.args.entity.now.supertypes.items in
    let x = c.name-item.result in
    let k = c.loop-name.name-index in
    let less : k < length ks = rw (← c.deref-name-items.ensures.value) c.loop-name-test.true in
    let at : x ≡ get_or ks k x = rw (← c.deref-name-items.ensures.value) c.name-item.is in
    rw c.in_ok-push.ensures.items (named_more c.args.names.now ks c.loop-name.places.items k x c.deref.result.now c.known.result less at c.deref.ensures.value c.loop-name.invariant c.known.ensures.0 c.known.ensures.1)
