use Rattle.std.proofs.Common.{get_or}
use Rattle.p21_tree.specs.Plain.{plain}
use Rattle.p21_check.specs.Asked.{AskedBy}
use Rattle.p21_check.specs.Referred.{Somewhere}
use Rattle.p21_check.specs.Sets.{HasEntity}
use Rattle.p21_check.proofs.AskedLemmas.{AskedUpTo, no_declaration, place_below, resolved_at, up_to_last}
use Rattle.p21_check.proofs.ReferredLemmas.{adds_declaration, adds_same, somewhere}
use Rattle.p21_check.proofs.Tests.{turned}
use Rattle.p21_check.proofs.referred.push_by_each.Goals as goal

pub asked_by-wanted-requires-clause-declaration : goal.asked_by-wanted-requires-clause-declaration
asked_by-wanted-requires-clause-declaration c =
    let ds = c.requires.declarations in
    let i = c.loop-declaration.declaration-index in
    (get_or ds.0 i no_declaration, resolved_at c.args.schema.now c.args.declarations.now ds.0 i c.declaration-item.result ds.1 c.loop-declaration-test.true c.declaration-item.is)

pub push_asked-requires : goal.push_asked-requires
push_asked-requires c =
    let ds = c.requires.declarations in
    let i = c.loop-declaration.declaration-index in
    (c.asked_by-wanted.ensures ds.0 (get_or ds.0 i no_declaration) ds.1 (resolved_at c.args.schema.now c.args.declarations.now ds.0 i c.declaration-item.result ds.1 c.loop-declaration-test.true c.declaration-item.is)).asked_

pub loop-declaration-preserved : goal.loop-declaration-preserved
loop-declaration-preserved c ds all =
    let s = c.args.schema.now in
    let cs = c.args.declarations.now in
    let i = c.loop-declaration.declaration-index in
    let p = plain c.args.param.now in
    let asks = c.asked_by-wanted.ensures ds (get_or ds i no_declaration) all (resolved_at s cs ds i c.declaration-item.result all c.loop-declaration-test.true c.declaration-item.is) in
    adds_declaration s (HasEntity s c.args.set.now) ds i p c.asked_by-wanted.result (place_below s cs ds i all c.loop-declaration-test.true) (asks.same p) c.args.into.now.items c.loop-declaration.into.items c.push_asked.new.into.items (c.loop-declaration.invariant ds all) c.in_ok-push_asked.ensures

pub returns : goal.returns
returns c o ds are all =
    let s = c.args.schema.now in
    let S = HasEntity s c.args.set.now in
    let i = c.loop-declaration.declaration-index in
    let p = plain c.args.param.now in
    let last = up_to_last s S o c.args.declarations.now ds i p are all c.loop-declaration-test.false in
    adds_same s (Somewhere (AskedUpTo s S ds i p)) (Somewhere (AskedBy s S o p)) c.args.into.now.items c.loop-declaration.into.items (λ r. turned (somewhere last r)) (c.loop-declaration.invariant ds all)
