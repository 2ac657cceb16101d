use Rattle.std.proofs.Common.{List, get_or}
use Rattle.p21_tree.specs.Plain.{plain}
use Rattle.p21_schema.specs.Declaration.{Declaration, AreResolvedIn}
use Rattle.p21_check.specs.Asked.{RefersCounting}
use Rattle.p21_check.specs.Sets.{HasEntity}
use Rattle.p21_check.specs.Wanted.{Asks}
use Rattle.p21_check.proofs.AskedLemmas.{AskedUpTo, resolved_at, place_below, stepped, after_first, after_second, best_same, at_last, no_declaration}
use Rattle.p21_check.proofs.asked.against_each.Goals as goal
use Rattle.p21_check.proofs.asked.against_each.Goals.{in-Err+then-found, in-Err+else-found, in_default}

pub asked_by-other-requires-clause-declaration : goal.asked_by-other-requires-clause-declaration
asked_by-other-requires-clause-declaration g c =
    let ds = c.requires.declarations in
    (get_or ds.0 c.loop-declaration.declaration-index no_declaration, resolved_at c.args.schema.now c.args.declarations.now ds.0 c.loop-declaration.declaration-index c.declaration-item.result ds.1 c.loop-declaration-test.true c.declaration-item.is)

pub walk-requires-clause-second : goal.walk-requires-clause-second
walk-requires-clause-second g c =
    let ds = c.requires.declarations in
    let i = c.loop-declaration.declaration-index in
    (c.asked_by-other.ensures ds.0 (get_or ds.0 i no_declaration) ds.1 (resolved_at c.args.schema.now c.args.declarations.now ds.0 i c.declaration-item.result ds.1 c.loop-declaration-test.true c.declaration-item.is)).asked_

pub loop-declaration-preserved : goal.loop-declaration-preserved
loop-declaration-preserved g c =
    let s = c.args.schema.now in
    let named = g.J.NameJudge.named c.args.judge.now in
    let set = HasEntity s c.args.set.now in
    let cs = c.args.declarations.now in
    let i = c.loop-declaration.declaration-index in
    let p = plain c.args.param.now in
    let first = c.loop-declaration.first in
    let wanted = Asks s c.loop-declaration.wanted p in
    let other = Asks s c.asked_by-other.result p in
    let ds_are = c.requires.declarations in
    let asks = λ (ds : List Declaration) (all : AreResolvedIn s cs ds). c.asked_by-other.ensures ds (get_or ds i no_declaration) all (resolved_at s cs ds i c.declaration-item.result all c.loop-declaration-test.true c.declaration-item.is) in
    elim c.match-walk.branch [
      | in-Err+then-found w ↦ (
        rw w.wanted-is (asks ds_are.0 ds_are.1).asked_,
        λ ds all. rw (w.first-is, w.wanted-is)
            (stepped s named set ds i p other _ (place_below s cs ds i all c.loop-declaration-test.true)
            (after_second s named (AskedUpTo s set ds i p) (RefersCounting s set ds (get_or ds i no_declaration) p) wanted other first w.in-Err.found w.if-found.true ((asks ds all).same p) (c.loop-declaration.invariant.1 ds all) w.in-Err.ensures)),
      )
      | in-Err+else-found w ↦ (
        rw w.wanted-is c.loop-declaration.invariant.0,
        λ ds all. rw (w.first-is, w.wanted-is)
            (stepped s named set ds i p wanted _ (place_below s cs ds i all c.loop-declaration-test.true)
            (after_first s named (AskedUpTo s set ds i p) (RefersCounting s set ds (get_or ds i no_declaration) p) wanted other first w.in-Err.found w.if-found.false ((asks ds all).same p) (c.loop-declaration.invariant.1 ds all) w.in-Err.ensures)),
      )
      | in_default w ↦ (
        rw w.wanted-is c.loop-declaration.invariant.0,
        λ ds all. rw (w.first-is, w.wanted-is)
            (stepped s named set ds i p wanted first (place_below s cs ds i all c.loop-declaration-test.true)
            (best_same s named (AskedUpTo s set ds i p) (RefersCounting s set ds (get_or ds i no_declaration) p) wanted other first ((asks ds all).same p) (c.loop-declaration.invariant.1 ds all) w.in_default.ensures)),
      )
    ]

pub returns : goal.returns
returns g c o ds are all =
    let s = c.args.schema.now in
    let p = plain c.args.param.now in
    at_last s (g.J.NameJudge.named c.args.judge.now) (HasEntity s c.args.set.now) o c.args.declarations.now ds c.loop-declaration.declaration-index p (Asks s c.loop-declaration.wanted p) c.loop-declaration.first are all c.loop-declaration-test.false (c.loop-declaration.invariant.1 ds all)
