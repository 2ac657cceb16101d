use Rattle.std.proofs.Common.{sym, subst, ◌<◌}
use Rattle.p21_desk.specs.Dealt.{waiting_at}
use Rattle.p21_desk.proofs.DeskLemmas.{kept-dealt}
use Rattle.p21_desk.proofs.desk.Desk.deal.Goals as goal

pub invariant_of-self-2 : goal.invariant_of-self-2
invariant_of-self-2 c =
    let desk = c.self.inside in
    let less = subst (λ d. c.args.lane < d.lanes) (sym c.self.view_is) c.requires.lane in
    let room = subst (λ d. waiting_at d c.args.lane < d.capacity) (sym c.self.view_is) c.requires.window in
    kept-dealt desk.lanes desk.capacity desk.dealt.items c.push.new.self.items desk.joined desk.waiting.items c.args.lane c.index_mut.result.now c.self.invariant less c.in_ok-push.ensures.items c.index_mut.ensures.value room
