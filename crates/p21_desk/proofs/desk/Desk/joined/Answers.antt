use Rattle.std.proofs.Common.{◌<◌, length, sym, subst}
use Rattle.p21_desk.proofs.DeskLemmas.{kept-joined, waits}
use Rattle.p21_desk.proofs.desk.Desk.joined.Goals as goal

pub overflow_sub-index_mut : goal.overflow_sub-index_mut
overflow_sub-index_mut c =
    let desk = c.self.inside in
    let unjoined = subst (λ d. d.joined < length d.dealt) (sym c.self.view_is) c.requires in
    waits desk.lanes desk.capacity desk.dealt.items desk.joined desk.waiting.items c.index-lane.result.now c.index_mut.result.now c.self.invariant unjoined c.index-lane.ensures c.index_mut.ensures.value

pub invariant_of-self : goal.invariant_of-self
invariant_of-self c =
    let desk = c.self.inside in
    let unjoined = subst (λ d. d.joined < length d.dealt) (sym c.self.view_is) c.requires in
    kept-joined desk.lanes desk.capacity desk.dealt.items desk.joined desk.waiting.items c.index-lane.result.now c.index_mut.result.now c.self.invariant unjoined c.index-lane.ensures c.index_mut.ensures.value
