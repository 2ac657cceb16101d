use Rattle.std.proofs.Common.{refl}
use Rattle.p21_crew.proofs.UnderwayLemmas.{underway_cut, underway_tail}
use Rattle.p21_crew.proofs.dealer.Dealer.cut.Goals as goal

pub loop-self-preserved : goal.loop-self-preserved
loop-self-preserved g c = (
  λ first work size done outs stands.
      let before = c.loop-self.invariant.0 first work size done outs stands in
      (before.0, before.1, underway_cut g.C.Cuts.cuts g.A.Gathers.holds first work size c.loop-self.self _ before.0 before.1 c.in-Piece.piece before.2 c.loop-self.invariant.1 c.in-Piece.ensures.next c.in_ok-push-in-Piece.ensures.items refl refl refl refl),
  c.loop-self.invariant.1,
)

pub returns-in-Tail : goal.returns-in-Tail
returns-in-Tail g c first work size done outs stands =
    let before = c.loop-self.invariant.0 first work size done outs stands in
    (before.0, before.1, underway_tail g.C.Cuts.cuts g.A.Gathers.holds first work size c.loop-self.self _ before.0 before.1 c.in-Tail.at before.2 c.loop-self.invariant.1 c.in-Tail.ensures.next refl refl refl refl refl)
