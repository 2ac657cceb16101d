use Rattle.std.proofs.Common.{◌≡◌, ◌+◌, ◌++◌, replicate}
use Rattle.p21_desk.specs.Dealt.{waiting_at}
use Rattle.p21_crew.proofs.dealer.deal_pieces.Given as goal

abbrev pub invariant-loop : goal.invariant-loop
invariant-loop l =
    (l.desk ≡ record l.initial.desk { dealt = l.initial.desk.dealt ++ replicate l.counter l.lane })
    × (waiting_at l.desk l.lane ≡ waiting_at l.initial.desk l.lane + l.counter)
