-- A piece is read and its result put after the others, or what was put there is sent.
use Rattle.std.proofs.Common.{ap, ◌∙◌}
use Rattle.p21_lanes.specs.History.{items_of, has_end}
use Rattle.p21_lanes.specs.LaneOut.{taken}
use Rattle.p21_crew.specs.Outbox.{results_of}
use Rattle.p21_crew.specs.Worker.{IsReturned}
use Rattle.p21_crew.proofs.SameLemmas.{same_in-then, same_out-then}
use Rattle.p21_crew.proofs.ZipLemmas.{AllZip-snoc}
use Rattle.p21_crew.proofs.worker.work_lane.Goals as goal
use Rattle.p21_crew.proofs.worker.work_lane.Goals.{in-Item, in-Nothing}

pub loop-preserved : goal.loop-preserved
loop-preserved g c =
    let before = c.loop.invariant in
    let stated = IsReturned (g.W.Work.stated c.args.work.now) in
    let same = same_out-then c.args.pieces c.loop.pieces c.take.new.self before.0 c.take.ensures.lane in
    elim c.match-take.branch [
      | in-Item w ↦
          let put = w.put-is_sent.ensures in
          let read = AllZip-snoc stated (taken c.loop.pieces) (results_of c.loop.outbox) w.in-Item.piece w.read_piece-answer.result before.3 w.read_piece-answer.ensures in
          (same, rw w.outbox-is (same_in-then c.new-outbox.result.lane c.loop.outbox.lane w.put-is_sent.new.self.lane before.1 put.lane), w.in-Item.ensures.took.3, rw (w.outbox-is, w.in-Item.ensures.took.1, put.results) read)
      | in-Nothing w ↦
          let sent = w.send_all-is_sent.ensures in
          (same, rw w.outbox-is (same_in-then c.new-outbox.result.lane c.loop.outbox.lane w.send_all-is_sent.new.self.lane before.1 sent.lane), ap has_end w.in-Nothing.ensures.took.0 ∙ before.2, rw (w.outbox-is, sent.results, ap items_of w.in-Nothing.ensures.took.0) before.3)
    ]
