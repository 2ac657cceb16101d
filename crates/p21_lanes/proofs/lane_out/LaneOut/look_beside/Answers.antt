-- What has left the ring begins what went into it, and what was received begins what has left it.
use Rattle.std.proofs.Common.{◌++◌, false, sym}
use Rattle.rtrb.specs.Ring.{known_items, received as popped, sent as pushed}
use Rattle.std.specs.Vec.Iter.{into_iter_items}
use Rattle.p21_lanes.specs.History.{messages, messages_in}
use Rattle.p21_lanes.proofs.ParcelLemmas.{received_begins, received_form}
use Rattle.p21_lanes.proofs.lane_out.LaneOut.look_beside.Goals as goal

pub returns-clause-form : goal.returns-clause-form
returns-clause-form g c =
    let self = c.args.self.now in
    let kept = into_iter_items self.together in
    rw c.slots_beside.ensures.looked.1 (received_form (messages_in (popped self.consumer)) kept self.kept self.history)

pub returns-clause-in_order : goal.returns-clause-in_order
returns-clause-in_order g c =
    let consumer = c.slots_beside.new.self in
    let self = c.args.self.now in
    let kept = into_iter_items self.together in (
      messages kept false ++ messages_in (known_items consumer),
      received_begins (pushed c.slots_beside.new.producer) (popped consumer) (known_items consumer) kept (sym c.slots_beside.ensures.fifo) (rw c.slots_beside.ensures.looked.1 self.kept),
    )
