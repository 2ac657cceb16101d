use denote.Param.Send.{sendable}
use Rattle.std.proofs.Crossing.{crosses}
use Rattle.p21_schema.proofs.Crossing.{Schema-sync}
use Rattle.p21_run_tests.proofs.lanes_tests.read_meeting.Goals as goal

pub read_by-requires-sync-J : goal.read_by-requires-sync-J
read_by-requires-sync-J g c κs within = search (sendable, crosses, Schema-sync) depth 40
