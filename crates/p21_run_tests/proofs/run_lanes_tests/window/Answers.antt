use denote.Param.Send.{sendable}
use Rattle.std.proofs.Crossing.{crosses}
use Rattle.p21_schema.proofs.Crossing.{Schema-sync}
use Rattle.p21_run_tests.proofs.run_lanes_tests.window.Goals as goal

pub run_by-requires-sync-J : goal.run_by-requires-sync-J
run_by-requires-sync-J g c κs = search (sendable, crosses, Schema-sync) depth 40
