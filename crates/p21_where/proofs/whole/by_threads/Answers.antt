use denote.Param.Send.{sendable}
use Rattle.std.proofs.Crossing.{crosses}
use Rattle.p21_schema.proofs.Crossing.{Schema-sync}
use Rattle.p21_world.proofs.Crossing.{FileWorld-sync, Names-sync}
use Rattle.p21_where.proofs.Crossing.{Asked-sync, Concerns-sync, Function-sync, RunRule-sync}
use Rattle.p21_where.proofs.whole.by_threads.Goals as goal

pub map_indices-requires-sync-F : goal.map_indices-requires-sync-F
map_indices-requires-sync-F g c κs within = search (sendable, crosses, Schema-sync, Names-sync, Asked-sync, Concerns-sync, FileWorld-sync, Function-sync, RunRule-sync) depth 80 fits 20000
