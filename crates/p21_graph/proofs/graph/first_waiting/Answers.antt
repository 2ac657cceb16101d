use Rattle.std.proofs.Common.{get_or}
use Rattle.p21_graph.specs.MemberLaws.{at_place}
use Rattle.p21_graph.proofs.graph.first_waiting.Goals as goal

pub bounds-placed-vertices : goal.bounds-placed-vertices
bounds-placed-vertices c = c.requires.vertices (get_or c.args.vertices.now c.loop-place.place 0) (at_place c.args.vertices.now c.loop-place.place 0 c.loop-place-test.true)
