use Rattle.std.proofs.Common.{reverse}
use Rattle.p21_express.specs.Graph.{lists}
use Rattle.p21_express.specs.Search.{state_of}
use Rattle.p21_express.proofs.SearchLemmas.{turn_falls, turn_keeps, turns_end}
use Rattle.p21_express.proofs.checks.graph.Search.go_on.Goals as goal

pub loop-vertex-smaller : goal.loop-vertex-smaller
loop-vertex-smaller c = turn_falls (lists c.args.graph.now.items) c.loop-vertex.self.marks.items c.loop-vertex.self.way.items c.pop.new.self.items (reverse c.loop-vertex.self.finished.items) c.loop-vertex.self.is_cyclic c.in-Some.vertex c.in-Some.taken (state_of c.step.new.self) c.in-Some.ensures.items c.in_ok-step.ensures

pub loop-vertex-preserved : goal.loop-vertex-preserved
loop-vertex-preserved c = λ start first h. turn_keeps (lists c.args.graph.now.items) c.loop-vertex.self.marks.items c.loop-vertex.self.way.items c.pop.new.self.items (reverse c.loop-vertex.self.finished.items) c.loop-vertex.self.is_cyclic c.in-Some.vertex c.in-Some.taken (state_of c.step.new.self) c.in-Some.ensures.items c.in_ok-step.ensures start first (c.loop-vertex.invariant start first h)

pub returns : goal.returns
returns c = λ start first h. turns_end (lists c.args.graph.now.items) c.loop-vertex.self.marks.items c.loop-vertex.self.way.items c.pop.new.self.items (reverse c.loop-vertex.self.finished.items) c.loop-vertex.self.is_cyclic _ _ c.pop.result c.loop-vertex.self.way.ok.0 c.pop.new.self.ok.0 c.in_default.not-Some c.pop.ensures.cases start first (c.loop-vertex.invariant start first h)
