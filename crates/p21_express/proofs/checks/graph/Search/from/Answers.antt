use Rattle.p21_express.specs.Graph.{lists}
use Rattle.p21_express.specs.Search.{state_of}
use Rattle.p21_express.proofs.SearchLemmas.{begins}
use Rattle.p21_express.proofs.checks.graph.Search.from.Goals as goal

pub returns : goal.returns
returns c = λ h. c.go_on.ensures c.args.vertex (state_of c.args.self.now) (rw c.in_ok-meet.ensures (begins (lists c.args.graph.now.items) c.args.vertex (state_of c.args.self.now) h))
