use Rattle.p21_express.specs.Graph.{lists}
use Rattle.p21_express.specs.Search.{state_of}
use Rattle.p21_express.proofs.SearchLemmas.{decided}
use Rattle.p21_express.proofs.checks.graph.is_cyclic.Goals as goal

pub returns : goal.returns
returns c = decided (lists c.args.graph.now.items) (state_of c.in_ok-whole.field-0) c.in_ok-whole.ensures
