use Rattle.std.proofs.Common.{arith, sym, ◌∙◌}
use Rattle.p21_express.specs.Graph.{lists}
use Rattle.p21_express.specs.Search.{state_of}
use Rattle.p21_express.proofs.GraphLemmas.{lists_length}
use Rattle.p21_express.proofs.SearchLemmas.{blank_rests, is_finished}
use Rattle.p21_express.proofs.checks.graph.Search.whole.Goals as goal

pub loop-vertex-init : goal.loop-vertex-init
loop-vertex-init c = (blank_rests (lists c.args.graph.now.items) (state_of c.in_ok-search.search) (c.in_ok-search.ensures (lists c.args.graph.now.items) (lists_length c.args.graph.now.items ∙ sym c.args.graph.now.ok.0 ∙ sym c.len.ensures)), λ v lt. absurd (omega (arith, lt)))

pub returns : goal.returns
returns c = record {
  search = c.loop-vertex.invariant.0.search;
  finished = λ v lt. is_finished (lists c.args.graph.now.items) (state_of c.loop-vertex.search) v c.loop-vertex.invariant.0 (c.loop-vertex.invariant.1 v (omega (arith, lt, lists_length c.args.graph.now.items, c.args.graph.now.ok.0, c.len-vertex-end.ensures)));
}
