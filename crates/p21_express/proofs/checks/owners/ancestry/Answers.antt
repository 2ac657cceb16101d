use Rattle.std.proofs.lemmas.Result.{IfOk-weaker}
use Rattle.p21_graph.specs.Reach.{IsReach}
use Rattle.p21_express.specs.Graph.{lists}
use Rattle.p21_express.specs.Owners.{IsAncestry}
use Rattle.p21_express.specs.Plain.{plain_schema}
use Rattle.p21_express.proofs.AncestryLemmas.{acyclic, ancestry_of, edges_below}
use Rattle.p21_express.proofs.CycleLemmas.{entities_to_graph}
use Rattle.p21_express.proofs.checks.owners.ancestry.Goals as goal

pub order-requires-clause-edges : goal.order-requires-clause-edges
order-requires-clause-edges c = edges_below (plain_schema c.args.checked.declarations.now) (lists c.in_ok-supertypes.supertypes.items) c.in_ok-supertypes.ensures

pub order-requires-clause-cycles : goal.order-requires-clause-cycles
order-requires-clause-cycles c =
    let s = plain_schema c.args.checked.declarations.now in
    let g = lists c.in_ok-supertypes.supertypes.items in
    acyclic s g c.in_ok-supertypes.ensures (entities_to_graph s g c.in_ok-supertypes.ensures c.requires.cycles.entities)

pub returns : goal.returns
returns c =
    let s = plain_schema c.args.checked.declarations.now in
    let g = lists c.in_ok-supertypes.supertypes.items in
    IfOk-weaker c.reached_with_itself.result (λ table. IsReach g table) (λ table. IsAncestry s table) (ancestry_of s g c.in_ok-supertypes.ensures c.requires.index.distinct c.requires.unknown) c.reached_with_itself.ensures
