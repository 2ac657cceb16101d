use Rattle.std.specs.Prelude.{Vec}
use Rattle.std.specs.declared.alloc.AllocError.{AllocError}
use Rattle.std.proofs.Common.{◌≡◌, Result, Ok, Err, IfOk, Global, List, ℕ, map}
use Rattle.p21_express.specs.Schema.{Schema, Defined}
use Rattle.p21_express.specs.Plain.{plain_type}
use Rattle.p21_graph.specs.Graph.{plain_graph}
use Rattle.p21_schema.specs.Under.{AreOthers, AreEnds}
use Rattle.p21_schema.proofs.UnderLemmas.{type_names, others_below, no_other_cycle, others_for}
use Rattle.p21_schema.proofs.under.type_ends.Goals as goal

pub order-requires-clause-edges : goal.order-requires-clause-edges
order-requires-clause-edges c =
    let s = c.requires.cycles.0 in
    let h = others_for s c.args.types.now (plain_graph c.in_ok-graph.graph) (map plain_type c.args.decls.now) c.requires.cycles.1.0 c.requires.names c.in_ok-graph.ensures in
    others_below s (plain_graph c.in_ok-graph.graph) h

pub order-requires-clause-cycles : goal.order-requires-clause-cycles
order-requires-clause-cycles c =
    let s = c.requires.cycles.0 in
    let h = others_for s c.args.types.now (plain_graph c.in_ok-graph.graph) (map plain_type c.args.decls.now) c.requires.cycles.1.0 c.requires.names c.in_ok-graph.ensures in
    no_other_cycle s (plain_graph c.in_ok-graph.graph) h c.requires.cycles.1.1

module _ (s : Schema) (graph types : List (List ℕ)) (all : List Defined) where
  along : types ≡ map (λ (t : Defined). t.name) all → AreOthers types graph all → s.types ≡ all → AreOthers (type_names s) graph s.types
  along n h e = others_for s types graph all e n h

-- an answer that holds for all others holds for the types
ends_along : (r : Result (Vec ℕ Global) AllocError) (graph types : List (List ℕ)) (all : List Defined) → types ≡ map (λ (t : Defined). t.name) all → AreOthers types graph all
    → IfOk r (λ ends. (s : Schema) → AreOthers (type_names s) graph s.types → AreEnds s ends.items) → IfOk r (λ ends. (s : Schema) → s.types ≡ all → AreEnds s ends.items)
ends_along (Ok v) graph types all n h f = λ s e. f s (along s graph types all n h e)
ends_along (Err x) graph types all n h f = f

pub returns : goal.returns
returns c = ends_along c.ends.result (plain_graph c.in_ok-graph.graph) c.args.types.now (map plain_type c.args.decls.now) c.requires.names c.in_ok-graph.ensures c.ends.ensures
