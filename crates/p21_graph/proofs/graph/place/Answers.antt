use Rattle.std.proofs.Common.{⊎_elim, inl}
use Rattle.p21_graph.specs.Members.{IsIn}
use Rattle.p21_graph.specs.Graph.{IsMarked}
use Rattle.p21_graph.proofs.graph.place.Goals as goal

pub loop-placed-preserved : goal.loop-placed-preserved
loop-placed-preserved c = record {
  walk = c.in_ok-step.ensures.walk;
  start = ⊎_elim (λ (m : IsMarked c.loop-placed.placed c.args.start). inl (c.in_ok-step.ensures.grows c.args.start m)) (λ (i : IsIn c.loop-placed.way.items c.args.start). c.in_ok-step.ensures.keeps c.args.start i) c.loop-placed.invariant.start;
  grows = λ v m. c.in_ok-step.ensures.grows v (c.loop-placed.invariant.grows v m);
}
