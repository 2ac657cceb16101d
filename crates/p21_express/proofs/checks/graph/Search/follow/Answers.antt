use Rattle.std.proofs.Common.{◌∷◌, [], ◌+◌}
use Rattle.std.proofs.lemmas.List.{reverse-append}
use Rattle.p21_express.proofs.checks.graph.Search.follow.Goals as goal

pub returns : goal.returns
returns c = rw (c.in_ok-push.ensures.items, reverse-append c.args.self.now.way.items ((c.args.vertex, c.args.taken + 1) ∷ [])) at c.meet.ensures
