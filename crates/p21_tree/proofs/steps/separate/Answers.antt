use Rattle.std.proofs.Common.{sym}
use Rattle.p21_tree.proofs.OpenedLemmas.{comma_taken}
use Rattle.p21_tree.proofs.steps.separate.Goals as goal

pub returns : goal.returns
returns c =
    comma_taken c.args.nest.now.frames.items c.args.nest.now.current.items c.push.new.self.items c.args.param c.args.nest.now.room (sym c.if-in_typed.ensures) c.in_ok-push.ensures.items
