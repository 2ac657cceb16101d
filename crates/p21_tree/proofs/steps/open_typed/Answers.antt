use Rattle.std.proofs.Common.{refl}
use Rattle.p21_tree.specs.Plain.{plain_all}
use Rattle.p21_tree.specs.Machine.{base}
use Rattle.p21_tree.specs.Opened.{stack_of, opened_all}
use Rattle.p21_tree.specs.declared.nest.Frame.TheVariants as frame
use Rattle.p21_tree.proofs.OpenedLemmas.{open_typed_room, popped_typed}
use Rattle.p21_tree.proofs.steps.open_typed.Goals as goal

pub returns : goal.returns
returns c =
    let gs = c.push.new.self.items in
    let fs = c.args.nest.now.frames.items in
    open_typed_room c.args.keyword.now (stack_of c.args.nest.now) (opened_all base gs (plain_all c.args.nest.now.current.items)) c.args.nest.now.room c.if-nest-eq0.false
    (popped_typed gs fs (frame.Typed c.args.keyword) c.args.keyword (plain_all c.args.nest.now.current.items) c.in_ok-push.ensures.ok refl)
