use Rattle.std.proofs.Common.{◌≡◌, [], refl, ap, ◌∙◌}
use Rattle.p21_tree.specs.Plain.{plain_all}
use Rattle.p21_tree.specs.Tree.{nil}
use Rattle.p21_tree.specs.Machine.{base, list}
use Rattle.p21_tree.specs.Opened.{stack_of, opened_all}
use Rattle.p21_tree.specs.declared.nest.Frame.TheVariants as frame
use Rattle.p21_tree.proofs.OpenedLemmas.{begin_open, popped_list}
use Rattle.p21_tree.proofs.steps.begin_list.Goals as goal

pub returns : goal.returns
returns c =
    let gs = c.push.new.self.items in
    let fs = c.args.nest.now.frames.items in
    let e : c.replace-outer.new.dest.items ≡ [] = ap (λ v. v.items) c.replace-outer.ensures.after ∙ c.emptied-inner.ensures in
    begin_open (stack_of c.args.nest.now) (opened_all base gs (plain_all c.replace-outer.new.dest.items)) c.args.nest.now.room c.if-nest-eq0.false
    (popped_list gs fs (frame.List c.replace-outer.result) c.replace-outer.result (plain_all c.replace-outer.new.dest.items) c.in_ok-push.ensures.ok refl
    ∙ (ap (λ z. list (plain_all z) (opened_all base fs (plain_all c.replace-outer.result.items))) e
    ∙ ap (λ v. list nil (opened_all base fs (plain_all v.items))) c.replace-outer.ensures.value))
