use Rattle.std.proofs.Common.{◌≡◌, [], refl, ap, ◌∙◌}
use Rattle.p21_tree.specs.Plain.{plain, plain_all}
use Rattle.p21_tree.specs.Tree.{nil}
use Rattle.p21_tree.specs.Machine.{base}
use Rattle.p21_tree.specs.Opened.{stack_of, opened_all}
use Rattle.p21_tree.specs.Tree as tree
use Rattle.p21_tree.specs.declared.params.Param.TheViews.{Items, Typed}
use Rattle.p21_tree.proofs.OpenedLemmas.{none_of, popped_list, popped_typed, closed_base, closed_list, closed_typed, plain_items, plain_typed}
use Rattle.p21_tree.proofs.steps.close.Goals as goal

pub returns-in_ok-closed-in-None : goal.returns-in_ok-closed-in-None
returns-in_ok-closed-in-None c =
    let fs = c.args.nest.now.frames.items in
    let old = c.args.nest.now.current.items in
    let e : fs ≡ [] = none_of fs c.in-None.ensures.value in
    closed_base (stack_of c.args.nest.now) old c.in_ok-closed-in-None.field-0 c.args.param c.args.nest.now.room
    (ap (λ z. opened_all base z (plain_all old)) e) c.in_ok-closed-in-None.ensures

pub returns-in_ok-items-in-Some-List : goal.returns-in_ok-items-in-Some-List
returns-in_ok-items-in-Some-List c =
    let gs = c.pop.new.self.items in
    let fs = c.args.nest.now.frames.items in
    let old = c.args.nest.now.current.items in
    closed_list (stack_of c.args.nest.now) (opened_all base gs (plain_all c.in-Some-List.outer.items)) (opened_all base gs (plain_all c.replace.new.dest.items)) old c.in_ok-items-in-Some-List.items.items c.args.param (plain (Items c.in_ok-items-in-Some-List.items)) c.args.nest.now.room
    (popped_list fs gs c.in-Some-List.field-0 c.in-Some-List.outer (plain_all old) c.in-Some-List.ensures.items c.in-Some-List.field-0-is)
    c.in_ok-items-in-Some-List.ensures
    (plain_items c.in_ok-items-in-Some-List.items)
    (ap (λ v. opened_all base gs (plain_all v.items)) c.replace.ensures.after)

pub returns-in_ok-new-in-Some-Typed : goal.returns-in_ok-new-in-Some-Typed
returns-in_ok-new-in-Some-Typed c =
    let gs = c.pop.new.self.items in
    let fs = c.args.nest.now.frames.items in
    let old = c.args.nest.now.current.items in
    closed_typed (stack_of c.args.nest.now) (opened_all base gs (plain_all old)) (opened_all base gs (plain_all old)) c.in-Some-Typed.keyword.now (plain c.args.param) (plain (Typed c.in-Some-Typed.keyword c.in_ok-new-in-Some-Typed.field-0)) c.args.nest.now.room
    (popped_typed fs gs c.in-Some-Typed.field-0 c.in-Some-Typed.keyword (plain_all old) c.in-Some-Typed.ensures.items c.in-Some-Typed.field-0-is)
    (plain_typed c.in-Some-Typed.keyword c.in_ok-new-in-Some-Typed.field-0 ∙ ap (λ p. tree.typed c.in-Some-Typed.keyword.now (plain p)) c.in_ok-new-in-Some-Typed.ensures.ok)
    refl
