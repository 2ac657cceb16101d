use Rattle.std.proofs.Common.{◌≡◌, [], length, ap, ◌∙◌, rules}
use Rattle.p21_tree.specs.Plain.{plain, plain_all}
use Rattle.p21_tree.specs.Tree.{nil}
use Rattle.p21_tree.specs.Machine.{base}
use Rattle.p21_tree.specs.Opened.{stack_of, opened_all}
use Rattle.p21_tree.proofs.OpenedLemmas.{no_items, none_refused, none_list, none_typed, popped_list, popped_typed, plain_items}
use Rattle.p21_tree.specs.Tree as tree
use Rattle.p21_tree.specs.declared.params.Param.TheViews.{Items}
use Rattle.p21_tree.proofs.steps.close_none.Goals as goal

pub returns-then-not-is_empty : goal.returns-then-not-is_empty
returns-then-not-is_empty c =
    none_refused c.args.nest.now.frames.items c.args.nest.now.current.items c.args.nest.now.room (search (rules, c.if-not-is_empty.ensures))

pub returns-in-Some-List : goal.returns-in-Some-List
returns-in-Some-List c =
    let gs = c.pop.new.self.items in
    let fs = c.args.nest.now.frames.items in
    let old = c.args.nest.now.current.items in
    let len : length old ≡ 0 = search (rules, c.if-not-is_empty.ensures) in
    let empty : old ≡ [] = no_items old len in
    none_list (stack_of c.args.nest.now) (opened_all base gs (plain_all c.in-Some-List.outer.items)) (opened_all base gs (plain_all c.replace.new.dest.items)) c.args.nest.now.room (plain_all old) (plain (Items c.new-in-Some-List.result))
    (popped_list fs gs c.in-Some-List.field-0 c.in-Some-List.outer (plain_all old) c.in-Some-List.ensures.items c.in-Some-List.field-0-is)
    (ap plain_all empty)
    (ap (λ v. opened_all base gs (plain_all v.items)) (c.replace.ensures.after ∙ c.in-Some-List.outer-is))
    (plain_items c.new-in-Some-List.result ∙ ap (λ z. tree.items (plain_all z)) c.new-in-Some-List.ensures.items)

pub returns-in-Some-Typed : goal.returns-in-Some-Typed
returns-in-Some-Typed c =
    none_typed (stack_of c.args.nest.now) (opened_all base c.pop.new.self.items (plain_all c.args.nest.now.current.items)) c.args.nest.now.room c.in-Some-Typed.field-0-0.now
    (popped_typed c.args.nest.now.frames.items c.pop.new.self.items c.in-Some-Typed.field-0 c.in-Some-Typed.field-0-0 (plain_all c.args.nest.now.current.items) c.in-Some-Typed.ensures.items c.in-Some-Typed.field-0-is)
