use Rattle.std.proofs.Common.{◌≡◌, ◌-◌, length, Some, slice_get, sym, ap, ◌∙◌}
use Rattle.p21_tree.specs.Plain.{plain_all}
use Rattle.p21_tree.specs.Opened.{is_typed}
use Rattle.p21_tree.proofs.OpenedLemmas.{popped_typed, popped_list, last_of}
use Rattle.p21_tree.proofs.steps.in_typed.Goals as goal

pub returns-in-Some-Typed : goal.returns-in-Some-Typed
returns-in-Some-Typed c =
    let fs = c.args.nest.now.frames.items in
    let current = plain_all c.args.nest.now.current.items in
    let e : Some c.in-Some-Typed.field-0.now ≡ slice_get fs (length fs - 1) = c.in-Some-Typed.ensures.value ∙ ap (λ z. slice_get z (length z - 1)) c.as_slice.ensures in
    let r = last_of fs c.in-Some-Typed.field-0.now e in
    sym (ap is_typed (popped_typed fs r.0 c.in-Some-Typed.field-0.now c.in-Some-Typed.field-0-0 current r.1 c.in-Some-Typed.field-0-is))

pub returns-in-Some-List : goal.returns-in-Some-List
returns-in-Some-List c =
    let fs = c.args.nest.now.frames.items in
    let current = plain_all c.args.nest.now.current.items in
    let e : Some c.in-Some-List.field-0.now ≡ slice_get fs (length fs - 1) = c.in-Some-List.ensures.value ∙ ap (λ z. slice_get z (length z - 1)) c.as_slice.ensures in
    let r = last_of fs c.in-Some-List.field-0.now e in
    sym (ap is_typed (popped_list fs r.0 c.in-Some-List.field-0.now c.in-Some-List.field-0-0 current r.1 c.in-Some-List.field-0-is))
