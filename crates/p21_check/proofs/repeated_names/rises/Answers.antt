use Rattle.std.proofs.Common.{Some, None, sym, subst}
use Rattle.p21_check.proofs.RepeatedNameLemmas.{names_left, none_left}
use Rattle.p21_check.proofs.TwiceLemmas.{IsRising, rising_once}
use Rattle.p21_check.proofs.repeated_names.rises.Goals as goal
use Rattle.p21_check.proofs.repeated_names.rises.Goals.{in-Some+else-not-is_above, in_default}

pub loop-element-init : goal.loop-element-init
loop-element-init c = rising_once None _

pub loop-element-preserved : goal.loop-element-preserved
loop-element-preserved c =
    let ps = c.args.elements.now in
    let i = c.loop-element.element-index in
    let d = c.element-item.result in
    let last = c.loop-element.last in
    elim c.match-name_of.branch [
      | in-Some+else-not-is_above w ↦ (let e = names_left ps i d (Some w.in-Some.name) c.loop-element-test.true c.element-item.is w.in-Some.ensures in
          rw w.last-is (λ h. c.loop-element.invariant (subst (IsRising last) (sym e) (w.is_above.ensures.0 w.if-not-is_above.false, h))))
      | in_default w ↦ (let e = names_left ps i d None c.loop-element-test.true c.element-item.is w.in_default.ensures in
          rw w.last-is (λ h. c.loop-element.invariant (subst (IsRising last) (sym e) h)))
    ]

pub returns : goal.returns
returns c = λ _. c.loop-element.invariant (subst (IsRising c.loop-element.last) (sym (none_left c.args.elements.now c.loop-element.element-index c.loop-element-test.false)) tt)
