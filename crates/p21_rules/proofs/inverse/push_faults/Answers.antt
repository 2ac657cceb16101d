use Rattle.std.proofs.Common.{◌≡◌, ◌+◌, ◌<◌, ◌∙◌, Some, ap, get_or, subst, sym, arith}
use Rattle.std.specs.Prelude.{slice_get}
use Rattle.std.proofs.lemmas.Option.{slice_get-get_or}
use Rattle.p21_check.specs.EntitySet.{keywords}
use Rattle.p21_tree.specs.Views.{plain_instance}
use Rattle.p21_rules.specs.declared.rule.InverseRule.{InverseRule}
use Rattle.p21_rules.specs.InverseCount.{IsCount}
use Rattle.p21_rules.proofs.ConcernedLemmas.{behind, concerns, last, next, within}
use Rattle.p21_rules.proofs.InverseLemmas.{IsFaultedBelow, faulted_all, faulted_more, faulted_over, no_rule}
use Rattle.p21_rules.proofs.inverse.push_faults.Goals as goal

pub bounds-rules-number : goal.bounds-rules-number
bounds-rules-number c =
    let inv = c.loop-place.invariant in
    within (λ (r : InverseRule). r.entity) c.args.schema.now (keywords (plain_instance c.args.instance.now)) c.args.rules.now inv.0 c.args.subject.numbers.now c.loop-place.place inv.1 c.loop-place-test.true

pub offset_bounds-rules-number : goal.offset_bounds-rules-number
offset_bounds-rules-number c =
    let inv = c.loop-place.invariant in
    let less = within (λ (r : InverseRule). r.entity) c.args.schema.now (keywords (plain_instance c.args.instance.now)) c.args.rules.now inv.0 c.args.subject.numbers.now c.loop-place.place inv.1 c.loop-place-test.true in
    omega (arith, less)

pub bounds-all-number : goal.bounds-all-number
bounds-all-number c =
    let inv = c.loop-place.invariant in
    let less = within (λ (r : InverseRule). r.entity) c.args.schema.now (keywords (plain_instance c.args.instance.now)) c.args.rules.now inv.0 c.args.subject.numbers.now c.loop-place.place inv.1 c.loop-place-test.true in
    subst (λ n. get_or c.args.subject.numbers.now c.loop-place.place 0 < n) (sym c.requires.long) less

pub offset_bounds-all-number : goal.offset_bounds-all-number
offset_bounds-all-number c =
    let inv = c.loop-place.invariant in
    let less = within (λ (r : InverseRule). r.entity) c.args.schema.now (keywords (plain_instance c.args.instance.now)) c.args.rules.now inv.0 c.args.subject.numbers.now c.loop-place.place inv.1 c.loop-place-test.true in
    let long = c.requires.long in
    omega (arith, less, long)

pub loop-place-preserved : goal.loop-place-preserved
loop-place-preserved c =
    let s = c.args.schema.now in
    let i = plain_instance c.args.instance.now in
    let rules = c.args.rules.now in
    let all = c.args.all.now in
    let numbers = c.args.subject.numbers.now in
    let place = c.loop-place.place in
    let n = get_or numbers place 0 in
    let r = get_or rules n no_rule in
    let counters = c.index-all-number.result in
    let was = c.args.faults.now.items in
    let faults = c.loop-place.faults.items in
    let inv = c.loop-place.invariant in
    let less = within (λ (r : InverseRule). r.entity) s (keywords i) rules inv.0 numbers place inv.1 c.loop-place-test.true in
    let there : slice_get rules n ≡ Some r = slice_get-get_or rules n no_rule less in
    let has : slice_get all n ≡ Some counters = slice_get-get_or all n counters (subst (λ m. n < m) (sym c.requires.long) less) ∙ ap (λ m. Some m) (sym c.index-all-number.is) in
    let of = concerns (λ (r : InverseRule). r.entity) s (keywords i) rules inv.0 numbers place inv.1 c.loop-place-test.true r there in (
      n + 1,
      behind (λ (r : InverseRule). r.entity) s (keywords i) rules inv.0 numbers place inv.1 c.loop-place-test.true,
      λ is held.
          let passed = next (λ (r : InverseRule). r.entity) s (keywords i) rules inv.0 numbers place inv.1 c.loop-place-test.true (IsFaultedBelow s rules is i was faults) (faulted_over s rules is i was faults) (inv.2 is held) in
          let counts = subst (IsCount s r i.name is) (sym c.count_of-count.ensures) (held.each n r counters there has i.name).0 in
          faulted_more s rules is i was faults c.push_fault.new.faults.items n r c.count_of-count.result there of counts c.in_ok-push_fault.ensures passed.4,
    )

pub returns : goal.returns
returns c = λ is held.
    let s = c.args.schema.now in
    let i = plain_instance c.args.instance.now in
    let rules = c.args.rules.now in
    let was = c.args.faults.now.items in
    let faults = c.loop-place.faults.items in
    let inv = c.loop-place.invariant in
    let all = last (λ (r : InverseRule). r.entity) s (keywords i) rules inv.0 c.args.subject.numbers.now c.loop-place.place inv.1 (IsFaultedBelow s rules is i was faults) (faulted_over s rules is i was faults) c.loop-place-test.false (inv.2 is held) in
    faulted_all s rules is i was faults all.0 all.1 all.2
