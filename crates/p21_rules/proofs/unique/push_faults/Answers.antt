use Rattle.std.proofs.Common.{◌+◌, get_or, length, refl, subst, sym, arith}
use Rattle.std.proofs.lemmas.Option.{slice_get_read}
use Rattle.p21_check.specs.EntitySet.{keywords}
use Rattle.p21_tree.specs.Views.{plain_instance}
use Rattle.p21_rules.specs.declared.rule.UniqueRule.{UniqueRule}
use Rattle.p21_rules.specs.NotUnique.{IsRuleOf}
use Rattle.p21_rules.proofs.ConcernedLemmas.{behind, concerns, last, next, within}
use Rattle.p21_rules.proofs.FirstLemmas.{IsLookedAt, looked_all, looked_more, looked_none, looked_over}
use Rattle.p21_rules.proofs.unique.push_faults.Goals as goal

pub loop-place-init : goal.loop-place-init
loop-place-init c = (0, c.requires.subject.numbers, λ before h. looked_none c.args.schema.now c.args.rules.now before (plain_instance c.args.instance.now) c.args.firsts.now c.args.faults.now.items h)

pub bounds-rules-number : goal.bounds-rules-number
bounds-rules-number c =
    let inv = c.loop-place.invariant in
    within (λ (r : UniqueRule). r.entity) c.args.schema.now (keywords (plain_instance c.args.instance.now)) c.args.rules.now inv.0 c.args.subject.numbers.now c.loop-place.place inv.1 c.loop-place-test.true

pub offset_bounds-rules-number : goal.offset_bounds-rules-number
offset_bounds-rules-number c =
    let inv = c.loop-place.invariant in
    let less = within (λ (r : UniqueRule). r.entity) c.args.schema.now (keywords (plain_instance c.args.instance.now)) c.args.rules.now inv.0 c.args.subject.numbers.now c.loop-place.place inv.1 c.loop-place-test.true in
    omega (arith, less)

pub breach-requires-clause-rule : goal.breach-requires-clause-rule
breach-requires-clause-rule c =
    let s = c.args.schema.now in
    let r = c.index-rules-number.result in
    let inv = c.loop-place.invariant in
    let less = within (λ (r : UniqueRule). r.entity) s (keywords (plain_instance c.args.instance.now)) c.args.rules.now inv.0 c.args.subject.numbers.now c.loop-place.place inv.1 c.loop-place-test.true in
    subst (λ (x : UniqueRule). IsRuleOf s x) (sym c.index-rules-number.is) (c.requires.rules (get_or c.args.subject.numbers.now c.loop-place.place 0) r less)

pub breach-requires-clause-of : goal.breach-requires-clause-of
breach-requires-clause-of c =
    let s = c.args.schema.now in
    let ks = keywords (plain_instance c.args.instance.now) in
    let rules = c.args.rules.now in
    let numbers = c.args.subject.numbers.now in
    let r = c.index-rules-number.result in
    let inv = c.loop-place.invariant in
    let less = within (λ (r : UniqueRule). r.entity) s ks rules inv.0 numbers c.loop-place.place inv.1 c.loop-place-test.true in
    concerns (λ (r : UniqueRule). r.entity) s ks rules inv.0 numbers c.loop-place.place inv.1 c.loop-place-test.true r (slice_get_read rules (length rules) (get_or numbers c.loop-place.place 0) r refl less c.index-rules-number.is)

pub loop-place-preserved : goal.loop-place-preserved
loop-place-preserved c =
    let s = c.args.schema.now in
    let i = plain_instance c.args.instance.now in
    let rules = c.args.rules.now in
    let numbers = c.args.subject.numbers.now in
    let place = c.loop-place.place in
    let n = get_or numbers place 0 in
    let r = c.index-rules-number.result in
    let was = c.args.faults.now.items in
    let faults = c.loop-place.faults.items in
    let firsts = c.loop-place.firsts in
    let inv = c.loop-place.invariant in
    let less = within (λ (r : UniqueRule). r.entity) s (keywords i) rules inv.0 numbers place inv.1 c.loop-place-test.true in
    let there = slice_get_read rules (length rules) n r refl less c.index-rules-number.is in (
      n + 1,
      behind (λ (r : UniqueRule). r.entity) s (keywords i) rules inv.0 numbers place inv.1 c.loop-place-test.true,
      λ before h.
          let passed = next (λ (r : UniqueRule). r.entity) s (keywords i) rules inv.0 numbers place inv.1 c.loop-place-test.true (IsLookedAt s rules before i firsts was faults) (looked_over s rules before i firsts was faults) (inv.2 before h) in
          let looked = passed.4 in
          let found = c.in_ok-found.ensures rules before there looked.held in
          looked_more s rules before i firsts c.breach.new.firsts was faults c.push_breach.new.faults.items n r c.in_ok-found.found there found.0 found.1 c.in_ok-push_breach.ensures looked,
    )

pub returns : goal.returns
returns c = λ before h.
    let s = c.args.schema.now in
    let i = plain_instance c.args.instance.now in
    let rules = c.args.rules.now in
    let was = c.args.faults.now.items in
    let faults = c.loop-place.faults.items in
    let firsts = c.loop-place.firsts in
    let inv = c.loop-place.invariant in
    let all = last (λ (r : UniqueRule). r.entity) s (keywords i) rules inv.0 c.args.subject.numbers.now c.loop-place.place inv.1 (IsLookedAt s rules before i firsts was faults) (looked_over s rules before i firsts was faults) c.loop-place-test.false (inv.2 before h) in
    looked_all s rules before i firsts was faults all.0 all.1 all.2
