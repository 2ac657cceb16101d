use Rattle.std.proofs.Common.{◌≡◌, ◌+◌, ◌<◌, ◌∙◌, ℕ, Some, ap, get_or, subst, sym, arith}
use Rattle.std.specs.Prelude.{slice_get}
use Rattle.std.proofs.lemmas.List.{length-set}
use Rattle.std.proofs.lemmas.Option.{slice_get-get_or}
use Rattle.p21_check.specs.EntitySet.{keywords}
use Rattle.p21_tree.specs.Views.{plain_instance}
use Rattle.p21_rules.specs.Counters.{AreCounted, CountAll}
use Rattle.p21_rules.specs.Firsts.{seen_below}
use Rattle.p21_rules.specs.InverseCount.{RefersTo}
use Rattle.p21_rules.specs.declared.rule.InverseRule.{InverseRule}
use Rattle.p21_rules.proofs.ConcernedLemmas.{behind, concerns, last, next, within}
use Rattle.p21_rules.proofs.InverseLemmas.{instance_counted, no_rule, rule_counted, rule_passed, seen_by_all, seen_by_none}
use Rattle.p21_rules.proofs.inverse.count_instance.Goals as goal

pub loop-next-init : goal.loop-next-init
loop-next-init c = record {
  long = c.requires.long;
  left = (0, c.requires.subject.numbers, λ before e h. seen_by_none c.args.schema.now c.args.rules.now c.args.all.now.items before (plain_instance c.args.instance.now) h);
}

pub bounds-rules-number : goal.bounds-rules-number
bounds-rules-number c =
    let inv = c.loop-next.invariant.left in
    within (λ (r : InverseRule). r.source) c.args.schema.now (keywords (plain_instance c.args.instance.now)) c.args.rules.now inv.0 c.args.subject.numbers.now c.loop-next.next inv.1 c.loop-next-test.true

pub offset_bounds-rules-number : goal.offset_bounds-rules-number
offset_bounds-rules-number c =
    let inv = c.loop-next.invariant.left in
    let less = within (λ (r : InverseRule). r.source) c.args.schema.now (keywords (plain_instance c.args.instance.now)) c.args.rules.now inv.0 c.args.subject.numbers.now c.loop-next.next inv.1 c.loop-next-test.true in
    omega (arith, less)

pub push_names-requires-clause-rule : goal.push_names-requires-clause-rule
push_names-requires-clause-rule c =
    let inv = c.loop-next.invariant.left in
    let less = within (λ (r : InverseRule). r.source) c.args.schema.now (keywords (plain_instance c.args.instance.now)) c.args.rules.now inv.0 c.args.subject.numbers.now c.loop-next.next inv.1 c.loop-next-test.true in
    c.requires.rules (get_or c.args.subject.numbers.now c.loop-next.next 0) no_rule less

pub push_names-requires-clause-of : goal.push_names-requires-clause-of
push_names-requires-clause-of c =
    let s = c.args.schema.now in
    let ks = keywords (plain_instance c.args.instance.now) in
    let rules = c.args.rules.now in
    let numbers = c.args.subject.numbers.now in
    let n = get_or numbers c.loop-next.next 0 in
    let inv = c.loop-next.invariant.left in
    let less = within (λ (r : InverseRule). r.source) s ks rules inv.0 numbers c.loop-next.next inv.1 c.loop-next-test.true in
    concerns (λ (r : InverseRule). r.source) s ks rules inv.0 numbers c.loop-next.next inv.1 c.loop-next-test.true (get_or rules n no_rule) (slice_get-get_or rules n no_rule less)

pub index_mut-requires : goal.index_mut-requires
index_mut-requires c =
    let inv = c.loop-next.invariant.left in
    let less = within (λ (r : InverseRule). r.source) c.args.schema.now (keywords (plain_instance c.args.instance.now)) c.args.rules.now inv.0 c.args.subject.numbers.now c.loop-next.next inv.1 c.loop-next-test.true in
    let long = c.loop-next.invariant.long in
    omega (arith, less, long, c.loop-next.all.ok.0)

pub loop-next-preserved : goal.loop-next-preserved
loop-next-preserved c =
    let s = c.args.schema.now in
    let i = plain_instance c.args.instance.now in
    let rules = c.args.rules.now in
    let all = c.loop-next.all.items in
    let numbers = c.args.subject.numbers.now in
    let place = c.loop-next.next in
    let n = get_or numbers place 0 in
    let r = get_or rules n no_rule in
    let names = c.deref.result.now in
    let old = c.index_mut.result.now in
    let new = c.count_names.new.counters in
    let inv = c.loop-next.invariant.left in
    let less = within (λ (r : InverseRule). r.source) s (keywords i) rules inv.0 numbers place inv.1 c.loop-next-test.true in
    let there : slice_get rules n ≡ Some r = slice_get-get_or rules n no_rule less in
    let has : slice_get all n ≡ Some old =
    slice_get-get_or all n old (subst (λ m. n < m) (sym c.loop-next.invariant.long) less) ∙ ap (λ m. Some m) (sym c.index_mut.ensures.value) in
    let refers = subst (RefersTo s r i) (sym c.deref.ensures.value) c.in_ok-push_names.ensures in
    record {
      long = length-set all n new ∙ c.loop-next.invariant.long;
      left = (
        n + 1,
        behind (λ (r : InverseRule). r.source) s (keywords i) rules inv.0 numbers place inv.1 c.loop-next-test.true,
        λ before e h.
            let passed = next (λ (r : InverseRule). r.source) s (keywords i) rules inv.0 numbers place inv.1 c.loop-next-test.true (λ k. CountAll s rules all (seen_below before i k)) (rule_passed s rules all before i) (inv.2 before e h) in
            rule_counted s rules before i n r there all old new has
            (λ counts. instance_counted s r i names refers before old new counts (subst (λ (m : ℕ). AreCounted r.is_bag m names old new) (sym e) c.in_ok-count_names.ensures))
            passed.4,
      );
    }

pub returns : goal.returns
returns c = λ before e h.
    let s = c.args.schema.now in
    let i = plain_instance c.args.instance.now in
    let rules = c.args.rules.now in
    let all = c.loop-next.all.items in
    let inv = c.loop-next.invariant.left in
    let done = last (λ (r : InverseRule). r.source) s (keywords i) rules inv.0 c.args.subject.numbers.now c.loop-next.next inv.1 (λ k. CountAll s rules all (seen_below before i k)) (rule_passed s rules all before i) c.loop-next-test.false (inv.2 before e h) in
    seen_by_all s rules all before i done.0 done.1 done.2
