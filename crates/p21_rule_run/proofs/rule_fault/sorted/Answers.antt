use Rattle.std.proofs.Common.{rules, List, subst}
use Rattle.std.specs.List.Sorted.{IsPermutation, IsStableByKey}
use Rattle.std.specs.Ordering.{nat_cmp}
use Rattle.std.proofs.lemmas.List.Sorted.{answers_always, IsNonDecreasingBy-from_sort_by_key}
use Rattle.p21_rule_run.specs.RuleFault.{place_of}
use Rattle.p21_rule_run.specs.declared.rule_fault.RuleFault.{RuleFault}
use Rattle.p21_rule_run.proofs.rule_fault.sorted.Goals as goal

pub returns : goal.returns
returns c =
    let all = c.sort_by_key.new.self.items in
    record {
      permutation = subst (λ (l : List RuleFault). IsPermutation l all) c.in_ok-all.ensures c.sort_by_key.ensures.permutation;
      sorted = IsNonDecreasingBy-from_sort_by_key place_of all c.in_ok-sort_by_key.ensures.sorted (λ a r q k. search rules);
      stable = subst (λ (l : List RuleFault). IsStableByKey place_of nat_cmp l all) c.in_ok-all.ensures (c.sort_by_key.ensures.stable place_of (answers_always _ _ _ (λ f a r q k. search rules)));
    }
