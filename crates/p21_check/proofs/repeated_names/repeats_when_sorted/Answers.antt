use Rattle.std.proofs.lemmas.List.Sorted.{IsNonDecreasingBy-from_sort, IsPermutation-sym}
use Rattle.p21_check.proofs.TwiceLemmas.{twice_permuted}
use Rattle.p21_check.proofs.repeated_names.repeats_when_sorted.Goals as goal

pub has_equal_neighbors-requires : goal.has_equal_neighbors-requires
has_equal_neighbors-requires c = IsNonDecreasingBy-from_sort (λ x. x) c.sort_unstable.new.self c.sort_unstable.ensures.sorted

pub returns : goal.returns
returns c =
    let old = c.args.names.now in
    let sorted = c.sort_unstable.new.self in
    let p = c.sort_unstable.ensures.permutation in (
      λ t. twice_permuted sorted old (IsPermutation-sym old sorted p) (c.has_equal_neighbors.ensures.0 t),
      λ h. c.has_equal_neighbors.ensures.1 (twice_permuted old sorted p h),
    )
