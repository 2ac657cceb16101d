-- Operators, by the values that were read of aggregates.
use Rattle.std.proofs.Common.{◌≡◌, ℤ, List, length, map, ap, sym, ◌∙◌, Vec, Global}
use Rattle.std.specs.declared.rc.Rc.{Rc}
use Rattle.p21_values.specs.Aggregates.{first_index}
use Rattle.p21_values.specs.Operators.{at_least, at_most}
use Rattle.p21_values.specs.Parts.{at_index, element_at}
use Rattle.p21_values.specs.Plain.{listed, plain, plain_all, several}
use Rattle.p21_values.specs.Sets.{subset_of}
use Rattle.p21_values.specs.declared.kind.Kind.{Kind}
use Rattle.p21_values.specs.declared.value.Value.{Value}
use Rattle.p21_values.specs.declared.value.Value.TheVariants.{Aggregate}
use Rattle.p21_values.proofs.SameLemmas.{aggregate_is, listed_all}

module _ (v w : Value) (k l : Kind) (r s : Rc (Vec Value Global) Global) (x : Vec Value Global) (xs : List Value) (y : Vec Value Global) (ys : List Value) (ev : v ≡ Aggregate k r) (ew : w ≡ Aggregate l s) (ex : x ≡ r.value) (exs : xs ≡ x.items) (ey : y ≡ s.value) (eys : ys ≡ y.items) where
  pub at_most_is : at_most (plain v) (plain w) ≡ subset_of (map plain xs) (map plain ys)
  at_most_is =
      ap (λ a. at_most a (plain w)) (aggregate_is v k r x xs ev ex exs)
      ∙ ap (λ b. at_most (several k (plain_all xs)) b) (aggregate_is w l s y ys ew ey eys)
      ∙ ap (λ z. subset_of z (listed (plain_all ys))) (listed_all xs)
      ∙ ap (subset_of (map plain xs)) (listed_all ys)

  pub at_least_is : at_least (plain v) (plain w) ≡ subset_of (map plain ys) (map plain xs)
  at_least_is =
      ap (λ a. at_least a (plain w)) (aggregate_is v k r x xs ev ex exs)
      ∙ ap (λ b. at_least (several k (plain_all xs)) b) (aggregate_is w l s y ys ew ey eys)
      ∙ ap (λ z. subset_of z (listed (plain_all xs))) (listed_all ys)
      ∙ ap (subset_of (map plain ys)) (listed_all xs)

pub at_index_is : (v : Value) (k : Kind) (r : Rc (Vec Value Global) Global) (w : Vec Value Global) (xs : List Value) (i first : ℤ) → v ≡ Aggregate k r → w ≡ r.value → xs ≡ w.items → first ≡ first_index k → element_at (map plain xs) first i ≡ at_index (plain v) i
at_index_is v k r w xs i first e f g h =
    ap (λ n. element_at (map plain xs) n i) h ∙ sym (ap (λ a. at_index a i) (aggregate_is v k r w xs e f g) ∙ ap (λ z. element_at z (first_index k) i) (listed_all xs))
