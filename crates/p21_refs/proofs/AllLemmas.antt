-- What answers at all places say of the reference faults of a model.
use Rattle.std.proofs.Common.{◌≡◌, ℕ, zero, suc, ◌+◌, ◌<◌, Option, None, Some, List, [], ◌∷◌, length, get_or, sym, ap, subst, ◌∙◌, arith}
use Rattle.std.specs.List.{AllZip, range_with_len, filter_map}
use Rattle.p21_express.specs.Schema.{Schema}
use Rattle.p21_tree.specs.declared.faults.Fault.{Fault}
use Rattle.p21_tree.specs.declared.faults.FaultKind.{FaultKind}
use Rattle.p21_tree.specs.declared.instances.RawInstance.{RawInstance}
use Rattle.p21_tree.specs.Sentence.{Instance}
use Rattle.p21_tree.specs.Views.{plain_instance}
use Rattle.p21_check.specs.References.{IsReferenceFault, named_in}
use Rattle.p21_join.specs.declared.model.Model.{Model}
use Rattle.p21_join.specs.Model.{instances_of, plain_instances}
use Rattle.p21_refs.specs.AllReferenceFaults.{AreReferenceFaults}
use Rattle.p21_refs.specs.AllReferenceFaults as faults
use Rattle.p21_refs.specs.Places.{IsFaultAt}
use Rattle.p21_refs.proofs.PlaceLemmas.{StandsAt, at_place, plain_there}

-- what is asked of an instance, among those of the same model, is so of the one at its place
pub none_at : (s : Schema) (m n : Model) (place : ℕ) (i : RawInstance) → n ≡ m → StandsAt m place i
    → IsReferenceFault s (named_in (plain_instances (instances_of n))) (plain_instance i) None → IsFaultAt s (plain_instances (instances_of m)) place None
none_at s m n place i same h answered =
    at_place s m place i None h (subst (λ x. IsReferenceFault s (named_in (plain_instances (instances_of x))) (plain_instance i) None) same answered)

pub some_at : (s : Schema) (m n : Model) (place : ℕ) (i : RawInstance) (kind : FaultKind) → n ≡ m → StandsAt m place i
    → IsReferenceFault s (named_in (plain_instances (instances_of n))) (plain_instance i) (Some kind) → IsFaultAt s (plain_instances (instances_of m)) place (Some (record { kind = kind; at = i.at }))
some_at s m n place i kind same h faulty d =
    let here = subst (λ x. IsReferenceFault s (named_in (plain_instances (instances_of x))) (plain_instance i) (Some kind)) same faulty in
    (at_place s m place i (Some kind) h here d, ap (λ x. x.at) (sym (plain_there m place i h d)))

module _ (s : Schema) (all : List Instance) where
  -- the instances from a place on
  abbrev Stand : ℕ → List Instance → Type 0
  Stand from is = (k : ℕ) (d : Instance) → k < length is → get_or all (from + k) d ≡ get_or is k d

  stand_behind : (from : ℕ) (i : Instance) (is : List Instance) → Stand from (i ∷ is) → Stand (from + 1) is
  stand_behind from i is h k d less =
      let same : from + suc k ≡ from + 1 + k = omega arith in
      ap (λ p. get_or all p d) (sym same) ∙ h (suc k) d (omega (arith, less))

  one_more : (from : ℕ) (i : Instance) (is : List Instance) (o : Option Fault) (os : List (Option Fault)) → Stand from (i ∷ is) → IsFaultAt s all from o
      → AreReferenceFaults s all is (filter_map (λ x. x) os) → AreReferenceFaults s all (i ∷ is) (filter_map (λ x. x) (o ∷ os))
  one_more from i is None os stand here rest =
      let there : get_or all from i ≡ i = ap (λ p. get_or all p i) (omega arith) ∙ stand zero i (omega arith) in
      faults.answered (subst (λ x. IsReferenceFault s (named_in all) x None) there (here i)) rest
  one_more from i is (Some f) os stand here rest =
      let there : get_or all from i ≡ i = ap (λ p. get_or all p i) (omega arith) ∙ stand zero i (omega arith) in
      let own = here i in
      let place : i.at ≡ f.at = sym (own.1 ∙ ap (λ x. x.at) there) in
      let made = faults.faulty {kind = f.kind} (subst (λ x. IsReferenceFault s (named_in all) x (Some f.kind)) there own.0) rest in
      subst (λ a. AreReferenceFaults s all (i ∷ is) (record { kind = f.kind; at = a } ∷ filter_map (λ x. x) os)) place made

  from_places : (from : ℕ) (is : List Instance) (os : List (Option Fault)) → Stand from is → AllZip (IsFaultAt s all) (range_with_len from (length is)) os
      → AreReferenceFaults s all is (filter_map (λ x. x) os)
  from_places from [] [] stand h = faults.none
  from_places from [] (o ∷ os) stand h = absurd h
  from_places from (i ∷ is) [] stand h = absurd h
  from_places from (i ∷ is) (o ∷ os) stand h = one_more from i is o os stand h.0 (from_places (from + 1) is os (stand_behind from i is stand) h.1)

  -- what is answered at all places, where it is a fault
  pub all_found : (os : List (Option Fault)) → AllZip (IsFaultAt s all) (range_with_len 0 (length all)) os → AreReferenceFaults s all all (filter_map (λ x. x) os)
  all_found os h = from_places 0 all os (λ k d less. ap (λ p. get_or all p d) (omega arith)) h
