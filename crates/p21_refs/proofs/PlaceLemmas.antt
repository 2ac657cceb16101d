-- Instances by their places, and what is said of their references.
use Rattle.std.proofs.Common.{◌≡◌, inl, inr, ℕ, suc, ◌+◌, ◌<◌, ◌≤◌, Bool, Option, None, Some, List, [], ◌∷◌, ◌++◌, length, take, drop, get_or, refl, sym, ap, subst, ◌∙◌, arith, length-take-le, take-append-drop}
use Rattle.std.specs.Prelude.{Result, Ok, Err, MatchResult, is_err}
use Rattle.std.specs.List.{AllZip}
use Rattle.std.proofs.lemmas.Bool.{cases_lt}
use Rattle.std.proofs.lemmas.List.{get_or-map, get_or-take, get_or_default, length-map}
use Rattle.std.proofs.lemmas.List.Elements.{All-get_or}
use Rattle.std.proofs.Math.Seq.{drop-cons}
use Rattle.p21_express.specs.Schema.{Schema}
use Rattle.p21_schema.specs.declared.ids.EntityId.{EntityId}
use Rattle.p21_tree.specs.declared.faults.FaultKind.{FaultKind}
use Rattle.p21_tree.specs.declared.instances.RawInstance.{RawInstance}
use Rattle.p21_tree.specs.Sentence.{Instance}
use Rattle.p21_tree.specs.Views.{plain_instance}
use Rattle.p21_check.specs.EntityOf.{AreSimpleEntities, IsSimpleEntity}
use Rattle.p21_check.specs.LocalFault.{IsLocalFault}
use Rattle.p21_check.specs.References.{IsReferenceFault, named_in}
use Rattle.p21_join.specs.declared.model.Model.{Model}
use Rattle.p21_join.specs.Model.{instances_of, plain_instances}
use Rattle.p21_refs.specs.FirstReferenceFault.{AreAnswered, AreSound, IsFirstReferenceFault}
use Rattle.p21_refs.specs.Places.{AreAnsweredBefore, IsAnsweredAt, IsFaultinessAt, IsFirstFaulty}

-- the instance of a model at a place, and what it stands for
pub record StandsAt (m : Model) (place : ℕ) (i : RawInstance) : Type 0 where
  pub less : place < length (instances_of m)
  pub there : i ≡ get_or (instances_of m) place i

pub plain_there : (m : Model) (place : ℕ) (i : RawInstance) → StandsAt m place i → (d : Instance) → get_or (plain_instances (instances_of m)) place d ≡ plain_instance i
plain_there m place i h d =
    let is = instances_of m in
    let here : get_or (plain_instances is) place (plain_instance i) ≡ plain_instance i = get_or-map plain_instance is place i (plain_instance i) h.less ∙ ap plain_instance (sym h.there) in
    get_or_default (plain_instances is) place d (plain_instance i) (omega (arith, h.less, length-map is plain_instance)) ∙ here

-- an instance of a model without faults of their own has none
pub sound_at : (s : Schema) (m : Model) (place : ℕ) (i : RawInstance) → AreSound s (plain_instances (instances_of m)) → StandsAt m place i → IsLocalFault s (plain_instance i) None
sound_at s m place i sound h =
    let all = plain_instances (instances_of m) in
    subst (λ x. IsLocalFault s x None) (plain_there m place i h (plain_instance i))
    (All-get_or (λ x. IsLocalFault s x None) all place (plain_instance i) (omega (arith, h.less, length-map (instances_of m) plain_instance)) sound)

-- the entity of the instance at a place, as a view of the same model by the same schema tells it
pub own_at : (s t : Schema) (m n : Model) (place : ℕ) (i : RawInstance) (own : Option EntityId) → t ≡ s → n ≡ m → StandsAt m place i
    → ((d : RawInstance) → IsSimpleEntity t (plain_instance (get_or (instances_of n) place d)) own) → IsSimpleEntity s (plain_instance i) own
own_at s t m n place i own e f h known =
    subst (λ x. IsSimpleEntity s (plain_instance x) own) (sym h.there)
    (subst (λ x. IsSimpleEntity s (plain_instance (get_or (instances_of x) place i)) own) f
    (subst (λ x. IsSimpleEntity x (plain_instance (get_or (instances_of n) place i)) own) e (known i)))

-- what is said of the references of an instance is said of those of the instance at its place
pub at_place : (s : Schema) (m : Model) (place : ℕ) (i : RawInstance) (fault : Option FaultKind) → StandsAt m place i
    → IsReferenceFault s (named_in (plain_instances (instances_of m))) (plain_instance i) fault
    → (d : Instance) → IsReferenceFault s (named_in (plain_instances (instances_of m))) (get_or (plain_instances (instances_of m)) place d) fault
at_place s m place i fault h is_fault d =
    subst (λ x. IsReferenceFault s (named_in (plain_instances (instances_of m))) x fault) (sym (plain_there m place i h d)) is_fault

-- the answer that is asked of an instance, among those of the same model, tells whether the instance at its place is at fault
pub faultiness : (s : Schema) (m n : Model) (place : ℕ) (i : RawInstance) (answer : Result (Unit {0}) FaultKind) (b : Bool) → n ≡ m → StandsAt m place i
    → MatchResult answer (λ _. IsReferenceFault s (named_in (plain_instances (instances_of n))) (plain_instance i) None) (λ kind. IsReferenceFault s (named_in (plain_instances (instances_of n))) (plain_instance i) (Some kind))
    → b ≡ is_err answer → IsFaultinessAt s (plain_instances (instances_of m)) place b
faultiness s m n place i (Ok u) b same h answered e =
    let answer = subst (λ x. IsReferenceFault s (named_in (plain_instances (instances_of x))) (plain_instance i) None) same answered in
    subst (IsFaultinessAt s (plain_instances (instances_of m)) place) (sym e) (at_place s m place i None h answer)
faultiness s m n place i (Err kind) b same h faulty e =
    let answer = subst (λ x. IsReferenceFault s (named_in (plain_instances (instances_of x))) (plain_instance i) (Some kind)) same faulty in
    subst (IsFaultinessAt s (plain_instances (instances_of m)) place) (sym e) (kind, at_place s m place i (Some kind) h answer)

-- the fault of the first instance that has one
pub first_fault : (s : Schema) (m : Model) (place : ℕ) (i : RawInstance) (kind : FaultKind) → StandsAt m place i
    → ((k : ℕ) → k < place → (d : Instance) → IsReferenceFault s (named_in (plain_instances (instances_of m))) (get_or (plain_instances (instances_of m)) k d) None)
    → IsReferenceFault s (named_in (plain_instances (instances_of m))) (plain_instance i) (Some kind)
    → IsFirstReferenceFault s (plain_instances (instances_of m)) (record { kind = kind; at = i.at })
first_fault s m place i kind h before is_fault =
    let all = plain_instances (instances_of m) in
    let less : place < length all = omega (arith, h.less, length-map (instances_of m) plain_instance) in
    record {
      earlier = take place all;
      later = drop (suc place) all;
      instance = plain_instance i;
      parts = sym (take-append-drop place all) ∙ ap (λ l. take place all ++ l) (drop-cons all place (plain_instance i) less ∙ ap (λ y. y ∷ drop (suc place) all) (plain_there m place i h (plain_instance i)));
      answered = λ k d within.
          let earlier : k < place = (let l = within in omega (arith, length-take-le place all (omega arith))) in
          subst (λ x. IsReferenceFault s (named_in all) x None) (sym (get_or-take place all k d earlier)) (before k earlier d);
      is_fault = is_fault;
      place = refl;
    }

-- one more instance that is answered
pub answered_more : (s : Schema) (m : Model) (place : ℕ) (i : RawInstance) → StandsAt m place i → AreAnsweredBefore s (plain_instances (instances_of m)) place
    → IsReferenceFault s (named_in (plain_instances (instances_of m))) (plain_instance i) None → AreAnsweredBefore s (plain_instances (instances_of m)) (place + 1)
answered_more s m place i h before answered k less = elim (cases_lt k place) [
  | inl earlier ↦ before k earlier
  | inr here ↦ let same : place ≡ k = omega arith in subst (IsAnsweredAt s (plain_instances (instances_of m))) same (at_place s m place i None h answered)
]

-- no instance stands after the last
pub answered_all : (s : Schema) (m : Model) (end : ℕ) → length (instances_of m) ≤ end → AreAnsweredBefore s (plain_instances (instances_of m)) end
    → AreAnswered s (plain_instances (instances_of m)) (plain_instances (instances_of m))
answered_all s m end whole before k d less = before k (omega (arith, less, length-map (instances_of m) plain_instance)) d

-- one more instance without a fault by itself
pub sound_more : (s : Schema) (m : Model) (place : ℕ) (i : RawInstance) → StandsAt m place i
    → ((k : ℕ) (d : Instance) → k < place → IsLocalFault s (get_or (plain_instances (instances_of m)) k d) None) → IsLocalFault s (plain_instance i) None
    → (k : ℕ) (d : Instance) → k < place + 1 → IsLocalFault s (get_or (plain_instances (instances_of m)) k d) None
sound_more s m place i h before sound k d less = elim (cases_lt k place) [
  | inl earlier ↦ before k d earlier
  | inr here ↦
      let same : place ≡ k = omega arith in
      subst (λ x. IsLocalFault s x None) (sym (ap (λ x. get_or (plain_instances (instances_of m)) x d) (sym same) ∙ plain_there m place i h d)) sound
]

-- an instance that is answered is not the first at fault
pub not_both : (s : Schema) (m : Model) (place : ℕ) (i : RawInstance)
    → ((a b : Option FaultKind) → IsReferenceFault s (named_in (plain_instances (instances_of m))) (plain_instance i) a → IsReferenceFault s (named_in (plain_instances (instances_of m))) (plain_instance i) b → a ≡ b)
    → StandsAt m place i → IsFirstFaulty s (plain_instances (instances_of m)) place
    → IsReferenceFault s (named_in (plain_instances (instances_of m))) (plain_instance i) None → ⊥
not_both s m place i one h first answered =
    let faulty = subst (λ x. IsReferenceFault s (named_in (plain_instances (instances_of m))) x (Some first.faulty.0)) (plain_there m place i h (plain_instance i)) (first.faulty.1 (plain_instance i)) in
    let same = one None (Some first.faulty.0) answered faulty in
    cc

-- the entities of instances, one for each
pub plain_entities : (s : Schema) (is : List RawInstance) (es : List (Option EntityId)) → AllZip (λ i e. IsSimpleEntity s (plain_instance i) e) is es → AreSimpleEntities s (plain_instances is) es
plain_entities s [] [] h = tt
plain_entities s [] (e ∷ es) h = absurd h
plain_entities s (i ∷ is) [] h = absurd h
plain_entities s (i ∷ is) (e ∷ es) h = (h.0, plain_entities s is es h.1)
