-- Entities of instances by their places.
use Rattle.std.proofs.Common.{◌≡◌, ℕ, zero, suc, ◌<◌, Option, Some, None, List, [], ◌∷◌, length, get_or, refl, sym, ap, subst, ◌∙◌, arith, Bor}
use Rattle.std.proofs.lemmas.List.{get_or_default}
use Rattle.p21_express.specs.Schema.{Schema}
use Rattle.p21_schema.specs.declared.ids.EntityId.{EntityId}
use Rattle.p21_tree.specs.declared.instances.RawInstance.{RawInstance}
use Rattle.p21_tree.specs.Views.{plain_instance}
use Rattle.p21_check.specs.EntityOf.{AreSimpleEntities, IsKnownAs, IsSimpleEntity, IsSimpleOf}
use Rattle.p21_check.specs.declared.entity_of.Named.TheVariants as known
use Rattle.p21_check.specs.References.{named_in}
use Rattle.p21_join.specs.Model.{plain_instances}
use Rattle.p21_join.specs.Names.{HaveOwnNames, IsPosition}
use Rattle.p21_join.proofs.FindLemmas.{none_named, some_named}

-- there are as many as instances
pub as_many : (s : Schema) (is : List RawInstance) (es : List (Option EntityId)) → AreSimpleEntities s (plain_instances is) es → length es ≡ length is
as_many s [] [] h = refl
as_many s [] (e ∷ es) h = absurd h
as_many s (i ∷ is) [] h = absurd h
as_many s (i ∷ is) (e ∷ es) h = ap suc (as_many s is es h.1)

-- each is that of the instance at its place
pub entity_at : (s : Schema) (is : List RawInstance) (es : List (Option EntityId)) (k : ℕ) (r : Option EntityId) (d : RawInstance) → AreSimpleEntities s (plain_instances is) es → k < length is → r ≡ get_or es k r → IsSimpleEntity s (plain_instance (get_or is k d)) r
entity_at s [] es k r d h less there = absurd (omega arith)
entity_at s (i ∷ is) [] k r d h less there = absurd h
entity_at s (i ∷ is) (e ∷ es) zero r d h less there = subst (IsSimpleEntity s (plain_instance i)) (sym there) h.0
entity_at s (i ∷ is) (e ∷ es) (suc k) r d h less there = entity_at s is es k r d h.1 (omega arith) there

-- the instance at a place
stands_at : (is : List RawInstance) (k : ℕ) → k < length is → (i : RawInstance) × (get_or is k i ≡ i)
stands_at [] k less = absurd (omega arith)
stands_at (x ∷ is) k less = (get_or (x ∷ is) k x, get_or_default (x ∷ is) k (get_or (x ∷ is) k x) x less)

-- the instance of a name, by its place
pub named_at : (is : List RawInstance) (name k : ℕ) (i : RawInstance) → HaveOwnNames is → IsPosition is name (Some k) → get_or is k i ≡ i → named_in (plain_instances is) name ≡ Some (plain_instance i)
named_at is name k i own h there = some_named is name k i own h.0 there (ap (λ x. x.name) (sym there) ∙ h.1 i)

pub missing_known : (s : Schema) (is : List RawInstance) (name : ℕ) → IsPosition is name None → IsKnownAs s (named_in (plain_instances is) name) known.Missing
missing_known s is name h = none_named is name h

pub simple_known : (s : Schema) (is : List RawInstance) (name k : ℕ) (e : EntityId) → HaveOwnNames is → IsPosition is name (Some k) → ((d : RawInstance) → IsSimpleOf s (plain_instance (get_or is k d)) e) → IsKnownAs s (named_in (plain_instances is) name) (known.Simple e)
simple_known s is name k e own h simple =
    let at = stands_at is k h.0 in
    (plain_instance at.0, named_at is name k at.0 own h at.1, subst (λ (i : RawInstance). IsSimpleOf s (plain_instance i) e) at.1 (simple at.0))

pub other_known : (s : Schema) (is : List RawInstance) (name k : ℕ) (i : Bor RawInstance) → HaveOwnNames is → IsPosition is name (Some k) → i.now ≡ get_or is k i.now → IsSimpleEntity s (plain_instance (get_or is k i.now)) None → IsKnownAs s (named_in (plain_instances is) name) (known.Other i)
other_known s is name k i own h there none = (named_at is name k i.now own h (sym there), subst (λ (x : RawInstance). IsSimpleEntity s (plain_instance x) None) (sym there) none)
