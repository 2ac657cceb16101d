-- The instances of a model one after the other.
use Rattle.std.proofs.Common.{◌≡◌, inl, inr, ℕ, suc, ◌+◌, ◌<◌, ◌≤◌, None, Some, List, ◌∷◌, ◌++◌, length, take, drop, get_or, refl, sym, ap, subst, ◌∙◌, arith, length-take-le, take-append-drop}
use Rattle.std.proofs.lemmas.Bool.{cases_lt}
use Rattle.std.proofs.lemmas.List.{get_or-map, get_or-take, get_or_default, length-map}
use Rattle.std.proofs.Math.Seq.{drop-cons}
use Rattle.p21_express.specs.Schema.{Schema}
use Rattle.p21_tree.specs.declared.faults.FaultKind.{FaultKind}
use Rattle.p21_tree.specs.declared.instances.RawInstance.{RawInstance}
use Rattle.p21_tree.specs.Sentence.{Instance}
use Rattle.p21_tree.specs.Views.{plain_instance}
use Rattle.p21_check.specs.LocalFault.{IsLocalFault}
use Rattle.p21_check.specs.References.{IsReferenceFault, named_in}
use Rattle.p21_join.specs.Model.{plain_instances}
use Rattle.p21_reader.specs.InstanceFault.{IsInstanceFault, HaveNoFault}
use Rattle.p21_reader.specs.InstanceFault as fault
use Rattle.p21_refs.specs.FirstReferenceFault.{IsFirstReferenceFault}

-- an element stands after those before it
stands : (xs : List Instance) (k : ℕ) (x : Instance) → k < length xs → get_or xs k x ≡ x → xs ≡ take k xs ++ x ∷ drop (suc k) xs
stands xs k x less e = sym (take-append-drop k xs) ∙ ap (λ l. take k xs ++ l) (drop-cons xs k x less ∙ ap (λ y. y ∷ drop (suc k) xs) e)

-- a reference of a model to one of its instances, without where it lies in memory
pub record At (is items : List RawInstance) (k : ℕ) (i : RawInstance) : Type 0 where
  pub all : items ≡ is
  pub less : k < length items
  pub there : i ≡ get_or items k i

plain_there : (is items : List RawInstance) (k : ℕ) (i : RawInstance) → At is items k i → (k < length (plain_instances is)) × (get_or (plain_instances is) k (plain_instance i) ≡ plain_instance i)
plain_there is items k i h =
    let less : k < length is = subst (λ l. k < length l) h.all h.less in
    let long : length (plain_instances is) ≡ length is = length-map is plain_instance in
    let there : get_or is k i ≡ i = ap (λ l. get_or l k i) (sym h.all) ∙ sym h.there in
    (omega arith, get_or-map plain_instance is k i (plain_instance i) less ∙ ap plain_instance there)

none_alone : (s : Schema) (earlier : List Instance) (i : Instance) → IsInstanceFault s earlier i None → IsLocalFault s i None
none_alone s earlier i (fault.alone new own) = own

pub no_local_fault : (s : Schema) (is items : List RawInstance) (k : ℕ) (i : RawInstance) → HaveNoFault s (plain_instances is) → At is items k i → IsLocalFault s (plain_instance i) None
no_local_fault s is items k i h at =
    let all = plain_instances is in
    let p = plain_there is items k i at in
    none_alone s (take k all) (plain_instance i) (h (take k all) (drop (suc k) all) (plain_instance i) (stands all k (plain_instance i) p.0 p.1))

pub first_fault : (s : Schema) (is items : List RawInstance) (k : ℕ) (i : RawInstance) (kind : FaultKind) → At is items k i
    → ((j : ℕ) (d : Instance) → j < k → IsReferenceFault s (named_in (plain_instances is)) (get_or (plain_instances is) j d) None)
    → IsReferenceFault s (named_in (plain_instances is)) (plain_instance i) (Some kind) → IsFirstReferenceFault s (plain_instances is) (record { kind = kind; at = i.at })
first_fault s is items k i kind at before h =
    let all = plain_instances is in
    let p = plain_there is items k i at in
    record {
      earlier = take k all;
      later = drop (suc k) all;
      instance = plain_instance i;
      parts = stands all k (plain_instance i) p.0 p.1;
      answered = λ j d less.
          let within : j < k = (let l = less in let q = p.0 in omega (arith, length-take-le k all (omega arith))) in
          subst (λ x. IsReferenceFault s (named_in all) x None) (sym (get_or-take k all j d within)) (before j d within);
      is_fault = h;
      place = refl;
    }

pub answered_more : (s : Schema) (is items : List RawInstance) (index : ℕ) (i : RawInstance) → At is items index i
    → ((j : ℕ) (d : Instance) → j < index → IsReferenceFault s (named_in (plain_instances is)) (get_or (plain_instances is) j d) None)
    → IsReferenceFault s (named_in (plain_instances is)) (plain_instance i) None
    → (j : ℕ) (d : Instance) → j < index + 1 → IsReferenceFault s (named_in (plain_instances is)) (get_or (plain_instances is) j d) None
answered_more s is items index i at before h j d less = elim (cases_lt j index) [
  | inl earlier ↦ before j d earlier
  | inr later ↦
      let all = plain_instances is in
      let p = plain_there is items index i at in
      let place : index ≡ j = omega arith in
      let here : get_or all j d ≡ plain_instance i = ap (λ x. get_or all x d) (sym place) ∙ (get_or_default all index d (plain_instance i) p.0 ∙ p.1) in
      subst (λ x. IsReferenceFault s (named_in all) x None) (sym here) h
]

-- no instance stands after the last
pub answered_all : (s : Schema) (is items : List RawInstance) (index : ℕ) → items ≡ is → length items ≤ index
    → ((j : ℕ) (d : Instance) → j < index → IsReferenceFault s (named_in (plain_instances is)) (get_or (plain_instances is) j d) None)
    → (k : ℕ) (d : Instance) → k < length (plain_instances is) → IsReferenceFault s (named_in (plain_instances is)) (get_or (plain_instances is) k d) None
answered_all s is items index all long answered k d less = answered k d (omega (arith, less, long, length-map is plain_instance, ap length all))
