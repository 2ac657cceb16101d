-- The names of instances, one more.
use Rattle.std.proofs.Common.{◌≡◌, ◌⊎◌, ◌↔◌, true, false, Option, Some, Ok, inl, inr, ℕ, zero, suc, ◌<◌, List, [], ◌∷◌, ◌++◌, length, get_or, map, refl, sym, ap, subst, ◌∙◌, arith}
use Rattle.std.specs.Prelude.{Contains}
use Rattle.std.proofs.Math.ListN.{get_or-append}
use Rattle.std.proofs.Math.Seq.{get_or-append_seam}
use Rattle.std.proofs.lemmas.List.{get_or-map, length-append, length-map}
use Rattle.std.proofs.lemmas.List.Elements.{Contains-append_cases, Contains-append_left, Contains-append_right}
use Rattle.p21_tree.specs.declared.instances.RawInstance.{RawInstance}
use Rattle.p21_tree.specs.Sentence.{Instance}
use Rattle.p21_tree.specs.Views.{plain_instance}
use Rattle.p21_tree.specs.declared.faults.FaultKind.{FaultKind}
use Rattle.p21_tree.specs.declared.faults.FaultKind.TheVariants as kind
use Rattle.p21_join.specs.declared.instance_names.InstanceNames.{InstanceNames}
use Rattle.p21_join.specs.InstanceNames.{AddsName, IsAmong}
use Rattle.p21_join.specs.Joined.{IsNamedIn, IsNewIn}
use Rattle.p21_join.specs.Model.{plain_instances}
use Rattle.p21_join.specs.Names.{HaveOwnNames}
use Rattle.p21_reader.specs.InstanceFault.{IsRepeated}
use Rattle.p21_reader.specs.InstanceFault as fault
use Rattle.p21_reader.specs.Names.{AreNames}
use Rattle.p21_reader.specs.Values.{IsCarriedFault}

module _ {X Y : Type 0} (f : X → Y) where
  -- what stands at a place of a list stands there of the list that it is mapped to
  contains_there : (xs : List X) (x : X) → Contains xs x → Contains (map f xs) (f x)
  contains_there xs x h = (h.0, (let l = h.1 in omega (arith, length-map xs f)), get_or-map f xs h.0 x (f x) h.1 ∙ ap f h.2)

  contains_at : (xs : List X) (y : Y) (k : ℕ) → k < length (map f xs) → get_or (map f xs) k y ≡ y → (x : X) × Contains xs x × (f x ≡ y)
  contains_at [] y k less e = absurd (omega (arith, less))
  contains_at (x ∷ xs) y zero less e = (x, (0, omega arith, refl), e)
  contains_at (x ∷ xs) y (suc k) less e =
      let r = contains_at xs y k (omega (arith, less)) e in
      (r.0, (suc r.1.0, (let l = r.1.1 in omega (arith, l)), r.1.2), r.2)

  contains_back : (xs : List X) (y : Y) → Contains (map f xs) y → (x : X) × Contains xs x × (f x ≡ y)
  contains_back xs y h = contains_at xs y h.0 h.1 h.2

module _ {X : Type 0} where
  only_one : (x y : X) → Contains (x ∷ []) y → x ≡ y
  only_one x y h = by_place h.0 h.1 h.2 where
    by_place : (k : ℕ) → k < length (x ∷ []) → get_or (x ∷ []) k y ≡ y → x ≡ y
    by_place zero less e = e
    by_place (suc k) less e = absurd (omega arith)

  one_alone : (x : X) → Contains (x ∷ []) x
  one_alone x = (0, omega arith, refl)

-- the names of all instances of an outline are those of these instances
pub names_are : (names : InstanceNames) (is : List RawInstance) → ((n : ℕ) → IsAmong names n ↔ Contains (map (λ (i : RawInstance). i.name) is) n) → AreNames (IsAmong names) (plain_instances is)
names_are names is same = record {
  each = λ i h. let r = contains_back plain_instance is i h in (same i.name).1 (subst (λ n. Contains (map (λ (x : RawInstance). x.name) is) n) (ap (λ x. x.name) r.2) (contains_there (λ (x : RawInstance). x.name) is r.0 r.1));
  only = λ n h. let r = contains_back (λ (x : RawInstance). x.name) is n ((same n).0 h) in (plain_instance r.0, contains_there plain_instance is r.0 r.1, r.2);
}

-- ---- whether a name is there, or new, among plain instances

-- the name of an instance that has that of another
pub is_among : (names : InstanceNames) (is : List RawInstance) (i : RawInstance) → ((n : ℕ) → IsAmong names n ↔ Contains (map (λ (x : RawInstance). x.name) is) n) → IsNamedIn is i → IsAmong names i.name
is_among names is i same h = subst (IsAmong names) h.2 ((same h.0.name).1 (contains_there (λ (x : RawInstance). x.name) is h.0 h.1))

-- among instances with names of their own none has that of one after it
pub is_new_behind : (is : List RawInstance) (j : RawInstance) (js : List RawInstance) → HaveOwnNames (is ++ j ∷ js) → IsNewIn is j
is_new_behind is j js own =
    λ k d less e.
    own k (length is) d less (omega (arith, length-append is (j ∷ js)))
    (ap (λ x. x.name) (get_or-append is (j ∷ js) d k less) ∙ (e ∙ ap (λ x. x.name) (sym (get_or-append_seam is j js d))))

pub is_not_repeated : (is : List RawInstance) (i : RawInstance) → IsNewIn is i → ¬ (IsRepeated (plain_instances is) (plain_instance i))
is_not_repeated is i h r =
    let k : ℕ = r.1.0 in
    let less : k < length is = (let l = r.1.1 in omega (arith, length-map is plain_instance)) in
    let found : RawInstance = get_or is k i in
    let same : plain_instance found ≡ r.0 = sym (get_or-map plain_instance is k i r.0 less) ∙ r.1.2 in
    h k i less (ap (λ x. x.name) same ∙ r.2)

module _ (P Q : ℕ → Type 0) (is : List Instance) (i : Instance) (h : AreNames P is) where
  -- the names after one more instance, whose name is new or there
  names_more : ((n : ℕ) → Q n ↔ (P n ⊎ (n ≡ i.name))) → AreNames Q (is ++ i ∷ [])
  names_more more = record {
    each = λ x k. elim (Contains-append_cases is (i ∷ []) x k) [
      | inl there ↦ (more x.name).1 (inl (h.each x there))
      | inr here ↦ (more x.name).1 (inr (ap (λ y. y.name) (sym (only_one i x here))))
    ];
    only = λ n k. elim ((more n).0 k) [
      | inl there ↦ let r = h.only n there in (r.0, Contains-append_left is (i ∷ []) r.0 r.1, r.2)
      | inr here ↦ (i, Contains-append_right is (i ∷ []) i (one_alone i), sym here)
    ];
  }

  names_again : P i.name → ((n : ℕ) → Q n ↔ P n) → AreNames Q (is ++ i ∷ [])
  names_again again same = record {
    each = λ x k. elim (Contains-append_cases is (i ∷ []) x k) [
      | inl there ↦ (same x.name).1 (h.each x there)
      | inr here ↦ (same x.name).1 (subst P (ap (λ y. y.name) (only_one i x here)) again)
    ];
    only = λ n k. let r = h.only n ((same n).0 k) in (r.0, Contains-append_left is (i ∷ []) r.0 r.1, r.2);
  }

module _ (old new : InstanceNames) (is : List Instance) (i : Instance) (n : ℕ) (e : i.name ≡ n) (h : AreNames (IsAmong old) is) where
  -- the fault of one more instance, by whether its name is new

  pub named_fault : (own : Option FaultKind) → AddsName old n (Ok true) new → IsCarriedFault is (record { instance = i; own = own }) own
  named_fault own adds = fault.alone (λ r. subst (λ m. ¬ (IsAmong old m)) (sym e) adds.0 (subst (IsAmong old) r.2 (h.each r.0 r.1))) refl

  pub repeated_fault : (own : Option FaultKind) → AddsName old n (Ok false) new → IsCarriedFault is (record { instance = i; own = own }) (Some kind.DuplicateName)
  repeated_fault own adds = fault.repeated (h.only i.name (subst (IsAmong old) (sym e) adds.0))

  -- and the names with its own

  pub names_new : AddsName old n (Ok true) new → AreNames (IsAmong new) (is ++ i ∷ [])
  names_new adds = names_more (IsAmong old) (IsAmong new) is i h (subst (λ m. (other : ℕ) → IsAmong new other ↔ (IsAmong old other ⊎ (other ≡ m))) (sym e) adds.1)

  pub names_kept : AddsName old n (Ok false) new → AreNames (IsAmong new) (is ++ i ∷ [])
  names_kept adds = names_again (IsAmong old) (IsAmong new) is i h (subst (IsAmong old) (sym e) adds.0) adds.1

-- where a name that is there comes again, the names are the same
pub names_repeated : (names : InstanceNames) (is : List Instance) (i : Instance) → AreNames (IsAmong names) is → IsAmong names i.name → AreNames (IsAmong names) (is ++ i ∷ [])
names_repeated names is i h again = names_again (IsAmong names) (IsAmong names) is i h again (λ n. (λ a. a, λ a. a))
