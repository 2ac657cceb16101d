-- Names that are asked for.
use Rattle.std.proofs.Common.{◌≡◌, ◌↔◌, ℕ, zero, suc, ◌+◌, ◌<◌, ◌⊎◌, inl, inr, Bool, List, [], ◌∷◌, length, get_or, take, map, refl, sym, ap, subst, ◌∙◌, arith, add-one}
use Rattle.std.specs.Prelude.{IsTrue, nat_eq}
use Rattle.std.proofs.lemmas.Bool.Decides.{nat_tests}
use Rattle.p21_express.specs.Schema.{Schema, Entity}
use Rattle.p21_express.specs.WellFormed.{IsIn, IsEntity}
use Rattle.p21_tree.specs.Grammar.{Entry}
use Rattle.p21_tree.specs.Views.{plain_record}
use Rattle.p21_tree.specs.declared.instances.Record.{Record}
use Rattle.p21_schema.specs.declared.ids.EntityId.{EntityId}
use Rattle.p21_schema.specs.declared.ids.TypeId.{TypeId}
use Rattle.p21_schema.specs.Place.{no_entity, entity_name, IsEntityOf, type_name}
use Rattle.p21_schema.specs.Select.{SelectReaches}
use Rattle.p21_check.specs.declared.wanted.Wanted.{Wanted}
use Rattle.p21_check.specs.declared.wanted.Wanted.TheVariants as asked
use Rattle.p21_check.specs.Wanted.{IsMetBy, IsNamed}

module _ {X : Type 0} where
  at_in : (f : X → List ℕ) (xs : List X) (i : ℕ) (d : X) → i < length xs → IsIn (map f xs) (f (get_or xs i d))
  at_in f [] i d h = absurd (omega arith)
  at_in f (x ∷ xs) zero d h = inl refl
  at_in f (x ∷ xs) (suc i) d h = inr (at_in f xs i d (omega arith))

pub entity_is : (s : Schema) (e : EntityId) (n : List ℕ) → IsEntityOf s e → entity_name s e ≡ n → IsEntity s n
entity_is s e n h f = subst (IsEntity s) f (at_in (λ (x : Entity). x.name) s.entities e.index no_entity h)

pub met_entity : (s : Schema) (w : Wanted) (own e : EntityId) (n : List ℕ) (b : Bool) → w ≡ asked.Entity e → IsEntityOf s own → entity_name s own ≡ n → b ≡ nat_eq own.index e.index → (entity_name s own ≡ entity_name s e → own ≡ e) → IsTrue b ↔ IsMetBy s w n
met_entity s w own e n b f known named test one = rw f ((λ h. (entity_is s own n known named, there h)), λ m. back m.1) where
  there : IsTrue b → n ≡ entity_name s e
  there h =
      let same : own.index ≡ e.index = grind (arith, nat_tests, test, h) in
      sym named ∙ ap (λ i. (get_or s.entities i no_entity).name) same

  back : n ≡ entity_name s e → IsTrue b
  back m =
      let same : own.index ≡ e.index = ap (λ (x : EntityId). x.index) (one (named ∙ m)) in
      grind (arith, nat_tests, test, same)

pub met_select : (s : Schema) (w : Wanted) (own : EntityId) (t : TypeId) (n : List ℕ) (b : Bool) → w ≡ asked.Select t → IsEntityOf s own → entity_name s own ≡ n → IsTrue b ↔ SelectReaches s (type_name s t) (entity_name s own) → IsTrue b ↔ IsMetBy s w n
met_select s w own t n b f known named h =
    rw f ((λ k. (entity_is s own n known named, subst (SelectReaches s (type_name s t)) named (h.0 k))), λ m. h.1 (subst (SelectReaches s (type_name s t)) (sym named) m.1))

keywords_of : List Record → List (List ℕ)
keywords_of rs = map (λ (e : Entry). e.keyword) (map plain_record rs)

more_keywords : (rs : List Record) (i : ℕ) (d : Record) (n : List ℕ) → i < length rs → d ≡ get_or rs i d → IsIn (map (λ (e : Entry). e.keyword) (map plain_record (take (suc i) rs))) n → IsIn (map (λ (e : Entry). e.keyword) (map plain_record (take i rs))) n ⊎ (d.keyword.now ≡ n)
more_keywords [] i d n h e k = absurd (omega arith)
more_keywords (r ∷ rs) zero d n h e (inl k) = inr (ap (λ (x : Record). x.keyword.now) e ∙ k)
more_keywords (r ∷ rs) zero d n h e (inr k) = elim k [ ]
more_keywords (r ∷ rs) (suc i) d n h e (inl k) = inl (inl k)
more_keywords (r ∷ rs) (suc i) d n h e (inr k) =
    elim (more_keywords rs i d n (omega arith) e k) [ inl m ↦ inl (inr m) | inr m ↦ inr m ]

pub not_named_more : (s : Schema) (w : Wanted) (rs : List Record) (i : ℕ) (d : Record) → i < length rs → d ≡ get_or rs i d → ¬ (IsNamed s w (map (λ (e : Entry). e.keyword) (map plain_record (take i rs)))) → ¬ (IsMetBy s w d.keyword.now) → ¬ (IsNamed s w (map (λ (e : Entry). e.keyword) (map plain_record (take (i + 1) rs))))
not_named_more s w rs i d h e before here n =
    let among : IsIn (map (λ (e : Entry). e.keyword) (map plain_record (take (suc i) rs))) n.name = subst (λ (j : ℕ). IsIn (map (λ (e : Entry). e.keyword) (map plain_record (take j rs))) n.name) (add-one i) n.among in
    elim (more_keywords rs i d n.name h e among) [
      | inl k ↦ before (record { name = n.name; among = k; meets = n.meets })
      | inr k ↦ here (subst (IsMetBy s w) (sym k) n.meets)
    ]

keyword_in : (rs : List Record) (i : ℕ) (d : Record) → i < length rs → d ≡ get_or rs i d → IsIn (map (λ (e : Entry). e.keyword) (map plain_record rs)) d.keyword.now
keyword_in [] i d h e = absurd (omega arith)
keyword_in (r ∷ rs) zero d h e = inl (ap (λ (x : Record). x.keyword.now) (sym e))
keyword_in (r ∷ rs) (suc i) d h e = inr (keyword_in rs i d (omega arith) e)

pub named_here : (s : Schema) (w : Wanted) (rs : List Record) (i : ℕ) (d : Record) → i < length rs → d ≡ get_or rs i d → IsMetBy s w d.keyword.now → IsNamed s w (map (λ (e : Entry). e.keyword) (map plain_record rs))
named_here s w rs i d h e m = record { name = d.keyword.now; among = keyword_in rs i d h e; meets = m }
