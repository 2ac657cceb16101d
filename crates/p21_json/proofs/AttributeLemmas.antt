-- Declarations of attributes, and which instances are of their entities.
use Rattle.std.proofs.Common.{◌≡◌, ◌↔◌, ◌+◌, ◌<◌, ◌≤◌, ℕ, zero, suc, List, [], ◌∷◌, Bool, true, false, IsTrue, inl, inr, map, length, drop, get_or, nat_eq, not, take, Some, refl, sym, ap, subst, ◌∙◌, ⊎_elim, add-one, arith}
use Rattle.std.specs.Prelude.{slice_get}
use Rattle.std.specs.List.{AllZip}
use Rattle.std.proofs.lemmas.Bool.Decides.{nat_tests}
use Rattle.p21_express.specs.Schema.{Schema, Entity, Expr}
use Rattle.p21_express.specs.WellFormed.{IsIn, IsAncestor, IsEntity, IsWellFormed, Origin}
use Rattle.p21_tree.specs.Grammar.{Entry}
use Rattle.p21_tree.specs.Sentence.{Instance}
use Rattle.p21_tree.specs.declared.instances.RawInstance.{RawInstance}
use Rattle.p21_tree.specs.declared.instances.Record.{Record}
use Rattle.p21_tree.specs.Views.{plain_instance, plain_record}
use Rattle.p21_schema.specs.declared.ids.EntityId.{EntityId}
use Rattle.p21_schema.specs.declared.declarations.Form.{Form as CodedForm}
use Rattle.p21_schema.specs.declared.declarations.Form.TheVariants as coded
use Rattle.p21_schema.specs.declared.resolved.ResolvedExpr.{ResolvedExpr}
use Rattle.p21_schema.specs.Place.{no_entity, entity_at, entity_name, IsEntityOf}
use Rattle.p21_schema.specs.Ancestry.{IsA}
use Rattle.p21_schema.specs.Row.{IsRow, own_attributes}
use Rattle.p21_schema.specs.Declaration.{Chosen, Declaration, Form, AreDeclarations, IsResolvedForm}
use Rattle.p21_schema.specs.Declaration as declaration
use Rattle.p21_check.specs.Attributes.{AreAttributes}
use Rattle.p21_check.specs.Attributes as attributes
use Rattle.p21_check.specs.Sets.{AnyIn}
use Rattle.p21_json.specs.Keys.{has_name}
use Rattle.p21_json.specs.Rows.{AreAttributesOf}
use Rattle.p21_json.specs.Terms.{IsExpr}
use Rattle.p21_json.proofs.KeyLemmas.{own_once}
use Rattle.p21_json.specs.Where.{DeclaresLogical, IsBelow, IsLogicalAttribute, IsOf}

there_at : (es : List Entity) (i : ℕ) → i < length es → IsIn es (get_or es i no_entity)
there_at [] i h = absurd (omega arith)
there_at (e ∷ es) zero h = inl refl
there_at (e ∷ es) (suc i) h = inr (there_at es i (omega arith))

named_in : (es : List Entity) (e : Entity) → IsIn es e → IsIn (map (λ (x : Entity). x.name) es) e.name
named_in [] e h = absurd h
named_in (x ∷ es) e (inl q) = inl (ap (λ (y : Entity). y.name) q)
named_in (x ∷ es) e (inr h) = inr (named_in es e h)

-- the name of an id is an entity's
pub is_entity : (s : Schema) (e : EntityId) (n : List ℕ) → IsEntityOf s e → entity_name s e ≡ n → IsEntity s n
is_entity s e n h q = subst (IsEntity s) q (named_in s.entities (entity_at s e) (there_at s.entities e.index h))

-- the attributes by an id are those of its entity
pub attributes_by : (s : Schema) (c : Bool) (e : EntityId) (n : List ℕ) (os : List Origin) → IsEntityOf s e → entity_name s e ≡ n → AreAttributesOf s c e os → AreAttributes s c n os
attributes_by s true e n os h q a = attributes.complex (entity_at s e) (there_at s.entities e.index h) q (sym a)
attributes_by s false e n os h q a = attributes.simple (subst (λ (m : List ℕ). IsRow s m os) q a)

chosen_from : {X Y : Type 0} {W : X → Type 0} {f : X → Y} {xs : List X} {ys : List Y} → Chosen W f xs ys → (y : Y) → IsIn ys y → (x : X) × IsIn xs x × W x × (f x ≡ y)
chosen_from declaration.none y h = absurd h
chosen_from (declaration.kept {x = x} w c) y (inl e) = (x, inl refl, w, e)
chosen_from (declaration.kept w c) y (inr h) = let r = chosen_from c y h in (r.0, inr r.1, r.2, r.3)
chosen_from (declaration.dropped n c) y h = let r = chosen_from c y h in (r.0, inr r.1, r.2, r.3)

-- what is wanted is among those that are chosen
pub chosen_to : {X Y : Type 0} {W : X → Type 0} {f : X → Y} {xs : List X} {ys : List Y} → Chosen W f xs ys → (x : X) → IsIn xs x → W x → IsIn ys (f x)
chosen_to declaration.none x h w = absurd h
chosen_to {f = f} (declaration.kept v c) x (inl e) w = inl (ap f e)
chosen_to (declaration.kept v c) x (inr h) w = inr (chosen_to c x h w)
chosen_to {W = W} (declaration.dropped n c) x (inl e) w = absurd (n (subst W (sym e) w))
chosen_to (declaration.dropped n c) x (inr h) w = chosen_to c x h w

-- each list of the declarations of an attribute has the same ones
pub same_ones : (s : Schema) (o : Origin) (ds es : List Declaration) → AreDeclarations s o ds → AreDeclarations s o es → (d : Declaration) → IsIn ds d → IsIn es d
same_ones s o ds es a b d h = let r = chosen_from a d h in subst (IsIn es) r.3 (chosen_to b r.0 r.1 r.2)

pub logical_attribute : (s : Schema) (i : Instance) (o : Origin) (ds : List Declaration) (r : Bool) → AreDeclarations s o ds → (IsTrue r ↔ AnyIn ds (DeclaresLogical s i ds)) → (IsTrue r ↔ IsLogicalAttribute s i o)
logical_attribute s i o ds r a h = (
  λ t. let f = h.0 t in record { all = ds; are = a; declaration = f.0; among = f.1; declares = f.2 },
  λ f.
      let d = f.declares in
      h.1 (f.declaration, same_ones s o f.all ds f.are a f.declaration f.among, (d.0, d.1, λ b. d.2 (b.0, same_ones s o ds f.all a f.are b.0 b.1, b.2))),
)

-- an explicit declaration has a type
pub explicit_type : (s : Schema) (c : CodedForm) (o : Bool) (e : ResolvedExpr) (f : Form) → IsResolvedForm s c f → c ≡ coded.Explicit o e → (x : Expr) × IsExpr s e x
explicit_type s c o e f h q = typed f (subst (λ (u : CodedForm). IsResolvedForm s u f) q h)
  where
    typed : (f : Form) → IsResolvedForm s (coded.Explicit o e) f → (x : Expr) × IsExpr s e x
    typed declaration.derived k = absurd k
    typed (declaration.explicit p x) k = (x, k.1.0)

module _ {A B : Type 0} (R : A → B → Type 0) where
  zip_next : (cs : List A) (ds : List B) (i : ℕ) (c : A) → AllZip R cs ds → i < length cs → c ≡ get_or cs i c → (d : B) × (drop i ds ≡ d ∷ drop (suc i) ds) × R c d
  zip_next [] ds i c h l e = absurd (omega arith)
  zip_next (x ∷ cs) [] i c h l e = absurd h
  zip_next (x ∷ cs) (d ∷ ds) zero c h l e = (d, refl, subst (λ (y : A). R y d) (sym e) h.0)
  zip_next (x ∷ cs) (d ∷ ds) (suc i) c h l e = zip_next cs ds i c h.1 (omega arith) e

  -- what corresponds to an element, and what stands after it
  pub zip_drop : (cs : List A) (ds : List B) (i : ℕ) (c : A) → AllZip R cs ds → i < length cs → c ≡ get_or cs i c → (d : B) × (drop i ds ≡ d ∷ drop (i + 1) ds) × R c d
  zip_drop cs ds i c h l e =
      let r = zip_next cs ds i c h l e in
      (r.0, r.1 ∙ ap (λ (k : ℕ). r.0 ∷ drop k ds) (sym (add-one i)), r.2)

  pub zip_end : (cs : List A) (ds : List B) (i : ℕ) → AllZip R cs ds → length cs ≤ i → drop i ds ≡ []
  zip_end [] [] zero h l = refl
  zip_end [] [] (suc i) h l = refl
  zip_end [] (d ∷ ds) i h l = absurd h
  zip_end (x ∷ cs) [] i h l = absurd h
  zip_end (x ∷ cs) (d ∷ ds) zero h l = absurd (omega arith)
  zip_end (x ∷ cs) (d ∷ ds) (suc i) h l = zip_end cs ds i h.1 (omega arith)

module _ {X : Type 0} where
  in_drop : (xs : List X) (i : ℕ) (x : X) → IsIn (drop i xs) x → IsIn xs x
  in_drop xs zero x h = h
  in_drop [] (suc i) x h = h
  in_drop (y ∷ xs) (suc i) x h = inr (in_drop xs i x h)

  pub any_there : (P : X → Type 0) (xs rest : List X) (i : ℕ) (x : X) → drop i xs ≡ x ∷ rest → P x → AnyIn xs P
  any_there P xs rest i x e p = (x, in_drop xs i x (subst (λ (l : List X). IsIn l x) (sym e) (inl refl)), p)

  any_next : (P : X → Type 0) (rest : List X) (x : X) → ¬ (P x) → AnyIn (x ∷ rest) P → AnyIn rest P
  any_next P rest x n (y, inl e, p) = absurd (n (subst P (sym e) p))
  any_next P rest x n (y, inr h, p) = (y, h, p)

  pub any_further : (P : X → Type 0) (l rest : List X) (x : X) → l ≡ x ∷ rest → ¬ (P x) → AnyIn l P → AnyIn rest P
  any_further P l rest x e n h = any_next P rest x n (subst (λ (k : List X). AnyIn k P) e h)

  pub none_left : (P : X → Type 0) (l : List X) → l ≡ [] → ¬ (AnyIn l P)
  none_left P l e h = let k = subst (λ (m : List X). AnyIn m P) e h in absurd k.1

keyword_in : (rs : List Record) (r : Record) → IsIn rs r → IsIn (map (λ (e : Entry). e.keyword) (map plain_record rs)) r.keyword.now
keyword_in [] r h = absurd h
keyword_in (x ∷ rs) r (inl e) = inl (ap (λ (y : Record). y.keyword.now) e)
keyword_in (x ∷ rs) r (inr h) = inr (keyword_in rs r h)

in_keywords : (rs : List Record) (k : List ℕ) → IsIn (map (λ (e : Entry). e.keyword) (map plain_record rs)) k → (r : Record) × IsIn rs r × (r.keyword.now ≡ k)
in_keywords [] k h = absurd h
in_keywords (x ∷ rs) k (inl e) = (x, inl refl, e)
in_keywords (x ∷ rs) k (inr h) = let r = in_keywords rs k h in (r.0, inr r.1, r.2)

-- an instance is of an entity where a record of it names one below
pub of_any : (s : Schema) (i : RawInstance) (n : List ℕ) → AnyIn i.records (λ (r : Record). IsBelow s r.keyword.now n) → IsOf s (plain_instance i) n
of_any s i n h = record { keyword = h.0.keyword.now; written = keyword_in i.records h.0 h.1; below = h.2 }

pub any_of : (s : Schema) (i : RawInstance) (n : List ℕ) → IsOf s (plain_instance i) n → AnyIn i.records (λ (r : Record). IsBelow s r.keyword.now n)
any_of s i n h =
    let r = in_keywords i.records h.keyword h.written in
    (r.0, r.1, subst (λ (k : List ℕ). IsBelow s k n) (sym r.2) h.below)

-- the attributes by an id of a schema, which is this one under another name
pub attributes_at : (x s : Schema) (c : Bool) (e : EntityId) (n : List ℕ) (os : List Origin) → x ≡ s → IsEntityOf x e → entity_name x e ≡ n → AreAttributesOf x c e os → AreAttributes s c n os
attributes_at x s c e n os q h k a = subst (λ (y : Schema). AreAttributes y c n os) q (attributes_by x c e n os h k a)

-- ---- entities below others

pub same_id : (r : Bool) (a b : EntityId) → r ≡ nat_eq a.index b.index → IsTrue r ↔ (a ≡ b)
same_id r a b e = (
  λ h. let same : a.index ≡ b.index = (let k = sym e ∙ h in grind (arith, nat_tests, k)) in ap (λ (n : ℕ). let x : EntityId = record { index = n } in x) same,
  λ h. let same : nat_eq b.index b.index ≡ true = grind (arith, nat_tests) in e ∙ ap (λ (x : EntityId). nat_eq x.index b.index) h ∙ same,
)

pub not_true : (b : Bool) → not b ≡ true → b ≡ false
not_true true h = sym h
not_true false h = refl

pub not_false : (b : Bool) → not b ≡ false → b ≡ true
not_false true h = refl
not_false false h = sym h

-- an entity that is another one is below it or not
pub below_by : (s : Schema) (a b : EntityId) (one : (x y : EntityId) → IsEntityOf s x → IsEntityOf s y → entity_name s x ≡ entity_name s y → x ≡ y) (r : Bool) → IsEntityOf s a → IsEntityOf s b → ¬ (a ≡ b) → IsTrue r ↔ IsA s a b → IsTrue r ↔ IsAncestor s (entity_name s a) (entity_name s b)
below_by s a b one r x y other h = (
  λ t. ⊎_elim (λ (e : entity_name s a ≡ entity_name s b). absurd (other (one a b x y e))) (λ (k : IsAncestor s (entity_name s a) (entity_name s b)). k) (h.0 t),
  λ k. h.1 (inr k),
)

-- no entity is below itself
pub not_below : (s : Schema) (a b : EntityId) → IsWellFormed s → a ≡ b → ¬ (IsAncestor s (entity_name s a) (entity_name s b))
not_below s a b w e k = w.cycles.entities (entity_name s b) (subst (λ (x : EntityId). IsAncestor s (entity_name s x) (entity_name s b)) e k)

-- one by an entity below, where the declaration is by the entity of this name
pub declared_below : (s : Schema) (i : Instance) (n m k : List ℕ) → n ≡ m → (IsOf s i n × IsAncestor s n k) ↔ (IsOf s i m × IsAncestor s m k)
declared_below s i n m k e = (subst (λ (x : List ℕ). IsOf s i x × IsAncestor s x k) e, subst (λ (x : List ℕ). IsOf s i x × IsAncestor s x k) (sym e))

-- ---- attributes of one name

-- an own attribute has the name of none before it
pub own_alone : (s : Schema) (e : EntityId) (c : Bool) (os : List Origin) (p : ℕ) (o : Origin) → IsWellFormed s → IsEntityOf s e → c ≡ true → AreAttributesOf s c e os → slice_get os p ≡ Some o → false ≡ has_name (take p os) o.name
own_alone s e c os p o wf i q a h =
    let own : os ≡ own_attributes (entity_at s e) = subst (λ (b : Bool). AreAttributesOf s b e os) q a in
    let once = own_once s wf (entity_at s e) (there_at s.entities e.index i) p o (subst (λ (l : List Origin). slice_get l p ≡ Some o) own h) in
    subst (λ (l : List Origin). false ≡ has_name (take p l) o.name) (sym own) (sym once)

-- those of a simple instance are the entity's row
pub of_row : (s : Schema) (e : EntityId) (c : Bool) (os : List Origin) → c ≡ false → AreAttributesOf s c e os → IsRow s (entity_name s e) os
of_row s e c os q a = subst (λ (b : Bool). AreAttributesOf s b e os) q a
