-- What a declaration that counts asks of an attribute in an instance without a fault.
use Rattle.std.proofs.Common.{◌≡◌, ◌≢◌, ◌⊎◌, ℕ, Bool, List, [], ◌∷◌, ◌++◌, Option, Some, None, map, refl, sym, ap, subst, ◌∙◌, inl, inr, ⊎_elim}
use Rattle.p21_tree.specs.Tree.{Tree, absent, derived}
use Rattle.p21_tree.specs.Sentence.{Instance}
use Rattle.p21_express.specs.Schema.{Schema, Entity, Attribute, Expr}
use Rattle.p21_express.specs.WellFormed.{IsIn, IsWellFormed, IsAncestor, Origin, Leads, new_explicit, with_new}
use Rattle.p21_schema.specs.Declaration.{Declaration, Form, Written, Chosen, AreDeclarations, Declares, declaration, written, written_explicit, explicit_in, derived_in}
use Rattle.p21_schema.specs.Declaration as form
use Rattle.p21_check.specs.Conforms.{Conforms}
use Rattle.p21_check.specs.Slot.{DeclaresIn, IsDerived, Counts, FitsSlot, ConformsToForm, IsOptional}
use Rattle.p21_check.specs.Slot as slot
use Rattle.p21_json.specs.Logical.{TakesLogical}
use Rattle.p21_json.specs.Laws.{IsOfType}
use Rattle.p21_json.specs.Where.{FormTakesLogical, IsLogicalAttribute, IsOf, attribute}
use Rattle.p21_json.proofs.AttributeLemmas.{chosen_to, same_ones}
use Rattle.p21_json.proofs.TypeLemmas.{no_star}
use Rattle.p21_json.proofs.SameLemmas.{Fits}

-- a fact holds or not
pub one_or_other : (P : Type 0) → ¬ (¬ (P ⊎ ¬ P))
one_or_other P k = k (inr (λ p. k (inl p)))

-- ---- the lowest of some declarations

then_leads : (s : Schema) {a b c : List ℕ} → IsAncestor s a b → IsAncestor s b c → IsAncestor s a c
then_leads s (Leads.one h) k = Leads.more h k
then_leads s (Leads.more h m) k = Leads.more h (then_leads s m k)

-- one of the set, which none of the list and of the set is below
record IsLowest (s : Schema) (P : List ℕ → Type 0) (xs : List Declaration) (d : Declaration) : Type 0 where
  by : P d.entity
  last : (other : Declaration) → IsIn xs other → P other.entity → ¬ (IsAncestor s other.entity d.entity)

lowest : (s : Schema) → IsWellFormed s → (P : List ℕ → Type 0) (xs : List Declaration) (d : Declaration) → P d.entity → ¬ (¬ ((m : Declaration) × ((m ≡ d) ⊎ IsIn xs m) × IsLowest s P xs m))
lowest s wf P [] d p k = k (d, inl refl, record { by = p; last = λ other h. absurd h })
lowest s wf P (x ∷ xs) d p k =
    lowest s wf P xs d p (λ m.
    one_or_other (P x.entity × IsAncestor s x.entity m.0.entity) (λ c.
    ⊎_elim
    (λ (b : P x.entity × IsAncestor s x.entity m.0.entity). k (
      x,
      inr (inl refl),
      record {
        by = b.0;
        last = λ other h q a.
            ⊎_elim (λ (e : x ≡ other). wf.cycles.entities x.entity (subst (λ (y : Declaration). IsAncestor s y.entity x.entity) (sym e) a)) (λ (i : IsIn xs other). m.2.last other i q (then_leads s a b.1)) h;
      },
    ))
    (λ (n : ¬ (P x.entity × IsAncestor s x.entity m.0.entity)). k (
      m.0,
      ⊎_elim (λ (e : m.0 ≡ d). inl e) (λ (i : IsIn xs m.0). inr (inr i)) m.1,
      record {
        by = m.2.by;
        last = λ other h q a.
            ⊎_elim (λ (e : x ≡ other). n (subst (λ (y : Declaration). P y.entity × IsAncestor s y.entity m.0.entity) (sym e) (q, a))) (λ (i : IsIn xs other). m.2.last other i q a) h;
      },
    ))
    c))

-- ---- the declaration that newly declares an attribute

with_new_in : (of : Option (List ℕ)) (m n : List ℕ) (ms : List (List ℕ)) → IsIn (with_new of m ms) n → ((of ≡ None) × (m ≡ n)) ⊎ IsIn ms n
with_new_in None m n ms (inl e) = inl (refl, e)
with_new_in None m n ms (inr h) = inr h
with_new_in (Some o) m n ms h = inr h

new_attribute : (atts : List Attribute) (n : List ℕ) → IsIn (new_explicit atts) n → (a : Attribute) × IsIn atts a × (a.of ≡ None) × (a.name ≡ n)
new_attribute [] n h = absurd h
new_attribute (a ∷ atts) n h =
    ⊎_elim (λ (x : (a.of ≡ None) × (a.name ≡ n)). (a, inl refl, x.0, x.1)) (λ (i : IsIn (new_explicit atts) n). let r = new_attribute atts n i in (r.0, inr r.1, r.2, r.3)) (with_new_in a.of a.name n (new_explicit atts) h)

in_map : {X Y : Type 0} (f : X → Y) (xs : List X) (x : X) → IsIn xs x → IsIn (map f xs) (f x)
in_map f [] x h = absurd h
in_map f (y ∷ xs) x (inl e) = inl (ap f e)
in_map f (y ∷ xs) x (inr h) = inr (in_map f xs x h)

in_front : {X : Type 0} (xs ys : List X) (x : X) → IsIn xs x → IsIn (xs ++ ys) x
in_front [] ys x h = absurd h
in_front (y ∷ xs) ys x (inl e) = inl e
in_front (y ∷ xs) ys x (inr h) = inr (in_front xs ys x h)

in_back : {X : Type 0} (xs ys : List X) (x : X) → IsIn ys x → IsIn (xs ++ ys) x
in_back [] ys x h = h
in_back (y ∷ xs) ys x h = inr (in_back xs ys x h)

written_in : (es : List Entity) (e : Entity) (a : Attribute) → IsIn es e → IsIn e.attributes a → IsIn (written es) (written_explicit e.name a)
written_in [] e a h k = absurd h
written_in (x ∷ es) e a (inl q) k =
    in_front (explicit_in x ++ derived_in x) (written es) (written_explicit e.name a)
    (in_front (explicit_in x) (derived_in x) (written_explicit e.name a) (subst (λ (y : Entity). IsIn (explicit_in y) (written_explicit e.name a)) (sym q) (in_map (written_explicit e.name) e.attributes a k)))
written_in (x ∷ es) e a (inr h) k = in_back (explicit_in x ++ derived_in x) (written es) (written_explicit e.name a) (written_in es e a h k)

chosen_some : {X Y : Type 0} (W : X → Type 0) (f : X → Y) (xs : List X) → ¬ (¬ ((ys : List Y) × Chosen W f xs ys))
chosen_some W f [] k = k ([], form.none)
chosen_some W f (x ∷ xs) k =
    chosen_some W f xs (λ more. one_or_other (W x) (λ c. ⊎_elim (λ (w : W x). k (f x ∷ more.0, form.kept w more.1)) (λ (n : ¬ (W x)). k (more.0, form.dropped n more.1)) c))

-- an attribute that an entity newly declares
pub record IsNew (s : Schema) (o : Origin) : Type 0 where
  pub entity : Entity
  pub declared : IsIn s.entities entity
  pub name_is : entity.name ≡ o.entity
  pub newly : IsIn (new_explicit entity.attributes) o.name

-- it has a declaration by its entity
first_declared : (s : Schema) (P : List ℕ → Type 0) (o : Origin) → IsNew s o → P o.entity → ¬ (¬ ((d : Declaration) × DeclaresIn s P o d))
first_declared s P o h p k =
    let a = new_attribute h.entity.attributes o.name h.newly in
    let w = written_explicit h.entity.name a.0 in
    let declares : Declares s o w = form.newly a.0.optional a.0.texpr a.2 refl h.name_is a.3 in
    chosen_some (Declares s o) declaration (written s.entities) (λ all.
    k (declaration w, record { all = all.0; are = all.1; among = chosen_to all.1 w (written_in s.entities h.entity a.0 h.declared a.1) declares; by = subst P (sym h.name_is) p }))

-- ---- the declaration that an item of BOOLEAN or LOGICAL goes by

-- a declaration that counts, of a type that is of BOOLEAN or LOGICAL where items there are
pub record Binds (s : Schema) (P : List ℕ → Type 0) (i : Instance) (o : Origin) : Type 0 where
  pub declaration : Declaration
  pub optional : Bool
  pub texpr : Expr
  pub counts : Counts s P o declaration
  pub explicit : declaration.form ≡ form.explicit optional texpr
  pub logical : IsOfType s (attribute i o) texpr

takes_form : (s : Schema) (f : Form) → FormTakesLogical s f → (b : Bool) × (e : Expr) × (f ≡ form.explicit b e) × TakesLogical s e
takes_form s form.derived h = absurd h
takes_form s (form.explicit b e) h = (b, e, refl, h)

form_of : (f : Form) → ¬ (f ≡ form.derived) → (b : Bool) × (e : Expr) × (f ≡ form.explicit b e)
form_of form.derived n = absurd (n refl)
form_of (form.explicit b e) n = (b, e, refl)

-- the entities of a set, and those that an instance is of
pub record IsSetOfInstance (s : Schema) (P : List ℕ → Type 0) (i : Instance) : Type 0 where
  pub is_of : (n : List ℕ) → P n → IsOf s i n
  pub holds : (n : List ℕ) → IsOf s i n → ¬ (¬ (P n))

binds_logical : (s : Schema) (P : List ℕ → Type 0) (i : Instance) (o : Origin) → IsSetOfInstance s P i → ¬ (IsDerived s P o) → IsLogicalAttribute s i o → ¬ (¬ (Binds s P i o))
binds_logical s P i o set free l k =
    let d = l.declaration in
    let f = takes_form s d.form l.declares.1 in
    set.holds d.entity l.declares.0 (λ p.
    k (record {
      declaration = d;
      optional = f.0;
      texpr = f.1;
      counts = record {
        declares = record { all = l.all; are = l.are; among = l.among; by = p };
        not_derived = free;
        last = λ other h a. l.declares.2 (other, same_ones s o h.all l.all h.are l.are other h.among, (set.is_of other.entity h.by, a));
      };
      explicit = f.2;
      logical = λ _. f.3;
    }))

binds_other : (s : Schema) → IsWellFormed s → (P : List ℕ → Type 0) (i : Instance) (o : Origin) → ¬ (IsDerived s P o) → ¬ (IsLogicalAttribute s i o) → (d : Declaration) → DeclaresIn s P o d → ¬ (¬ (Binds s P i o))
binds_other s wf P i o free l d h k =
    lowest s wf P h.all d h.by (λ m.
    let c = m.0 in
    let among : IsIn h.all c = ⊎_elim (λ (e : c ≡ d). subst (IsIn h.all) (sym e) h.among) (λ (i : IsIn h.all c). i) m.1 in
    let declares : DeclaresIn s P o c = record { all = h.all; are = h.are; among = among; by = m.2.by } in
    let f = form_of c.form (λ e. free (record { declaration = c; declares = declares; derives = e })) in
    k (record {
      declaration = c;
      optional = f.0;
      texpr = f.1;
      counts = record { declares = declares; not_derived = free; last = λ other g a. m.2.last other (same_ones s o g.all h.all g.are h.are other g.among) g.by a };
      explicit = f.2;
      logical = λ t. absurd (l t);
    }))

-- an attribute that is not derived has such a declaration
pub binds : (s : Schema) → IsWellFormed s → (P : List ℕ → Type 0) (i : Instance) (o : Origin) → IsSetOfInstance s P i → IsNew s o → P o.entity → ¬ (IsDerived s P o) → ¬ (¬ (Binds s P i o))
binds s wf P i o set new p free k =
    one_or_other (IsLogicalAttribute s i o) (λ c.
    ⊎_elim (λ (l : IsLogicalAttribute s i o). binds_logical s P i o set free l k) (λ (n : ¬ (IsLogicalAttribute s i o)). first_declared s P o new p (λ d. binds_other s wf P i o free n d.0 d.1 k)) c)

-- what fits an attribute that is not derived is of the type of a declaration that counts
fits_bound : (s : Schema) (P : List ℕ → Type 0) (i : Instance) (o : Origin) (t : Tree) → ¬ (IsDerived s P o) → (b : Binds s P i o) → FitsSlot s P o t → Fits s b.texpr t
fits_bound s P i o _ free b (slot.derived d) = absurd (free d)
fits_bound s P i o _ free b (slot.absent n f) = inr refl
fits_bound s P i o t free b (slot.given n f) = inl (subst (ConformsToForm s t) b.explicit (f b.declaration b.counts))

-- two parameters of an attribute are both `*`, or neither is and they are of one type
pub data IsPair (s : Schema) (i : Instance) (o : Origin) (t u : Tree) : Type 0 where
  stars : t ≡ derived → u ≡ derived → IsPair s i o t u
  values : (e : Expr) → t ≢ derived → u ≢ derived → IsOfType s (attribute i o) e → Fits s e t → Fits s e u → IsPair s i o t u

is_star : (s : Schema) (P : List ℕ → Type 0) (o : Origin) (t : Tree) → IsDerived s P o → FitsSlot s P o t → t ≡ derived
is_star s P o _ d (slot.derived e) = refl
is_star s P o _ d (slot.absent n f) = absurd (n d)
is_star s P o t d (slot.given n f) = absurd (n d)

no_star_fits : (s : Schema) (e : Expr) (t : Tree) → Fits s e t → t ≢ derived
no_star_fits s e t h q =
    ⊎_elim (λ (c : Conforms s e t). no_star s (subst (Conforms s e) q c)) (λ (a : t ≡ absent). let both : derived ≡ absent = sym q ∙ a in cc) h

pub pair_of : (s : Schema) → IsWellFormed s → (P : List ℕ → Type 0) (i : Instance) (o : Origin) (t u : Tree) → IsSetOfInstance s P i → IsNew s o → P o.entity → FitsSlot s P o t → FitsSlot s P o u → ¬ (¬ (IsPair s i o t u))
pair_of s wf P i o t u set new p f g k =
    one_or_other (IsDerived s P o) (λ c.
    ⊎_elim
    (λ (d : IsDerived s P o). k (stars (is_star s P o t d f) (is_star s P o u d g)))
    (λ (n : ¬ (IsDerived s P o)). binds s wf P i o set new p n (λ b.
    let one = fits_bound s P i o t n b f in
    let other = fits_bound s P i o u n b g in
    k (values b.texpr (no_star_fits s b.texpr t one) (no_star_fits s b.texpr u other) b.logical one other)))
    c)
