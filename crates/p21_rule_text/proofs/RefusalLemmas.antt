-- Clauses that state nothing.
use Rattle.std.proofs.Common.{◌≡◌, ◌≢◌, ◌<◌, ◌+◌, ℕ, zero, suc, Bool, true, false, List, [], ◌∷◌, ◌++◌, map, length, get_or, refl, sym, ap, subst, ◌∙◌, Option, Some, None, Result, Ok, Err, inl, inr, IsTrue, arith}
use Rattle.std.specs.Prelude.{IfErr}
use Rattle.std.specs.Char.{to_ascii_uppercase}
use Rattle.std.specs.List.{AllZip, flat_map}
use Rattle.std.proofs.lemmas.List.Concat.{flat_map-cons}
use Rattle.p21_express.specs.Lexer.{HasNoWords}
use Rattle.p21_express.specs.Misfit.{IsRefusedAs}
use Rattle.p21_express.specs.Reader.{Fails}
use Rattle.p21_express.specs.Word.{Word}
use Rattle.p21_express.specs.Words.{AreWords, UpperWords}
use Rattle.p21_express.specs.declared.refusal.Refusal.{Refusal}
use Rattle.p21_express.specs.declared.refusal.Refusal.TheVariants as refusal
use Rattle.p21_express.specs.Answer.{OnRefusal}
use Rattle.p21_express.specs.Grammar.{Naming}
use Rattle.p21_express.specs.Schema.{Schema}
use Rattle.p21_express.specs.declared.error.SchemaError.{SchemaError}
use Rattle.p21_express.specs.declared.error.SchemaError.TheVariants as errors
use Rattle.p21_express.specs.WellFormed.{IsEntity, IsIn}
use Rattle.p21_schema.specs.Place.{entity_name, no_entity, IsEntityOf}
use Rattle.p21_schema.specs.declared.ids.AttrId.{AttrId}
use Rattle.p21_schema.specs.declared.ids.EntityId.{EntityId}
use Rattle.p21_rule_text.specs.Clauses.{InverseClause, UniqueClause}
use Rattle.p21_rule_text.specs.Entities.{AreClauses, EntityClauses, entities_at, if_whole}
use Rattle.p21_rule_text.specs.Rules.{AreOfEntities, AreStated, HasNoRules, HasUnstated}
use Rattle.p21_rule_text.specs.Resolve.{IsMeant}
use Rattle.p21_rule_text.specs.Statements.{AreExplicit, Clause, IsDeclarable, IsFirst, IsNamed, IsUncounted, IsUnstated, States, any_count, clauses_of, derived_elsewhere, inverse, inverse_passed, inverse_rule, no_numbers, numbered, other, unique, unique_passed, unique_rule}
use Rattle.p21_rule_text.specs.declared.bounds.Bounds.{Bounds}
use Rattle.p21_rule_text.specs.declared.resolve.Found.{Found}
use Rattle.p21_rule_text.specs.declared.resolve.Found.TheVariants as found
use Rattle.p21_rule_text.specs.declared.statements.Statement.{Statement}
use Rattle.p21_rule_text.proofs.ResolveLemmas.{stands_at}

-- what holds is said of any refusal
pub on_any : (e : SchemaError) (P : Type 0) → P → OnRefusal e P
on_any (errors.Syntax at) P h = h
on_any (errors.NotSupported at) P h = h
on_any (errors.Repeated at) P h = h
on_any (errors.UnknownName at) P h = h
on_any (errors.Cycle at) P h = h
on_any (errors.BadRedeclaration at) P h = h
on_any errors.Memory P h = tt

-- what is said of a refusal goes on
pub on_along : (e : SchemaError) (P Q : Type 0) → (P → Q) → OnRefusal e P → OnRefusal e Q
on_along (errors.Syntax at) P Q f h = f h
on_along (errors.NotSupported at) P Q f h = f h
on_along (errors.Repeated at) P Q f h = f h
on_along (errors.UnknownName at) P Q f h = f h
on_along (errors.Cycle at) P Q f h = f h
on_along (errors.BadRedeclaration at) P Q f h = f h
on_along errors.Memory P Q f h = tt

pub err_along : {X : Type 0} (r : Result X SchemaError) (P Q : Type 0) → (P → Q) → IfErr r (λ e. OnRefusal e P) → IfErr r (λ e. OnRefusal e Q)
err_along (Ok x) P Q f h = tt
err_along (Err e) P Q f h = on_along e P Q f h

-- a name is of one entity at most, and in an entity it is one thing at most
abbrev pub OneId : Schema → Type 0
OneId s = (a b : EntityId) → IsEntityOf s a → IsEntityOf s b → entity_name s a ≡ entity_name s b → a ≡ b

abbrev pub OneMeaning : Schema → Type 0
OneMeaning s = (es : List EntityClauses) (e : EntityId) (x : Naming) (f g : Found) → IsMeant s es e x f → IsMeant s es e x g → f ≡ g

same_entity : (s : Schema) → OneId s → (n : List ℕ) (a b : EntityId) → IsNamed s n a → IsNamed s n b → a ≡ b
same_entity s one n a b i j = one a b i.known j.known (i.name ∙ sym j.name)

-- what is no entity's name is of none
pub not_named : (s : Schema) (n : List ℕ) → ¬ (IsEntity s n) → (i : EntityId) → ¬ (IsNamed s n i)
not_named s n none i is = none (subst (IsIn (map (λ e. e.name) s.entities)) is.name (stands_at (λ e. e.name) s.entities i.index no_entity is.known))

-- ---- INVERSE

-- what a clause has that states something
record IsReadable (s : Schema) (es : List EntityClauses) (n : List ℕ) (c : InverseClause) : Type 0 where
  entity : EntityId
  named : IsNamed s n entity
  declarable : IsDeclarable s es entity c.name
  source : EntityId
  is_source : IsNamed s c.source source
  thing : Found
  is_meant : IsMeant s es source c.attribute thing
  is_known : thing ≢ found.Nothing

counted_known : (s : Schema) (source : EntityId) (n m k : List ℕ) (b : Option Bounds) (f : Found) → IsUncounted s source n b f m k → f ≢ found.Nothing
counted_known s source n m k b f (no_numbers h) = h
counted_known s source n m k b f other = λ e. absurd (cc)
counted_known s source n m k b f (derived_elsewhere h d) = λ e. absurd (cc)

readable : (s : Schema) (es : List EntityClauses) (n : List ℕ) (c : InverseClause) (t : Statement) → States s es (inverse n c) t → IsReadable s es n c
readable s es n c t (inverse_rule {r = r} rule b l) = record { entity = r.entity; named = rule.entity; declarable = rule.declarable; source = r.source; is_source = rule.source; thing = found.Explicit r.attribute; is_meant = rule.attribute; is_known = λ e. absurd (cc) }
readable s es n c t (any_count {r = r} rule b) = record { entity = r.entity; named = rule.entity; declarable = rule.declarable; source = r.source; is_source = rule.source; thing = found.Explicit r.attribute; is_meant = rule.attribute; is_known = λ e. absurd (cc) }
readable s es n c t (inverse_passed {p = p} is) = record { entity = p.entity; named = is.entity; declarable = is.declarable; source = is.source; is_source = is.is_source; thing = is.found; is_meant = is.is_meant; is_known = counted_known s is.source c.attribute.name p.attribute.items p.subtype.items c.bounds is.found is.uncounted }

pub no_declarer : (s : Schema) (es : List EntityClauses) (n : List ℕ) (c : InverseClause) → ((i : EntityId) → ¬ (IsNamed s n i)) → IsUnstated s es (inverse n c)
no_declarer s es n c none t is = let r = readable s es n c t is in none r.entity r.named

pub not_declarable : (s : Schema) (es : List EntityClauses) (n : List ℕ) (c : InverseClause) (e : EntityId) → OneId s → IsNamed s n e → ¬ (IsDeclarable s es e c.name) → IsUnstated s es (inverse n c)
not_declarable s es n c e one named not t is = let r = readable s es n c t is in not (subst (λ i. IsDeclarable s es i c.name) (same_entity s one n r.entity e r.named named) r.declarable)

pub no_source : (s : Schema) (es : List EntityClauses) (n : List ℕ) (c : InverseClause) → ((i : EntityId) → ¬ (IsNamed s c.source i)) → IsUnstated s es (inverse n c)
no_source s es n c none t is = let r = readable s es n c t is in none r.source r.is_source

pub no_attribute : (s : Schema) (es : List EntityClauses) (n : List ℕ) (c : InverseClause) (e : EntityId) → OneId s → OneMeaning s → IsNamed s c.source e → IsMeant s es e c.attribute found.Nothing → IsUnstated s es (inverse n c)
no_attribute s es n c e one meaning named unknown t is =
    let r = readable s es n c t is in
    let meant = subst (λ i. IsMeant s es i c.attribute r.thing) (same_entity s one c.source r.source e r.is_source named) r.is_meant in
    r.is_known (meaning es e c.attribute r.thing found.Nothing meant unknown)

-- ---- UNIQUE

explicit_at : (R : Naming → Found → Type 0) (front : List Naming) (x : Naming) (behind : List Naming) (ids : List AttrId) → AllZip R (front ++ x ∷ behind) (map found.Explicit ids) → (a : AttrId) × R x (found.Explicit a)
explicit_at R [] x behind [] all = absurd all
explicit_at R [] x behind (a ∷ ids) all = (a, all.0)
explicit_at R (y ∷ front) x behind [] all = absurd all
explicit_at R (y ∷ front) x behind (a ∷ ids) all = explicit_at R front x behind ids all.1

module _ (s : Schema) (es : List EntityClauses) (e : EntityId) (meaning : OneMeaning s) where
  -- a name that is nothing is not the first that is a derived or inverse attribute, and not after it
  not_both : (fs gs : List Naming) (x y : Naming) (us vs : List Naming) (is js : List AttrId) → fs ++ x ∷ us ≡ gs ++ y ∷ vs → AreExplicit s es e fs is → AreExplicit s es e gs js → IsMeant s es e x found.Nothing → IsMeant s es e y found.Other → ⊥
  not_both [] [] x y us vs is js same all more is_x is_y =
      let k : x ≡ y = cc in
      let l : found.Nothing ≡ found.Other = meaning es e y found.Nothing found.Other (subst (λ z. IsMeant s es e z found.Nothing) k is_x) is_y in
      absurd (cc)
  not_both [] (g ∷ gs) x y us vs is [] same all more is_x is_y = absurd more
  not_both [] (g ∷ gs) x y us vs is (j ∷ js) same all more is_x is_y =
      let k : x ≡ g = cc in
      let l : found.Nothing ≡ found.Explicit j = meaning es e g found.Nothing (found.Explicit j) (subst (λ z. IsMeant s es e z found.Nothing) k is_x) more.0 in
      absurd (cc)
  not_both (f ∷ fs) [] x y us vs [] js same all more is_x is_y = absurd all
  not_both (f ∷ fs) [] x y us vs (i ∷ is) js same all more is_x is_y =
      let k : f ≡ y = cc in
      let l : found.Explicit i ≡ found.Other = meaning es e y (found.Explicit i) found.Other (subst (λ z. IsMeant s es e z (found.Explicit i)) k all.0) is_y in
      absurd (cc)
  not_both (f ∷ fs) (g ∷ gs) x y us vs [] js same all more is_x is_y = absurd all
  not_both (f ∷ fs) (g ∷ gs) x y us vs (i ∷ is) [] same all more is_x is_y = absurd more
  not_both (f ∷ fs) (g ∷ gs) x y us vs (i ∷ is) (j ∷ js) same all more is_x is_y = not_both fs gs x y us vs is js (cc) all.1 more.1 is_x is_y

  not_explicit : (xs : List Naming) (n : List ℕ) (ids : List AttrId) → IsFirst s es e xs found.Nothing n → AreExplicit s es e xs ids → ⊥
  not_explicit xs n ids first all =
      let at = explicit_at (IsMeant s es e) first.front first.first first.behind ids (subst (λ ys. AreExplicit s es e ys ids) first.names_are all) in
      let l : found.Nothing ≡ found.Explicit at.0 = meaning es e first.first found.Nothing (found.Explicit at.0) first.is_meant at.1 in
      absurd (cc)

  not_passed : (xs : List Naming) (n m : List ℕ) → IsFirst s es e xs found.Nothing n → IsFirst s es e xs found.Other m → ⊥
  not_passed xs n m first passed = not_both first.front passed.front first.first passed.first first.behind passed.behind first.ids passed.ids (sym first.names_are ∙ passed.names_are) first.explicit passed.explicit first.is_meant passed.is_meant

pub no_owner : (s : Schema) (es : List EntityClauses) (n : List ℕ) (k : ℕ) (c : UniqueClause) → ((i : EntityId) → ¬ (IsNamed s n i)) → IsUnstated s es (unique n k c)
no_owner s es n k c none t (unique_rule {r = r} rule label told) = none r.entity rule.entity
no_owner s es n k c none t (unique_passed {p = p} passed) = none p.entity passed.entity

pub unknown_name : (s : Schema) (es : List EntityClauses) (n : List ℕ) (k : ℕ) (c : UniqueClause) (e : EntityId) (m : List ℕ) → OneId s → OneMeaning s → IsNamed s n e → IsFirst s es e c.names found.Nothing m → IsUnstated s es (unique n k c)
unknown_name s es n k c e m one meaning named first t (unique_rule {r = r} rule label told) = not_explicit s es e meaning c.names m r.attributes.items first (subst (λ i. AreExplicit s es i c.names r.attributes.items) (same_entity s one n r.entity e rule.entity named) rule.attributes)
unknown_name s es n k c e m one meaning named first t (unique_passed {p = p} passed) = not_passed s es e meaning c.names m p.attribute.items first (subst (λ i. IsFirst s es i c.names found.Other p.attribute.items) (same_entity s one n p.entity e passed.entity named) passed.attribute)

-- ---- places

pub in_left : {X : Type 0} (xs ys : List X) (x : X) → IsIn xs x → IsIn (xs ++ ys) x
in_left [] ys x h = absurd h
in_left (z ∷ zs) ys x (inl e) = inl e
in_left (z ∷ zs) ys x (inr h) = inr (in_left zs ys x h)

pub in_right : {X : Type 0} (xs ys : List X) (x : X) → IsIn ys x → IsIn (xs ++ ys) x
in_right [] ys x h = h
in_right (z ∷ zs) ys x h = inr (in_right zs ys x h)

-- what is made in two steps of the item at a place
pub made_at : {A B C : Type 0} (f : A → B) (g : B → C) (xs : List A) (k : ℕ) (d : A) → k < length xs → IsIn (map g (map f xs)) (g (f (get_or xs k d)))
made_at f g [] k d l = absurd (omega arith)
made_at f g (x ∷ xs) zero d l = inl refl
made_at f g (x ∷ xs) (suc k) d l = inr (made_at f g xs k d (omega arith))

-- the rule at a place, with its number
pub numbered_at : {A : Type 0} (f : A → UniqueClause) (e : List ℕ) (n : ℕ) (xs : List A) (k m : ℕ) (d : A) → k < length xs → m ≡ n + k → IsIn (numbered e n (map f xs)) (unique e m (f (get_or xs k d)))
numbered_at f e n [] k m d l same = absurd (omega arith)
numbered_at f e n (x ∷ xs) zero m d l same = inl (let h : m ≡ n = omega (arith, same) in ap (λ i. unique e i (f x)) (sym h))
numbered_at f e n (x ∷ xs) (suc k) m d l same = inr (numbered_at f e (suc n) xs k m d (omega arith) (omega (arith, same)))

-- a clause of the entity at a place
pub among_all : {A : Type 0} (f : A → EntityClauses) (xs : List A) (k : ℕ) (d : A) (c : Clause) → k < length xs → IsIn (clauses_of (f (get_or xs k d))) c → IsIn (flat_map clauses_of (map f xs)) c
among_all f [] k d c l h = absurd (omega arith)
among_all f (x ∷ xs) zero d c l h = subst (λ cs. IsIn cs c) (sym (flat_map-cons clauses_of (f x) (map f xs))) (in_left (clauses_of (f x)) (flat_map clauses_of (map f xs)) c h)
among_all f (x ∷ xs) (suc k) d c l h = subst (λ cs. IsIn cs c) (sym (flat_map-cons clauses_of (f x) (map f xs))) (in_right (clauses_of (f x)) (flat_map clauses_of (map f xs)) c (among_all f xs k d c (omega arith) h))

-- ---- texts

paired : {A B : Type 0} (R : A → B → Type 0) (xs : List A) (ys : List B) (x : A) → AllZip R xs ys → IsIn xs x → (y : B) × R x y
paired R [] ys x all h = absurd h
paired R (z ∷ zs) [] x all h = absurd all
paired R (z ∷ zs) (y ∷ ys) x all (inl e) = (y, subst (λ v. R v y) e all.0)
paired R (z ∷ zs) (y ∷ ys) x all (inr h) = paired R zs ys x all.1 h

-- the same words are the same clauses
same_clauses : (es fs : List EntityClauses) → Some es ≡ Some fs → es ≡ fs
same_clauses es fs e = cc

clauses_once : (text : List ℕ) (b : Bool) (words : List Word) (es : List EntityClauses) → ((text : List ℕ) (vs ws : List Word) → AreWords text vs → AreWords text ws → vs ≡ ws) → (IsTrue b → UpperWords (map to_ascii_uppercase text) words) → if_whole b (entities_at words) ≡ Some es → (fs : List EntityClauses) → AreClauses text fs → fs ≡ es
clauses_once text true words es one w read fs are = same_clauses fs es (sym are.are_clauses ∙ (ap entities_at (one text are.words words are.are_words (w refl)) ∙ read))
clauses_once text false words es one w read fs are = absurd (cc)

-- a clause that states nothing leaves the text without rules
pub unruled : (s : Schema) (text upper : List ℕ) (b : Bool) (words : List Word) (es : List EntityClauses) → ((text : List ℕ) (vs ws : List Word) → AreWords text vs → AreWords text ws → vs ≡ ws) → upper ≡ map to_ascii_uppercase text → (IsTrue b → UpperWords upper words) → if_whole b (entities_at words) ≡ Some es → HasUnstated s es (flat_map clauses_of es) → HasNoRules s text
unruled s text upper b words es one u w read none rules are =
    let e = clauses_once text b words es one (subst (λ v. IsTrue b → UpperWords v words) u w) read are.clauses are.are_clauses in
    let stated = subst (λ fs. AreStated s fs (flat_map clauses_of fs) rules) e are.stated in
    let t = paired (States s es) (flat_map clauses_of es) stated.statements none.0 stated.states none.1.0 in
    none.1.1 t.0 t.1

-- nor has a text with other entities than the schema
pub others : (s : Schema) (text upper : List ℕ) (b : Bool) (words : List Word) (es : List EntityClauses) → ((text : List ℕ) (vs ws : List Word) → AreWords text vs → AreWords text ws → vs ≡ ws) → upper ≡ map to_ascii_uppercase text → (IsTrue b → UpperWords upper words) → if_whole b (entities_at words) ≡ Some es → ¬ (AreOfEntities s.entities es) → HasNoRules s text
others s text upper b words es one u w read not rules are =
    let e = clauses_once text b words es one (subst (λ v. IsTrue b → UpperWords v words) u w) read are.clauses are.are_clauses in
    not (subst (AreOfEntities s.entities) e are.entities)

unread_by : (s : Schema) (text : List ℕ) (b : Bool) (words : List Word) → ((text : List ℕ) (vs ws : List Word) → AreWords text vs → AreWords text ws → vs ≡ ws) → (IsTrue b → UpperWords (map to_ascii_uppercase text) words) → (b ≡ false → HasNoWords (map to_ascii_uppercase text)) → if_whole b (entities_at words) ≡ None → HasNoRules s text
unread_by s text true words one w n none rules are =
    let e : entities_at words ≡ Some are.clauses = ap entities_at (one text words are.are_clauses.words (w refl) are.are_clauses.are_words) ∙ are.are_clauses.are_clauses in
    absurd (let k = sym none ∙ e in cc)
unread_by s text false words one w n none rules are = n refl are.are_clauses.words are.are_clauses.are_words

-- words that are no clauses of entities leave the text without rules, unless memory ran out
pub unread : (n : ℕ) (r : Refusal) (e : SchemaError) (s : Schema) (text upper : List ℕ) (b : Bool) (words : List Word) → ((text : List ℕ) (vs ws : List Word) → AreWords text vs → AreWords text ws → vs ≡ ws) → IsRefusedAs n r e → upper ≡ map to_ascii_uppercase text → (IsTrue b → UpperWords upper words) → (b ≡ false → HasNoWords upper) → Fails r (if_whole b (entities_at words)) → OnRefusal e (HasNoRules s text)
unread n refusal.Memory e s text upper b words one same u w o fails = subst (λ x. OnRefusal x (HasNoRules s text)) (sym same) tt
unread n (refusal.Refused k l) e s text upper b words one same u w o fails = on_any e (HasNoRules s text) (unread_by s text b words one (subst (λ v. IsTrue b → UpperWords v words) u w) (subst (λ v. b ≡ false → HasNoWords v) u o) fails)
