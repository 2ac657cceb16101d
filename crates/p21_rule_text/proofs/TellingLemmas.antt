-- Of which subtypes it is told that a rule UNIQUE is skipped, one after the other.
use Rattle.std.proofs.Common.{◌≡◌, ◌<◌, ◌≤◌, ◌+◌, ℕ, zero, suc, List, [], ◌∷◌, ◌++◌, map, take, length, get_or, refl, sym, ap, subst, ◌∙◌, append_assoc, arith}
use Rattle.std.specs.List.{AllZip}
use Rattle.std.proofs.lemmas.List.{append-nil, length-map, take_all, take_more}
use Rattle.p21_express.specs.Grammar.{Naming}
use Rattle.p21_express.specs.Schema.{Schema}
use Rattle.p21_schema.specs.Row.{attribute_at}
use Rattle.p21_schema.specs.declared.ids.AttrId.{AttrId}
use Rattle.p21_schema.specs.declared.ids.EntityId.{EntityId}
use Rattle.p21_rules.specs.declared.rule.UniqueRule.{UniqueRule}
use Rattle.p21_rule_text.specs.Entities.{EntityClauses, joined}
use Rattle.p21_rule_text.specs.Statements.{AreExplicit, AreTold, AreToldOf, IsUniquePassedElsewhere}
use Rattle.p21_rule_text.specs.Unique.{IsNamedAs}
use Rattle.p21_rule_text.specs.declared.statements.PassedOver.{PassedOver}
use Rattle.p21_rule_text.specs.declared.resolve.Found.TheVariants as found
use Rattle.p21_rule_text.proofs.ResolveLemmas.{OneAttribute, OneEntity, meant_name}
use Rattle.p21_rule_text.proofs.StatementLemmas.{zip_push}

-- the attributes that names are have these names
pub named_as : (s : Schema) → OneEntity s → OneAttribute s → (es : List EntityClauses) (e : EntityId) (xs : List Naming) (ids : List AttrId) → AreExplicit s es e xs ids → AllZip (IsNamedAs s) xs ids
named_as s one attributes es e [] [] all = tt
named_as s one attributes es e [] (a ∷ ids) all = absurd all
named_as s one attributes es e (x ∷ xs) [] all = absurd all
named_as s one attributes es e (x ∷ xs) (a ∷ ids) all = (meant_name s one attributes es e x a (found.Explicit a) all.0 refl, named_as s one attributes es e xs ids all.1)

zip_long : {A B : Type 0} (R : A → B → Type 0) (xs : List A) (ys : List B) → AllZip R xs ys → length ys ≡ length xs
zip_long R [] [] z = refl
zip_long R [] (b ∷ ys) z = absurd z
zip_long R (a ∷ xs) [] z = absurd z
zip_long R (a ∷ xs) (b ∷ ys) z = ap suc (zip_long R xs ys z.1)

zip_there : {X A B : Type 0} (R : A → B → Type 0) (f : X → A) (xs : List X) (ys : List B) (i : ℕ) (x : X) (y : B) → AllZip R (map f xs) ys → i < length xs → R (f (get_or xs i x)) (get_or ys i y)
zip_there R f [] ys i x y z less = absurd (omega arith)
zip_there R f (a ∷ xs) [] i x y z less = absurd z
zip_there R f (a ∷ xs) (b ∷ ys) zero x y z less = z.0
zip_there R f (a ∷ xs) (b ∷ ys) (suc i) x y z less = zip_there R f xs ys i x y z.1 (omega arith)

-- the attribute at a place has the name at that place
pub named_at : {X : Type 0} (s : Schema) (f : X → Naming) (xs : List X) (ids : List AttrId) (i : ℕ) (x : X) (a : AttrId) → AllZip (IsNamedAs s) (map f xs) ids → i < length xs → a ≡ get_or ids i a → (attribute_at s a).name ≡ (f (get_or xs i x)).name
named_at s f xs ids i x a z less is = subst (λ (u : AttrId). (attribute_at s u).name ≡ (f (get_or xs i x)).name) (sym is) (zip_there (IsNamedAs s) f xs ids i x a z less)

-- there are as many attributes as names
pub as_many : {X : Type 0} (s : Schema) (f : X → Naming) (xs : List X) (ids : List AttrId) → AllZip (IsNamedAs s) (map f xs) ids → length ids ≡ length xs
as_many s f xs ids z = zip_long (IsNamedAs s) (map f xs) ids z ∙ length-map xs f

zip_more : {A B : Type 0} (R : A → B → Type 0) (xs : List A) (ys : List B) (i : ℕ) (d : A) (y : B) → i < length xs → AllZip R (take i xs) ys → R (get_or xs i d) y → AllZip R (take (i + 1) xs) (ys ++ y ∷ [])
zip_more R xs ys i d y less all h = subst (λ (l : List _). AllZip R l (ys ++ y ∷ [])) (sym (take_more xs i d less)) (zip_push R (take i xs) ys (get_or xs i d) y all h)

module _ (s : Schema) (r : UniqueRule) (n : List ℕ) where
  -- it is told of the first of these entities
  abbrev pub IsToldOf : AttrId → List EntityId → ℕ → List PassedOver → List PassedOver → Type 0
  IsToldOf a os i old new = (ps : List PassedOver) × AllZip (IsUniquePassedElsewhere s r n a) (take i os) ps × (new ≡ old ++ ps)

  pub told_of_none : (a : AttrId) (os : List EntityId) (old : List PassedOver) → IsToldOf a os 0 old old
  told_of_none a os old = ([], tt, sym (append-nil old))

  pub told_of_more : (a : AttrId) (os : List EntityId) (i : ℕ) (d : EntityId) (p : PassedOver) (old mid new : List PassedOver) → i < length os → IsToldOf a os i old mid → IsUniquePassedElsewhere s r n a (get_or os i d) p → new ≡ mid ++ p ∷ [] → IsToldOf a os (i + 1) old new
  told_of_more a os i d p old mid new less h is same = (h.0 ++ p ∷ [], zip_more (IsUniquePassedElsewhere s r n a) os h.0 i d p less h.1 is, same ∙ ap (λ (l : List PassedOver). l ++ p ∷ []) h.2 ∙ append_assoc old h.0 (p ∷ []))

  pub told_of_all : (a : AttrId) (os : List EntityId) (i : ℕ) (old new : List PassedOver) → length os ≤ i → IsToldOf a os i old new → (ps : List PassedOver) × AllZip (IsUniquePassedElsewhere s r n a) os ps × (new ≡ old ++ ps)
  told_of_all a os i old new past h = (h.0, subst (λ (l : List EntityId). AllZip (IsUniquePassedElsewhere s r n a) l h.0) (take_all i os past) h.1, h.2)

  joined_push : (pss : List (List PassedOver)) (ps : List PassedOver) → joined (pss ++ ps ∷ []) ≡ joined pss ++ ps
  joined_push [] ps = append-nil ps
  joined_push (qs ∷ pss) ps = ap (λ (l : List PassedOver). qs ++ l) (joined_push pss ps) ∙ sym (append_assoc qs (joined pss) ps)

  pub told_more : (ids : List AttrId) (i : ℕ) (d : AttrId) (ps old new : List PassedOver) → i < length ids → AreTold s r n (take i ids) old → AreToldOf s r n (get_or ids i d) ps → new ≡ old ++ ps → AreTold s r n (take (i + 1) ids) new
  told_more ids i d ps old new less h are same = (h.0 ++ ps ∷ [], zip_more (AreToldOf s r n) ids h.0 i d ps less h.1 are, same ∙ ap (λ (l : List PassedOver). l ++ ps) h.2 ∙ sym (joined_push h.0 ps))

  pub told_all : (ids : List AttrId) (i : ℕ) (all : List PassedOver) → length ids ≤ i → AreTold s r n (take i ids) all → AreTold s r n ids all
  told_all ids i all past h = subst (λ (l : List AttrId). AreTold s r n l all) (take_all i ids past) h
