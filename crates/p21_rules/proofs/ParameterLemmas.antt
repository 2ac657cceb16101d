-- The attributes of a record are one list, and an attribute has one parameter in an instance.
use Rattle.std.proofs.Common.{◌≡◌, ⊎_elim, inl, inr, ℕ, zero, suc, add-one, ◌+◌, ◌<◌, ◌≤◌, Bool, true, false, List, [], ◌∷◌, ◌++◌, Option, Some, None, cond, map, min, length, take, drop, get_or, nat_eq, refl, sym, ap, subst, ◌∙◌, arith}
use Rattle.std.specs.Prelude.{slice_get, MatchOption}
use Rattle.std.proofs.lemmas.List.{take_more, drop_more, length-map, map-append}
use Rattle.std.proofs.lemmas.Slice.Zip.{AllZip-long}
use Rattle.std.specs.List.{AllZip}
use Rattle.std.proofs.lemmas.Bool.{cases_Bool, cases_eq, eq-eqb, ne_eqb, and_parts, and_from}
use Rattle.std.specs.Str.{bytes_eq}
use Rattle.std.specs.Cmp.Lexicographic.{bytes_decides}
use Rattle.p21_express.specs.Schema.{Schema, Entity, Defined}
use Rattle.p21_express.specs.WellFormed.{IsIn, AreDistinct, IsWellFormed, IsEntity, Origin}
use Rattle.p21_tree.specs.Tree.{Tree}
use Rattle.p21_tree.specs.Grammar.{Entry}
use Rattle.p21_tree.specs.Plain.{plain, plain_all}
use Rattle.p21_tree.specs.Views.{plain_record}
use Rattle.p21_tree.specs.declared.instances.Record.{Record}
use Rattle.p21_tree.specs.declared.params.Param.{Param}
use Rattle.p21_schema.specs.declared.ids.EntityId.{EntityId}
use Rattle.p21_schema.specs.Place.{no_entity, entity_at, entity_name, IsEntityOf}
use Rattle.p21_schema.specs.declared.ids.AttrId.{AttrId}
use Rattle.p21_schema.specs.Row.{IsRow, AreRows, IsAttributeOf, attribute_at, attributes_of, no_attribute, own_attributes, first_places, same_origin}
use Rattle.p21_schema.specs.Row as row
use Rattle.p21_check.specs.Sets.{AnyIn, keywords_of}
use Rattle.p21_check.specs.Attributes.{AreAttributes}
use Rattle.p21_check.specs.Attributes as attributes
use Rattle.p21_rules.specs.Named.{AreNamed, IsNamed}
use Rattle.p21_rules.specs.Parameter.{parameter_of, IsParameterIn}
use Rattle.p21_rules.specs.Parameter as parameter

-- ---- entities of one name

named_in : (es : List Entity) (e : Entity) → IsIn es e → IsIn (map (λ (x : Entity). x.name) es) e.name
named_in [] e h = absurd h
named_in (x ∷ es) e (inl q) = inl (ap (λ (y : Entity). y.name) q)
named_in (x ∷ es) e (inr h) = inr (named_in es e h)

in_both : (ns ms : List (List ℕ)) (n : List ℕ) → IsIn ns n → IsIn (ns ++ ms) n
in_both [] ms n h = absurd h
in_both (m ∷ ns) ms n (inl e) = inl e
in_both (m ∷ ns) ms n (inr h) = inr (in_both ns ms n h)

one_of : (es : List Entity) (ms : List (List ℕ)) (a b : Entity) → AreDistinct (map (λ (x : Entity). x.name) es ++ ms) → IsIn es a → IsIn es b → a.name ≡ b.name → a ≡ b
one_of [] ms a b d h k e = absurd h
one_of (x ∷ es) ms a b d h k e =
    let twice : (y z : Entity) → x ≡ y → IsIn es z → y.name ≡ z.name → ⊥ = λ y z q i f.
    d.0 (subst (IsIn (map (λ (x : Entity). x.name) es ++ ms)) (sym (ap (λ (x : Entity). x.name) q ∙ f)) (in_both (map (λ (x : Entity). x.name) es) ms z.name (named_in es z i))) in
    ⊎_elim
    (λ (p : x ≡ a). ⊎_elim (λ (q : x ≡ b). sym p ∙ q) (λ (i : IsIn es b). absurd (twice a b p i e)) k)
    (λ (i : IsIn es a). ⊎_elim (λ (q : x ≡ b). absurd (twice b a q i (sym e))) (λ (j : IsIn es b). one_of es ms a b d.1 i j e) k)
    h

one_entity : (s : Schema) → IsWellFormed s → (a b : Entity) → IsIn s.entities a → IsIn s.entities b → a.name ≡ b.name → a ≡ b
one_entity s w a b h k e = one_of s.entities (map (λ (t : Defined). t.name) s.types) a b w.repeated.declarations h k e

there_at : (es : List Entity) (i : ℕ) → i < length es → IsIn es (get_or es i no_entity)
there_at [] i h = absurd (omega arith)
there_at (e ∷ es) zero h = inl refl
there_at (e ∷ es) (suc i) h = inr (there_at es i (omega arith))

-- the entity of an id is one of the schema's
entity_there : (s : Schema) (e : EntityId) → IsEntityOf s e → IsIn s.entities (entity_at s e)
entity_there s e h = there_at s.entities e.index h

-- the name of an id is an entity's
pub is_entity : (s : Schema) (e : EntityId) (n : List ℕ) → IsEntityOf s e → entity_name s e ≡ n → IsEntity s n
is_entity s e n h q = subst (IsEntity s) q (named_in s.entities (entity_at s e) (entity_there s e h))

-- ---- one list of attributes

module _ (s : Schema) (w : IsWellFormed s) where
  mutual
    one_row : {n : List ℕ} {a b : List Origin} → IsRow s n a → IsRow s n b → a ≡ b
    one_row (row.row {above = p} e i x r g) (row.row {above = q} f j y t h) =
        let same : f ≡ e = one_entity s w f e j i (y ∙ sym x) in
        let above : p ≡ q = one_rows r (subst (λ (z : Entity). AreRows s z.supertypes q) same t) in
        g ∙ ap (λ l. first_places same_origin (l ++ own_attributes e)) above ∙ ap (λ (z : Entity). first_places same_origin (q ++ own_attributes z)) (sym same) ∙ sym h

    one_rows : {ns : List (List ℕ)} {a b : List Origin} → AreRows s ns a → AreRows s ns b → a ≡ b
    one_rows (row.none g) (row.none h) = g ∙ sym h
    one_rows (row.more {rest = l} r rs g) (row.more {one = y} t ts h) =
        g ∙ ap (λ x. x ++ l) (one_row r t) ∙ ap (λ x. y ++ x) (one_rows rs ts) ∙ sym h

  pub one_list : {c : Bool} {n : List ℕ} {a b : List Origin} → AreAttributes s c n a → AreAttributes s c n b → a ≡ b
  one_list (attributes.simple r) (attributes.simple t) = one_row r t
  one_list (attributes.complex e i x g) (attributes.complex f j y h) = sym g ∙ ap own_attributes (one_entity s w e f i j (x ∙ sym y)) ∙ h

-- the own attributes of an id's entity
pub own_of : (s : Schema) (e : EntityId) → IsEntityOf s e → AreAttributes s true (entity_name s e) (own_attributes (entity_at s e))
own_of s e h = attributes.complex (entity_at s e) (entity_there s e h) refl refl

pub row_of : {s : Schema} {n : List ℕ} {os : List Origin} → AreAttributes s false n os → IsRow s n os
row_of (attributes.simple r) = r

-- a record that has attributes names an entity
pub names_entity : {s : Schema} {c : Bool} {n : List ℕ} {os : List Origin} → AreAttributes s c n os → IsEntity s n
names_entity {s} (attributes.simple (row.row e i x r g)) = subst (IsEntity s) x (named_in s.entities e i)
names_entity {s} (attributes.complex e i x g) = subst (IsEntity s) x (named_in s.entities e i)

-- ---- one parameter

pub parameter_once : (s : Schema) → IsWellFormed s → (c : Bool) (o : Origin) (es : List Entry) (t u : Tree) → IsParameterIn s c o es t → IsParameterIn s c o es u → t ≡ u
parameter_once s w c o [] t u h k = elim h [ ]
parameter_once s w c o (e ∷ es) t u (parameter.here {os = os} a p) (parameter.here {os = ps} b q) =
    let same : Some t ≡ Some u = sym p ∙ ap (λ l. parameter_of l e.params o) (one_list s w a b) ∙ q in cc
parameter_once s w c o (e ∷ es) t u (parameter.here {os = os} a p) (parameter.behind {os = ps} b q h) =
    let same : Some t ≡ None = sym p ∙ ap (λ l. parameter_of l e.params o) (one_list s w a b) ∙ q in cc
parameter_once s w c o (e ∷ es) t u (parameter.behind {os = os} a p h) (parameter.here {os = ps} b q) =
    let same : None ≡ Some u = sym p ∙ ap (λ l. parameter_of l e.params o) (one_list s w a b) ∙ q in cc
parameter_once s w c o (e ∷ es) t u (parameter.behind a p h) (parameter.behind b q k) = parameter_once s w c o es t u h k

-- ---- ids

origin_tells : (a b : Origin) → (same_origin a b ≡ true → a ≡ b) × (a ≡ b → same_origin a b ≡ true)
origin_tells a b = (
  λ t. let p = and_parts (bytes_eq a.entity b.entity) (bytes_eq a.name b.name) t in
      let e = (bytes_decides a.entity b.entity).0 p.0 in
      let n = (bytes_decides a.name b.name).0 p.1 in
      λ j. record { entity = e j; name = n j },
  λ e. and_from (bytes_eq a.entity b.entity) (bytes_eq a.name b.name) ((bytes_decides a.entity b.entity).1 (ap (λ (o : Origin). o.entity) e)) ((bytes_decides a.name b.name).1 (ap (λ (o : Origin). o.name) e)),
)

-- ids are equal where they name the same attribute
pub same_attribute : (s : Schema) → ((a b : AttrId) → IsAttributeOf s a → IsAttributeOf s b → attribute_at s a ≡ attribute_at s b → a ≡ b) → (a b : AttrId) → IsAttributeOf s a → IsAttributeOf s b → nat_eq a.index b.index ≡ same_origin (attribute_at s a) (attribute_at s b)
same_attribute s one a b la lb =
    let t = origin_tells (attribute_at s a) (attribute_at s b) in
    ⊎_elim
    (λ (e : a.index ≡ b.index). eq-eqb a.index b.index e ∙ sym (t.1 (ap (λ (u : ℕ). get_or (attributes_of s.entities) u no_attribute) e)))
    (λ (n : (a.index ≡ b.index) → ⊥). ⊎_elim
    (λ (y : same_origin (attribute_at s a) (attribute_at s b) ≡ true). absurd (n (ap (λ (i : AttrId). i.index) (one a b la lb (t.0 y)))))
    (λ (f : same_origin (attribute_at s a) (attribute_at s b) ≡ false). ne_eqb a.index b.index n ∙ sym f)
    (cases_Bool (same_origin (attribute_at s a) (attribute_at s b))))
    (cases_eq a.index b.index)

-- ---- lists side by side

module _ {A B : Type 0} (R : A → B → Type 0) where
  zip_next : (cs : List A) (ds : List B) (i : ℕ) (c : A) → AllZip R cs ds → i < length cs → (d : B) × (drop i ds ≡ d ∷ drop (suc i) ds) × R (get_or cs i c) d
  zip_next [] ds i c h l = absurd (omega arith)
  zip_next (x ∷ cs) [] i c h l = absurd h
  zip_next (x ∷ cs) (d ∷ ds) zero c h l = (d, refl, h.0)
  zip_next (x ∷ cs) (d ∷ ds) (suc i) c h l = zip_next cs ds i c h.1 (omega arith)

  -- what corresponds to an element, and what stands after it
  pub zip_drop : (cs : List A) (ds : List B) (i : ℕ) (c : A) → AllZip R cs ds → i < length cs → (d : B) × (drop i ds ≡ d ∷ drop (i + 1) ds) × R (get_or cs i c) d
  zip_drop cs ds i c h l =
      let r = zip_next cs ds i c h l in
      (r.0, r.1 ∙ ap (λ (k : ℕ). r.0 ∷ drop k ds) (sym (add-one i)), r.2)

  pub zip_end : (cs : List A) (ds : List B) (i : ℕ) → AllZip R cs ds → length cs ≤ i → drop i ds ≡ []
  zip_end [] [] zero h l = refl
  zip_end [] [] (suc i) h l = refl
  zip_end [] (d ∷ ds) i h l = absurd h
  zip_end (x ∷ cs) [] i h l = absurd h
  zip_end (x ∷ cs) (d ∷ ds) zero h l = absurd (omega arith)
  zip_end (x ∷ cs) (d ∷ ds) (suc i) h l = zip_end cs ds i h.1 (omega arith)

  -- one more on each side
  pub zip_more : (cs : List A) (ds : List B) (c : A) (d : B) → AllZip R cs ds → R c d → AllZip R (cs ++ c ∷ []) (ds ++ d ∷ [])
  zip_more [] [] c d h r = (r, tt)
  zip_more [] (y ∷ ds) c d h r = absurd h
  zip_more (x ∷ cs) [] c d h r = absurd h
  zip_more (x ∷ cs) (y ∷ ds) c d h r = (h.0, zip_more cs ds c d h.1 r)

module _ {X : Type 0} where
  in_drop : (xs : List X) (i : ℕ) (x : X) → IsIn (drop i xs) x → IsIn xs x
  in_drop xs zero x h = h
  in_drop [] (suc i) x h = h
  in_drop (y ∷ xs) (suc i) x h = inr (in_drop xs i x h)

  pub any_there : (P : X → Type 0) (xs rest : List X) (i : ℕ) (x : X) → drop i xs ≡ x ∷ rest → P x → AnyIn xs P
  any_there P xs rest i x e p = (x, in_drop xs i x (subst (λ (l : List X). IsIn l x) (sym e) (inl refl)), p)

  any_next : (P : X → Type 0) (rest : List X) (x : X) → ¬ (P x) → AnyIn (x ∷ rest) P → AnyIn rest P
  any_next P rest x n (y, inl e, p) = absurd (n (subst P (sym e) p))
  any_next P rest x n (y, inr h, p) = (y, h, p)

  pub any_further : (P : X → Type 0) (l rest : List X) (x : X) → l ≡ x ∷ rest → ¬ (P x) → AnyIn l P → AnyIn rest P
  any_further P l rest x e n h = any_next P rest x n (subst (λ (k : List X). AnyIn k P) e h)

  pub none_left : (P : X → Type 0) (l : List X) → l ≡ [] → ¬ (AnyIn l P)
  none_left P l e h = let k = subst (λ (m : List X). AnyIn m P) e h in absurd k.1

-- ---- one parameter of some

passed_next : (os : List Origin) (ps : List Param) (i : ℕ) (o p : Origin) → i < length ps → slice_get os i ≡ Some p → same_origin p o ≡ false → parameter_of (drop i os) (plain_all (drop i ps)) o ≡ parameter_of (drop (suc i) os) (plain_all (drop (suc i) ps)) o
passed_next [] ps i o p l e f = absurd (cc)
passed_next (x ∷ os) [] i o p l e f = absurd (omega arith)
passed_next (x ∷ os) (q ∷ ps) zero o p l e f =
    let same : x ≡ p = cc in
    ap (λ b. cond b (Some (plain q)) (parameter_of os (plain_all ps) o)) (ap (λ y. same_origin y o) same ∙ f)
passed_next (x ∷ os) (q ∷ ps) (suc i) o p l e f = passed_next os ps i o p (omega arith) e f

-- another attribute stands at a place
pub passed : (os : List Origin) (ps : List Param) (i : ℕ) (o p : Origin) → i < length ps → slice_get os i ≡ Some p → same_origin p o ≡ false → parameter_of (drop i os) (plain_all (drop i ps)) o ≡ parameter_of (drop (i + 1) os) (plain_all (drop (i + 1) ps)) o
passed os ps i o p l e f = passed_next os ps i o p l e f ∙ ap (λ (k : ℕ). parameter_of (drop k os) (plain_all (drop k ps)) o) (sym (add-one i))

-- the attribute stands at a place
pub stands : (os : List Origin) (ps : List Param) (i : ℕ) (o p : Origin) (d : Param) → i < length ps → slice_get os i ≡ Some p → same_origin p o ≡ true → parameter_of (drop i os) (plain_all (drop i ps)) o ≡ Some (plain (get_or ps i d))
stands [] ps i o p d l e f = absurd (cc)
stands (x ∷ os) [] i o p d l e f = absurd (omega arith)
stands (x ∷ os) (q ∷ ps) zero o p d l e f =
    let same : x ≡ p = cc in
    ap (λ b. cond b (Some (plain q)) (parameter_of os (plain_all ps) o)) (ap (λ y. same_origin y o) same ∙ f)
stands (x ∷ os) (q ∷ ps) (suc i) o p d l e f = stands os ps i o p d (omega arith) e f

-- the attribute stands nowhere
pub ended : (os : List Origin) (ps : List Param) (i : ℕ) (o : Origin) → min (length os) (length ps) ≤ i → parameter_of (drop i os) (plain_all (drop i ps)) o ≡ None
ended [] ps zero o l = refl
ended [] ps (suc i) o l = refl
ended (x ∷ os) [] zero o l = refl
ended (x ∷ os) [] (suc i) o l = without (drop i os) where
  without : (l : List Origin) → parameter_of l (plain_all (drop (suc i) [])) o ≡ None
  without [] = refl
  without (y ∷ l) = refl
ended (x ∷ os) (q ∷ ps) zero o l = absurd (omega arith)
ended (x ∷ os) (q ∷ ps) (suc i) o l = ended os ps i o (omega arith)

-- ---- the first record with an attribute

-- a record without the attribute is passed
pub record_passed : (s : Schema) → IsWellFormed s → (c : Bool) (o : Origin) (e : Entry) (es : List Entry) (os : List Origin) (t : Tree) → AreAttributes s c e.keyword os → parameter_of os e.params o ≡ None → IsParameterIn s c o (e ∷ es) t → IsParameterIn s c o es t
record_passed s w c o e es os t a none (parameter.here {os = ps} b q) =
    let same : None ≡ Some t = sym none ∙ ap (λ l. parameter_of l e.params o) (one_list s w a b) ∙ q in absurd (cc)
record_passed s w c o e es os t a none (parameter.behind b q h) = h

-- a record that names no entity ends the search
pub record_unknown : (s : Schema) (c : Bool) (o : Origin) (e : Entry) (es : List Entry) (t : Tree) → ¬ (IsEntity s e.keyword) → ¬ (IsParameterIn s c o (e ∷ es) t)
record_unknown s c o e es t n (parameter.here a q) = n (names_entity a)
record_unknown s c o e es t n (parameter.behind a q h) = n (names_entity a)

pub none_in : (s : Schema) (c : Bool) (o : Origin) (es : List Entry) (t : Tree) → es ≡ [] → ¬ (IsParameterIn s c o es t)
none_in s c o es t e h = let k = subst (λ (l : List Entry). IsParameterIn s c o l t) e h in elim k [ ]

pub named_as : (s : Schema) (k : List ℕ) (o : Option EntityId) → MatchOption o (¬ (IsEntity s k)) (λ e. IsEntityOf s e × (entity_name s e ≡ k)) → IsNamed s k o
named_as s k None h = h
named_as s k (Some e) h = h

-- the keywords of records
pub keywords_same : (rs : List Record) → keywords_of rs ≡ map (λ (e : Entry). e.keyword) (map plain_record rs)
keywords_same [] = refl
keywords_same (r ∷ rs) = ap (λ (l : List (List ℕ)). r.keyword.now ∷ l) (keywords_same rs)

pub keywords_more : (rs : List Record) (i : ℕ) (r : Record) → i < length rs → r ≡ get_or rs i r → keywords_of (take (i + 1) rs) ≡ keywords_of (take i rs) ++ r.keyword.now ∷ []
keywords_more rs i r h e =
    let taken : take (i + 1) rs ≡ take i rs ++ r ∷ [] = take_more rs i r h ∙ ap (λ x. take i rs ++ x ∷ []) (sym e) in
    ap keywords_of taken ∙ map-append (λ (x : Record). x.keyword.now) (take i rs) (r ∷ [])

keyword_at : (rs : List Record) (i : ℕ) (r : Record) → i < length rs → get_or (map (λ (e : Entry). e.keyword) (map plain_record rs)) i [] ≡ (get_or rs i r).keyword.now
keyword_at [] i r h = absurd (omega arith)
keyword_at (x ∷ rs) zero r h = refl
keyword_at (x ∷ rs) (suc i) r h = keyword_at rs i r (omega arith)

zip_at : {A B : Type 0} (R : A → B → Type 0) (cs : List A) (ds : List B) (i : ℕ) (c : A) (d : B) → AllZip R cs ds → i < length cs → R (get_or cs i c) (get_or ds i d)
zip_at R [] ds i c d h l = absurd (omega arith)
zip_at R (x ∷ cs) [] i c d h l = absurd h
zip_at R (x ∷ cs) (y ∷ ds) zero c d h l = h.0
zip_at R (x ∷ cs) (y ∷ ds) (suc i) c d h l = zip_at R cs ds i c d h.1 (omega arith)

-- as many entities as records
pub named_long : (s : Schema) (rs : List Record) (named : List (Option EntityId)) → AreNamed s (map (λ (e : Entry). e.keyword) (map plain_record rs)) named → length named ≡ length rs
named_long s rs named h =
    let long = AllZip-long (λ (e : Option EntityId) (k : List ℕ). IsNamed s k e) named (map (λ (e : Entry). e.keyword) (map plain_record rs)) h in
    let keys = length-map (map plain_record rs) (λ (e : Entry). e.keyword) in
    let entries = length-map rs plain_record in
    sym long ∙ keys ∙ entries

-- the entity that a record names
pub named_at : (s : Schema) (rs : List Record) (named : List (Option EntityId)) (i : ℕ) (r : Record) → AreNamed s (map (λ (e : Entry). e.keyword) (map plain_record rs)) named → i < length rs → r ≡ get_or rs i r
    → IsNamed s r.keyword.now (get_or named i None)
named_at s rs named i r h l e =
    let long = named_long s rs named h in
    let at = zip_at (λ (x : Option EntityId) (k : List ℕ). IsNamed s k x) named (map (λ (x : Entry). x.keyword) (map plain_record rs)) i None [] h (omega (arith, long)) in
    subst (λ (k : List ℕ). IsNamed s k (get_or named i None)) (keyword_at rs i r l ∙ ap (λ (x : Record). x.keyword.now) (sym e)) at

-- a record, and those after it
pub entries_at : (rs : List Record) (i : ℕ) (r : Record) → i < length rs → r ≡ get_or rs i r → map plain_record (drop i rs) ≡ plain_record r ∷ map plain_record (drop (i + 1) rs)
entries_at rs i r l e = ap (map plain_record) (drop_more rs i r l) ∙ ap (λ (x : Record). plain_record x ∷ map plain_record (drop (i + 1) rs)) (sym e)
