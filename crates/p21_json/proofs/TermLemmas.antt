-- Texts of names by their places.
use Rattle.std.proofs.Common.{◌≡◌, ◌<◌, ℕ, zero, suc, List, [], ◌∷◌, ◌++◌, Vec, String, string_bytes, length, map, get_or, refl, sym, ap, subst, ◌∙◌, arith}
use Rattle.std.specs.List.{flat_map}
use Rattle.std.specs.Char.{to_ascii_lowercase}
use Rattle.std.proofs.lemmas.Str.{encodes-append, encodes-IsAscii}
use Rattle.std.proofs.lemmas.Str.Ascii.{IsAscii-cons, IsAscii-nil}
use Rattle.std.proofs.lemmas.List.{get_or-map, map-append, length-map}
use Rattle.p21_express.specs.Schema.{Schema, Entity}
use Rattle.p21_express.specs.WellFormed.{Origin, new_explicit}
use Rattle.p21_schema.specs.Place.{IsEntityOf, entity_name}
use Rattle.p21_schema.specs.Row.{attributes_of, no_attribute, own_attributes}
use Rattle.p21_json.specs.declared.keys.DeclaredName.{DeclaredName}
use Rattle.p21_json.specs.Keys.{AreByEntities, AreDeclared, origin_of}
use Rattle.p21_spelling.specs.Spelled.{lower, names_in, own_names}
use Rattle.p21_json.specs.Spelled.{IsSpelled, text_of}
use Rattle.p21_json.specs.Terms.{AreTexts}

count_of : {A B : Type 0} (ts : List (String A)) (vs : List (Vec ℕ B)) (ns : List (List ℕ)) → map string_bytes ts ≡ map (λ v. text_of v.items) vs → names_in vs ≡ map lower ns → length ts ≡ length ns
count_of ts vs ns e f =
    sym (length-map ts string_bytes) ∙ ap length e ∙ length-map vs (λ v. text_of v.items) ∙ sym (length-map vs (λ v. lower v.items)) ∙ ap length f ∙ length-map ns lower

spelled_at : {A B : Type 0} (ts : List (String A)) (vs : List (Vec ℕ B)) (ns : List (List ℕ)) → map string_bytes ts ≡ map (λ v. text_of v.items) vs → names_in vs ≡ map lower ns → (i : ℕ) (d : String A) → i < length ns → IsSpelled (string_bytes (get_or ts i d)) (get_or ns i [])
spelled_at ts vs [] e f i d h = absurd (omega arith)
spelled_at [] [] (n ∷ ns) e f i d h = cc
spelled_at [] (v ∷ vs) ns e f i d h = cc
spelled_at (t ∷ ts) [] ns e f i d h = cc
spelled_at (t ∷ ts) (v ∷ vs) (n ∷ ns) e f zero d h = record { bytes = v.items; same = cc; spelled = cc }
spelled_at (t ∷ ts) (v ∷ vs) (n ∷ ns) e f (suc i) d h =
    let e' : map string_bytes ts ≡ map (λ v. text_of v.items) vs = cc in
    let f' : names_in vs ≡ map lower ns = cc in
    let h' : i < length ns = omega arith in spelled_at ts vs ns e' f' i d h'

-- texts of spellings are those of the names that are so spelled
pub are_texts : {A B : Type 0} (ts : List (String A)) (vs : List (Vec ℕ B)) (ns : List (List ℕ)) → map string_bytes ts ≡ map (λ v. text_of v.items) vs → names_in vs ≡ map lower ns → AreTexts ts ns
are_texts ts vs ns e f = record { count = count_of ts vs ns e f; each = spelled_at ts vs ns e f }

abbrev origin : List ℕ → List ℕ → Origin
origin n m = record { entity = n; name = m }

named : (n : List ℕ) (ns : List (List ℕ)) → map (λ (o : Origin). o.name) (map (origin n) ns) ≡ ns
named n [] = refl
named n (m ∷ ns) = ap (λ ms. m ∷ ms) (named n ns)

own_names_of : (e : Entity) → map (λ (o : Origin). o.name) (own_attributes e) ≡ own_names e
own_names_of e = named e.name (new_explicit e.attributes)

-- the attributes of all entities by their names
pub attribute_names : (es : List Entity) → map (λ (o : Origin). o.name) (attributes_of es) ≡ flat_map own_names es
attribute_names [] = refl
attribute_names (e ∷ es) = map-append (λ (o : Origin). o.name) (own_attributes e) (attributes_of es) ∙ cc (own_names_of e, attribute_names es)

-- names in lower case
pub lower_names : {X : Type 0} (f : X → List ℕ) (xs : List X) → map (λ x. lower (f x)) xs ≡ map lower (map f xs)
lower_names f [] = refl
lower_names f (x ∷ xs) = ap (λ ns. lower (f x) ∷ ns) (lower_names f xs)

-- the texts of two names with a point between them are that of the names so joined
pub spelled_full : (a b text n m : List ℕ) → IsSpelled a n → IsSpelled b m → text ≡ a ++ 46 ∷ b → IsSpelled text (n ++ 46 ∷ m)
spelled_full a b text n m p q e = record {
  bytes = p.bytes ++ 46 ∷ q.bytes;
  same =
      map-append to_ascii_lowercase p.bytes (46 ∷ q.bytes) ∙ ap (λ (l : List ℕ). l ++ map to_ascii_lowercase (46 ∷ q.bytes)) p.same ∙ ap (λ (l : List ℕ). map to_ascii_lowercase n ++ to_ascii_lowercase 46 ∷ l) q.same
      ∙ sym (map-append to_ascii_lowercase n (46 ∷ m));
  spelled =
      e ∙ ap (λ (l : List ℕ). l ++ 46 ∷ b) p.spelled ∙ ap (λ (l : List ℕ). text_of p.bytes ++ 46 ∷ l) q.spelled
      ∙ sym (encodes-append p.bytes (46 ∷ q.bytes) ∙ ap (λ (l : List ℕ). text_of p.bytes ++ l) (encodes-append (46 ∷ []) q.bytes ∙ ap (λ (l : List ℕ). l ++ text_of q.bytes) (encodes-IsAscii (46 ∷ []) (IsAscii-cons 46 [] (omega arith) IsAscii-nil))));
}

-- the entity that declares an attribute
pub declared_at : (s : Schema) (ds : List DeclaredName) (i : ℕ) (d : DeclaredName) → AreDeclared s ds → i < length ds → d ≡ get_or ds i d → IsEntityOf s d.entity × (entity_name s d.entity ≡ (get_or (attributes_of s.entities) i no_attribute).entity)
declared_at s ds i d a l e = (
  subst (λ (x : DeclaredName). IsEntityOf s x.entity) (sym e) (by_at ds i d a.by l),
  ap (λ (o : Origin). o.entity) (ap (origin_of s) e ∙ sym (get_or-map (origin_of s) ds i d no_attribute l) ∙ ap (λ (os : List Origin). get_or os i no_attribute) a.same),
) where
  by_at : (ds : List DeclaredName) (i : ℕ) (d : DeclaredName) → AreByEntities s ds → i < length ds → IsEntityOf s (get_or ds i d).entity
  by_at [] i d h l = absurd (omega arith)
  by_at (x ∷ ds) zero d h l = h.0
  by_at (x ∷ ds) (suc i) d h l = by_at ds i d h.1 (omega arith)
