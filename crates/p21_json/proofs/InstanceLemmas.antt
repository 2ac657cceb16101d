-- The parts of members and records in steps.
use Rattle.std.proofs.Common.{◌≡◌, ◌≢◌, ◌+◌, ◌<◌, ◌≤◌, ℕ, zero, suc, Bool, true, false, List, [], ◌∷◌, ◌++◌, Some, map, min, length, drop, take, get_or, refl, sym, ap, subst, ◌∙◌, add-one, arith}
use Rattle.std.specs.Prelude.{slice_get}
use Rattle.std.proofs.lemmas.List.{append_assoc, drop_more, map-append, take_more}
use Rattle.json.specs.Token as json
use Rattle.p21_express.specs.Schema.{Schema}
use Rattle.p21_express.specs.WellFormed.{IsEntity, Origin}
use Rattle.p21_tree.specs.declared.instances.Record.{Record}
use Rattle.p21_tree.specs.declared.params.Param.{Param}
use Rattle.p21_tree.specs.Grammar.{Entry}
use Rattle.p21_tree.specs.Sentence.{Instance}
use Rattle.p21_tree.specs.Tree.{Tree, nil, absent, derived, int, real, str, enumeration, binary, reference, items, typed}
use Rattle.p21_tree.specs.Plain.{plain, plain_all}
use Rattle.p21_tree.specs.Views.{plain_record}
use Rattle.p21_schema.specs.declared.ids.AttrId.{AttrId}
use Rattle.p21_schema.specs.declared.ids.EntityId.{EntityId}
use Rattle.p21_schema.specs.Row.{attribute_at}
use Rattle.p21_json.specs.Keys.{key_of}
use Rattle.p21_json.specs.Rows.{AreAttributesOf}
use Rattle.p21_json.specs.Where.{attribute}
use Rattle.p21_json.specs.Parts.{Part, exactly, key, value_parts}
use Rattle.p21_json.specs.Instances.{member_parts, members_parts, AreKnown, AreRecordsParts, IsBehindName, IsRecordParts}

-- the member of what is not derived
pub member_value : (i : Instance) (k : List ℕ) (o : Origin) (t : Tree) → t ≢ derived → member_parts i k o t ≡ key k ∷ value_parts (attribute i o) t
member_value i q o derived h = absurd (h refl)
member_value i q o absent h = refl
member_value i q o (int s) h = refl
member_value i q o (real s) h = refl
member_value i q o (str s) h = refl
member_value i q o (enumeration s) h = refl
member_value i q o (binary s) h = refl
member_value i q o (reference n) h = refl
member_value i q o (items ts) h = refl
member_value i q o (typed k t) h = refl

found_drop : (os : List Origin) (p : ℕ) (o : Origin) → slice_get os p ≡ Some o → drop p os ≡ o ∷ drop (suc p) os
found_drop [] p o h = cc
found_drop (x ∷ os) zero o h = let same : x ≡ o = cc in ap (λ (y : Origin). y ∷ os) same
found_drop (x ∷ os) (suc p) o h = found_drop os p o h

found_take : (os : List Origin) (p : ℕ) (o : Origin) → slice_get os p ≡ Some o → take p os ++ o ∷ [] ≡ take (suc p) os
found_take [] p o h = cc
found_take (x ∷ os) zero o h = let same : x ≡ o = cc in ap (λ (y : Origin). y ∷ []) (sym same)
found_take (x ∷ os) (suc p) o h = ap (λ (l : List Origin). x ∷ l) (found_take os p o h)

-- the members from a place on are the one there and those after it
pub members_step : (i : Instance) (os : List Origin) (ps : List Param) (p : ℕ) (o : Origin) (x : Param) → slice_get os p ≡ Some o → p < length ps → x ≡ get_or ps p x
    → members_parts i (take p os) (drop p os) (plain_all (drop p ps)) ≡ member_parts i (key_of (take p os) o) o (plain x) ++ members_parts i (take (p + 1) os) (drop (p + 1) os) (plain_all (drop (p + 1) ps))
members_step i os ps p o x h l e =
    let here : drop p os ≡ o ∷ drop (p + 1) os = found_drop os p o h ∙ ap (λ (k : ℕ). o ∷ drop k os) (sym (add-one p)) in
    let there : drop p ps ≡ x ∷ drop (p + 1) ps = drop_more ps p x l ∙ ap (λ (q : Param). q ∷ drop (p + 1) ps) (sym e) in
    let front : take p os ++ o ∷ [] ≡ take (p + 1) os = found_take os p o h ∙ ap (λ (k : ℕ). take k os) (sym (add-one p)) in
    ap (λ l. members_parts i (take p os) l (plain_all (drop p ps))) here ∙ ap (λ l. members_parts i (take p os) (o ∷ drop (p + 1) os) (plain_all l)) there
    ∙ ap (λ l. member_parts i (key_of (take p os) o) o (plain x) ++ members_parts i l (drop (p + 1) os) (plain_all (drop (p + 1) ps))) front

members_nil : (i : Instance) (before os : List Origin) → members_parts i before os nil ≡ []
members_nil i before [] = refl
members_nil i before (o ∷ os) = refl

-- there are none where attributes or parameters end
pub members_end : (i : Instance) (before os : List Origin) (ps : List Param) (p : ℕ) → min (length os) (length ps) ≤ p → members_parts i before (drop p os) (plain_all (drop p ps)) ≡ []
members_end i before [] ps zero h = refl
members_end i before [] ps (suc p) h = refl
members_end i before (o ∷ os) [] zero h = refl
members_end i before (o ∷ os) [] (suc p) h = members_nil i before (drop p os)
members_end i before (o ∷ os) (x ∷ ps) zero h = absurd (omega arith)
members_end i before (o ∷ os) (x ∷ ps) (suc p) h = members_end i before os ps p (omega arith)

-- one more record
pub records_snoc : (s : Schema) (i : Instance) (es : List Entry) (e : Entry) (p q : List Part) → AreRecordsParts s i es p → IsRecordParts s i e q
    → AreRecordsParts s i (es ++ e ∷ []) (p ++ exactly json.begin_object ∷ (q ++ exactly json.end_object ∷ []))
records_snoc s i [] e p q h k = (q, [], k, refl, ap (λ (ps : List Part). ps ++ exactly json.begin_object ∷ (q ++ exactly json.end_object ∷ [])) h)
records_snoc s i (f ∷ es) e p q h k =
    let more = exactly json.begin_object ∷ (q ++ exactly json.end_object ∷ []) in
    (h.0, h.1 ++ more, h.2, records_snoc s i es e h.1 q h.3 k, ap (λ (ps : List Part). ps ++ more) h.4 ∙ ap (λ (ps : List Part). exactly json.begin_object ∷ ps) (append_assoc h.0 (exactly json.end_object ∷ h.1) more))

-- the keyword of a record is an entity
pub known_at : (s : Schema) (rs : List Record) (k : ℕ) (r : Record) → AreKnown s (map plain_record rs) → k < length rs → r ≡ get_or rs k r → IsEntity s r.keyword.now
known_at s [] k r h l e = absurd (omega arith)
known_at s (x ∷ rs) zero r h l e = subst (λ (y : Record). IsEntity s y.keyword.now) (sym e) h.0
known_at s (x ∷ rs) (suc k) r h l e = known_at s rs k r h.1 (omega arith) e

-- and of a complex one
pub behind_complex : (s : Schema) (i : Instance) (c : Bool) (es : List Entry) (parts : List Part) → c ≡ true → IsBehindName s i true es parts → IsBehindName s i c es parts
behind_complex s i true es parts e h = h
behind_complex s i false es parts e h = cc

-- what is found of a schema is so of the same schema under another name
pub attribute_there : (s t : Schema) (c : Bool) (e : EntityId) (p : ℕ) (a : AttrId) → s ≡ t → ((os : List Origin) → AreAttributesOf s c e os → slice_get os p ≡ Some (attribute_at s a)) → (os : List Origin) → AreAttributesOf t c e os → slice_get os p ≡ Some (attribute_at t a)
attribute_there s t c e p a q h = subst (λ (x : Schema). (os : List Origin) → AreAttributesOf x c e os → slice_get os p ≡ Some (attribute_at x a)) q h

-- the records that were written, and one more
pub records_more : (s : Schema) (i : Instance) (rs : List Record) (k : ℕ) (r : Record) (p q : List Part) → k < length rs → r ≡ get_or rs k r → AreRecordsParts s i (map plain_record (take k rs)) p → IsRecordParts s i (plain_record r) q
    → AreRecordsParts s i (map plain_record (take (k + 1) rs)) (p ++ exactly json.begin_object ∷ (q ++ exactly json.end_object ∷ []))
records_more s i rs k r p q l e h g =
    let more : take (k + 1) rs ≡ take k rs ++ r ∷ [] = take_more rs k r l ∙ ap (λ (x : Record). take k rs ++ x ∷ []) (sym e) in
    let entries : map plain_record (take (k + 1) rs) ≡ map plain_record (take k rs) ++ plain_record r ∷ [] = ap (map plain_record) more ∙ map-append plain_record (take k rs) (r ∷ []) in
    subst (λ (es : List Entry). AreRecordsParts s i es (p ++ exactly json.begin_object ∷ (q ++ exactly json.end_object ∷ []))) (sym entries) (records_snoc s i (map plain_record (take k rs)) (plain_record r) p q h g)
