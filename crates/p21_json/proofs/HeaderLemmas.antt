-- The parts of a header in steps.
use Rattle.std.proofs.Common.{◌≡◌, ◌+◌, ◌<◌, ◌≤◌, ℕ, zero, suc, List, [], ◌∷◌, ◌++◌, Bor, Result, OnOk, codes, map, min, length, drop, get_or, refl, sym, ap, subst, ◌∙◌, arith}
use Rattle.std.proofs.lemmas.List.{append_assoc, drop_more}
use Rattle.json.specs.Token as json
use Rattle.json.specs.Written.{Written}
use Rattle.p21_express.specs.Schema.{Schema}
use Rattle.p21_tree.specs.Grammar.{Entry}
use Rattle.p21_tree.specs.declared.headers.HeaderEntity.{HeaderEntity}
use Rattle.p21_tree.specs.Views.{plain_entity}
use Rattle.p21_tree.specs.declared.params.Param.{Param}
use Rattle.p21_tree.specs.Tree.{nil}
use Rattle.p21_tree.specs.Plain.{plain, plain_all}
use Rattle.p21_json.specs.Where.{header}
use Rattle.p21_json.specs.Parts.{Part, exactly, label, value_parts}
use Rattle.p21_json.specs.Header.{description_keys, entity_parts, header_parts, labelled_parts, name_keys, schema_keys}
use Rattle.p21_json.specs.Written.{Adds}

abbrev pub words : List (Bor (List ℕ)) → List (List ℕ)
words ks = map (λ k. k.now) ks

-- the values from a place on are the one there and those after it
pub labelled_step : (ks : List (Bor (List ℕ))) (ps : List Param) (p : ℕ) (d : Bor (List ℕ)) (x : Param) → p < length ks → p < length ps → x ≡ get_or ps p x
    → labelled_parts (words (drop p ks)) (plain_all (drop p ps)) ≡ (label (get_or ks p d).now ∷ value_parts header (plain x)) ++ labelled_parts (words (drop (p + 1) ks)) (plain_all (drop (p + 1) ps))
labelled_step ks ps p d x h l f =
    let there : drop p ps ≡ x ∷ drop (p + 1) ps = drop_more ps p x l ∙ ap (λ (q : Param). q ∷ drop (p + 1) ps) (sym f) in
    ap (λ l. labelled_parts (words l) (plain_all (drop p ps))) (drop_more ks p d h) ∙ ap (λ l. labelled_parts (words (get_or ks p d ∷ drop (p + 1) ks)) (plain_all l)) there

labelled_nil : (ks : List (List ℕ)) → labelled_parts ks nil ≡ []
labelled_nil [] = refl
labelled_nil (k ∷ ks) = refl

-- there are none where keys or values end
pub labelled_end : (ks : List (Bor (List ℕ))) (ps : List Param) (p : ℕ) → min (length ks) (length ps) ≤ p → labelled_parts (words (drop p ks)) (plain_all (drop p ps)) ≡ []
labelled_end [] ps zero h = refl
labelled_end [] ps (suc p) h = refl
labelled_end (k ∷ ks) [] zero h = refl
labelled_end (k ∷ ks) [] (suc p) h = labelled_nil (words (drop p ks))
labelled_end (k ∷ ks) (x ∷ ps) zero h = absurd (omega arith)
labelled_end (k ∷ ks) (x ∷ ps) (suc p) h = labelled_end ks ps p (omega arith)

abbrev ends : List Part
ends = exactly json.end_object ∷ []

-- the two braces that close a header, one by one
pub header_ends : (s : Schema) (a b : Written) {E : Type 0} (r : Result (Unit {0}) E) (d n f : Entry)
    → OnOk r (Adds s a b ((exactly json.begin_object ∷ label (codes "header") ∷ exactly json.begin_object ∷ (entity_parts (codes "file_description") description_keys d ++ (entity_parts (codes "file_name") name_keys n ++ (entity_parts (codes "file_schema") schema_keys f ++ ends)))) ++ ends))
    → OnOk r (Adds s a b (header_parts d n f))
header_ends s a b r d n f h =
    let x = entity_parts (codes "file_description") description_keys d in
    let y = entity_parts (codes "file_name") name_keys n in
    let z = entity_parts (codes "file_schema") schema_keys f in
    let same : (x ++ (y ++ (z ++ ends))) ++ ends ≡ x ++ (y ++ (z ++ exactly json.end_object ∷ exactly json.end_object ∷ [])) =
    append_assoc x (y ++ (z ++ ends)) ends ∙ ap (λ (l : List Part). x ++ l) (append_assoc y (z ++ ends) ends ∙ ap (λ (l : List Part). y ++ l) (append_assoc z ends ends)) in
    subst (λ (l : List Part). OnOk r (Adds s a b (exactly json.begin_object ∷ label (codes "header") ∷ exactly json.begin_object ∷ l))) same h

-- three entities at the front
pub first_three : (es : List HeaderEntity) (d n f : HeaderEntity) → 3 ≤ length es → d ≡ get_or es 0 d → n ≡ get_or es 1 n → f ≡ get_or es 2 f → (others : List Entry) × (map plain_entity es ≡ plain_entity d ∷ plain_entity n ∷ plain_entity f ∷ others)
first_three [] d n f h p q r = absurd (omega arith)
first_three (x ∷ []) d n f h p q r = absurd (omega arith)
first_three (x ∷ y ∷ []) d n f h p q r = absurd (omega arith)
first_three (x ∷ y ∷ z ∷ es) d n f h p q r = (map plain_entity es, cc (p, q, r))
