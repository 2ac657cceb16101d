-- Attributes, as their loops read them.
use Rattle.std.proofs.Common.{◌≡◌, ℕ, ◌+◌, ◌<◌, Bool, true, false, List, [], ◌∷◌, ◌++◌, length, take, get_or, map, Some, None, refl, sym, ap, ◌∙◌, append_assoc}
use Rattle.std.proofs.lemmas.List.{map_push, map_more, append-nil}
use Rattle.std.specs.Prelude.{codes}
use Rattle.p21_express.specs.declared.names.AttrName as source
use Rattle.p21_express.specs.declared.declarations.AttrDecl.{AttrDecl}
use Rattle.p21_express.specs.Word.{Word}
use Rattle.p21_express.specs.Schema.{Attribute, Derived, Expr}
use Rattle.p21_express.specs.Grammar.{Naming, attribute_of, attributes_of, joined, begins_rules, ends_attributes}
use Rattle.p21_express.specs.Naming.{plain_naming, plain_namings}
use Rattle.p21_express.specs.Plain.{plain_attribute}
use Rattle.p21_express.specs.Reader.{word_at, symbol_at, attributes_at, all_attributes_at, derived_at, all_derived_at}
use Rattle.p21_express.proofs.LoopLemmas.{Going, goes_on, is_done, fails}
use Rattle.p21_express.proofs.DeclarationLemmas.{attributes_sound, attributes_shorter, derived_sound, derived_shorter}

attributes_push : (xs : List Naming) (x : Naming) (optional : Bool) (e : Expr) → attributes_of (xs ++ x ∷ []) optional e ≡ attributes_of xs optional e ++ attribute_of optional e x ∷ []
attributes_push [] x optional e = refl
attributes_push (y ∷ xs) x optional e = ap (λ (zs : List Attribute). attribute_of optional e y ∷ zs) (attributes_push xs x optional e)

pub declared_more : (optional : Bool) (e : Expr) (list : List AttrDecl) (new : AttrDecl) (xs : List source.AttrName) (i : ℕ) (x : source.AttrName) → i < length xs → map plain_attribute list ≡ attributes_of (plain_namings (take i xs)) optional e → plain_attribute new ≡ attribute_of optional e (plain_naming (get_or xs i x)) → map plain_attribute (list ++ new ∷ []) ≡ attributes_of (plain_namings (take (i + 1) xs)) optional e
declared_more optional e list new xs i x lt so_far one =
    let left : map plain_attribute (list ++ new ∷ []) ≡ attributes_of (plain_namings (take i xs)) optional e ++ attribute_of optional e (plain_naming (get_or xs i x)) ∷ [] = rw (map_push plain_attribute list new, so_far, one) refl in
    left ∙ sym (ap (λ (ys : List Naming). attributes_of ys optional e) (map_more plain_naming xs i x lt) ∙ attributes_push (plain_namings (take i xs)) (plain_naming (get_or xs i x)) optional e)

pub attributes_less : (ws mid : List Word) (xs : List Attribute) → attributes_at ws ≡ Some (xs, mid) → length mid < length ws
attributes_less ws mid xs h = attributes_shorter ws mid xs (attributes_sound ws (xs, mid) h)

pub derived_less : (ws mid : List Word) (d : Derived) → derived_at ws ≡ Some (d, mid) → length mid < length ws
derived_less ws mid d h = derived_shorter ws mid d (derived_sound ws (d, mid) h)

-- groups of attributes were read, which the list holds one after the other
pub record GoingJoined (whole rest : List Word) (found : List Attribute) : Type 0 where
  pub so_far : List (List Attribute)
  pub found_is : found ≡ joined so_far
  pub going : Going ends_attributes attributes_at whole rest so_far

joined_push : (xss : List (List Attribute)) (xs : List Attribute) → joined (xss ++ xs ∷ []) ≡ joined xss ++ xs
joined_push [] xs = append-nil xs
joined_push (ys ∷ xss) xs = ap (λ (zs : List Attribute). ys ++ zs) (joined_push xss xs) ∙ sym (append_assoc ys (joined xss) xs)

pub joined_more : (whole rest mid : List Word) (found xs : List Attribute) → GoingJoined whole rest found → ends_attributes rest ≡ false → attributes_at rest ≡ Some (xs, mid) → GoingJoined whole mid (found ++ xs)
joined_more whole rest mid found xs g go read = record {
  so_far = g.so_far ++ xs ∷ [];
  found_is = ap (λ (zs : List Attribute). zs ++ xs) g.found_is ∙ sym (joined_push g.so_far xs);
  going = goes_on ends_attributes attributes_at whole rest mid g.so_far xs g.going (attributes_less rest mid xs read) go read;
}

pub joined_done : (ws whole rest : List Word) (found : List Attribute) → symbol_at 59 ws ≡ Some whole → GoingJoined whole rest found → ends_attributes rest ≡ true → all_attributes_at ws ≡ Some (found, rest)
unfolding all_attributes_at
joined_done ws whole rest found h g go = rw (h, is_done ends_attributes attributes_at whole rest g.so_far g.going go, g.found_is) refl

pub joined_fails : (ws whole rest : List Word) (found : List Attribute) → symbol_at 59 ws ≡ Some whole → GoingJoined whole rest found → ends_attributes rest ≡ false → attributes_at rest ≡ None → all_attributes_at ws ≡ None
unfolding all_attributes_at
joined_fails ws whole rest found h g go read = rw (h, fails ends_attributes attributes_at whole rest g.so_far g.going go read) refl

pub joined_none : (ws : List Word) → symbol_at 59 ws ≡ None → all_attributes_at ws ≡ None
unfolding all_attributes_at
joined_none ws h = rw h refl

pub derived_done : (ws whole rest : List Word) (found : List Derived) → word_at (codes "DERIVE") ws ≡ Some whole → Going begins_rules derived_at whole rest found → begins_rules rest ≡ true → all_derived_at ws ≡ Some (found, rest)
unfolding all_derived_at
derived_done ws whole rest found h g go = rw (h, is_done begins_rules derived_at whole rest found g go) refl

pub derived_fails : (ws whole rest : List Word) (found : List Derived) → word_at (codes "DERIVE") ws ≡ Some whole → Going begins_rules derived_at whole rest found → begins_rules rest ≡ false → derived_at rest ≡ None → all_derived_at ws ≡ None
unfolding all_derived_at
derived_fails ws whole rest found h g go read = rw (h, fails begins_rules derived_at whole rest found g go read) refl

pub derived_none : (ws : List Word) → word_at (codes "DERIVE") ws ≡ None → all_derived_at ws ≡ None
unfolding all_derived_at
derived_none ws h = rw h refl
