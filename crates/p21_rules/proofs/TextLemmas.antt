-- Texts with the character U+FFFD, and strings of one text.
use Rattle.std.proofs.Common.{◌≡◌, ℕ, ◌+◌, ◌-◌, ◌<◌, Bool, true, false, List, [], ◌∷◌, ◌++◌, Result, Ok, Err, OnOk, length, drop, nat_eq, refl, sym, ap, ◌∙◌, get_or, append_assoc, arith, take}
use Rattle.std.specs.Prelude.{◌||◌}
use Rattle.std.specs.List.{starts_with}
use Rattle.std.proofs.lemmas.List.{drop_more, length-drop, take_all}
use Rattle.p21_json.specs.Characters.{text_of_items}
use Rattle.p21_text.specs.Items.{Item, ItemsOf}
use Rattle.p21_rules.specs.Code.{bytes_code, value_code}
use Rattle.p21_rules.specs.Text.{IsTextValue, characters, has_replacement, replacement, written}
use Rattle.p21_rules.specs.Value.{Value, spelled, text}

or_false : (p q : Bool) → p ≡ false → (p || q) ≡ q
or_false true q e = absurd (cc)
or_false false q e = refl

-- what stands after a place
pub whole_rest : (bs : List ℕ) (k : ℕ) → take (length bs - k) (drop k bs) ≡ drop k bs
whole_rest bs k = take_all (length bs - k) (drop k bs) (let e = length-drop k bs in omega (arith, e))

-- it does not stand at a place
pub passed : (bs : List ℕ) (k : ℕ) → k < length bs → starts_with nat_eq (drop k bs) replacement ≡ false → has_replacement (drop k bs) ≡ has_replacement (drop (k + 1) bs)
passed bs k less other =
    let here : drop k bs ≡ get_or bs k 0 ∷ drop (k + 1) bs = drop_more bs k 0 less in
    ap has_replacement here ∙ or_false (starts_with nat_eq (get_or bs k 0 ∷ drop (k + 1) bs) replacement) (has_replacement (drop (k + 1) bs)) (sym (ap (λ (l : List ℕ). starts_with nat_eq l replacement) here) ∙ other)

-- ---- strings that were added

pub written_pushed : {E : Type 0} (r : Result (Unit {0}) E) (body : List ℕ) (is : List Item) (t old mid new : List ℕ) → ItemsOf body is → t ≡ text_of_items is → has_replacement t ≡ true → mid ≡ old ++ 9 ∷ [] → OnOk r (new ≡ mid ++ bytes_code body) → OnOk r ((v : Value) × IsTextValue body v × (new ≡ old ++ value_code v))
written_pushed (Ok u) body is t old mid new h e has first code = (spelled body, written h (sym (ap has_replacement e) ∙ has), code ∙ ap (λ l. l ++ bytes_code body) first ∙ append_assoc old (9 ∷ []) (bytes_code body))
written_pushed (Err x) body is t old mid new h e has first code = tt

pub characters_pushed : {E : Type 0} (r : Result (Unit {0}) E) (body : List ℕ) (is : List Item) (t u old mid new : List ℕ) → ItemsOf body is → t ≡ text_of_items is → u ≡ text_of_items is → has_replacement t ≡ false → mid ≡ old ++ 2 ∷ [] → OnOk r (new ≡ mid ++ bytes_code u) → OnOk r ((v : Value) × IsTextValue body v × (new ≡ old ++ value_code v))
characters_pushed (Ok x) body is t u old mid new h e f has first code = (text (text_of_items is), characters h (sym (ap has_replacement e) ∙ has), code ∙ ap (λ l. l ++ bytes_code u) first ∙ append_assoc old (2 ∷ []) (bytes_code u) ∙ ap (λ l. old ++ 2 ∷ bytes_code l) f)
characters_pushed (Err x) body is t u old mid new h e f has first code = tt
