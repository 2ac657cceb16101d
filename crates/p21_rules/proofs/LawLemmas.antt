-- Strings of one text are one value.
use Rattle.std.proofs.Common.{◌≡◌, ℕ, true, false, List, sym, ap, subst, ◌∙◌}
use Rattle.p21_express.specs.Schema.{Expr, Schema}
use Rattle.p21_json.specs.Characters.{text_of_items}
use Rattle.p21_text.specs.Items.{Item, ItemsOf}
use Rattle.p21_tree.specs.Tree.{str}
use Rattle.p21_rules.specs.Means.{Means}
use Rattle.p21_rules.specs.Means as means
use Rattle.p21_rules.specs.Text.{IsTextValue, characters, has_replacement, written}
use Rattle.p21_rules.specs.Value.{Value, spelled, text}
use Rattle.p21_rules.proofs.ValueLemmas.{OneItems}

string_of : (s : Schema) (x : Expr) (b : List ℕ) (v : Value) → Means s x (str b) v → IsTextValue b v
string_of s x b v (means.text h) = h

-- the value of a string that has this text
text_value : OneItems → (b : List ℕ) (is : List Item) (v : Value) → ItemsOf b is → has_replacement (text_of_items is) ≡ false → IsTextValue b v → v ≡ text (text_of_items is)
text_value one b is _ h clean (characters {is = ks} k f) = ap (λ (l : List Item). text (text_of_items l)) (one b ks is k h)
text_value one b is _ h clean (written {is = ks} k f) =
    let both : false ≡ true = sym clean ∙ ap (λ (l : List Item). has_replacement (text_of_items l)) (one b is ks h k) ∙ f in absurd (cc)

pub same_value : OneItems → (s : Schema) (x y : Expr) (b c : List ℕ) (is js : List Item) (v : Value) → ItemsOf b is → ItemsOf c js → has_replacement (text_of_items is) ≡ false → text_of_items is ≡ text_of_items js → Means s x (str b) v → Means s y (str c) v
same_value one s x y b c is js v h k clean same m =
    let this = text_value one b is v h clean (string_of s x b v m) ∙ ap text same in
    let other = characters k (subst (λ (l : List ℕ). has_replacement l ≡ false) same clean) in
    subst (Means s y (str c)) (sym this) (means.text other)

not_written : (b : List ℕ) (t : List ℕ) → text t ≡ spelled b → ⊥
not_written b t e = cc

text_of_value : OneItems → (c : List ℕ) (js : List Item) (v : Value) (t : List ℕ) → ItemsOf c js → v ≡ text t → IsTextValue c v → t ≡ text_of_items js
text_of_value one c js _ t k e (characters {is = ks} h f) =
    let same : t ≡ text_of_items ks = cc in
    same ∙ ap text_of_items (one c ks js h k)
text_of_value one c js _ t k e (written h f) = absurd (not_written c t (sym e))

pub same_text : OneItems → (s : Schema) (x y : Expr) (b c : List ℕ) (is js : List Item) (v : Value) → ItemsOf b is → ItemsOf c js → has_replacement (text_of_items is) ≡ false → Means s x (str b) v → Means s y (str c) v → text_of_items is ≡ text_of_items js
same_text one s x y b c is js v h k clean m n = text_of_value one c js v (text_of_items is) k (text_value one b is v h clean (string_of s x b v m)) (string_of s y c v n)
