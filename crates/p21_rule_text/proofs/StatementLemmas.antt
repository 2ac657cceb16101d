-- Statements of clauses, one after the other.
use Rattle.std.proofs.Common.{◌≡◌, ◌<◌, ℕ, suc, ◌+◌, List, [], ◌∷◌, ◌++◌, map, length, take, drop, get_or, refl, ap, sym, ◌∙◌, append_assoc, arith}
use Rattle.std.specs.List.{AllZip}
use Rattle.std.proofs.lemmas.List.{drop_more, map-append, take_more}
use Rattle.std.proofs.lemmas.List.{take-append-drop}
use Rattle.p21_express.specs.Schema.{Schema}
use Rattle.p21_rule_text.specs.Clauses.{UniqueClause}
use Rattle.p21_rule_text.specs.Entities.{EntityClauses}
use Rattle.p21_rule_text.specs.Rules.{AreListed, AreStated}
use Rattle.p21_rule_text.specs.Statements.{Clause, States, numbered, unique}
use Rattle.p21_rule_text.specs.declared.rules.Rules.{Rules}
use Rattle.p21_rule_text.specs.declared.statements.Statement.{Statement}

pub zip_push : {A B : Type 0} (R : A → B → Type 0) (xs : List A) (ys : List B) (x : A) (y : B) → AllZip R xs ys → R x y → AllZip R (xs ++ x ∷ []) (ys ++ y ∷ [])
zip_push R [] [] x y all r = (r, tt)
zip_push R [] (v ∷ ys) x y all r = absurd all
zip_push R (u ∷ xs) [] x y all r = absurd all
zip_push R (u ∷ xs) (v ∷ ys) x y all r = (all.0, zip_push R xs ys x y all.1 r)

-- one clause more
pub stated_push : (s : Schema) (es : List EntityClauses) (cs : List Clause) (old new : Rules) (c : Clause) (t : Statement) → AreStated s es cs old → States s es c t → ((ss : List Statement) → AreListed ss old → AreListed (ss ++ t ∷ []) new) → AreStated s es (cs ++ c ∷ []) new
stated_push s es cs old new c t are states pushed = record { statements = are.statements ++ t ∷ []; states = zip_push (States s es) cs are.statements c t are.states states; listed = pushed are.statements are.listed }

-- one rule UNIQUE more
pub numbered_push : (e : List ℕ) (n : ℕ) (cs : List UniqueClause) (c : UniqueClause) → numbered e n (cs ++ c ∷ []) ≡ numbered e n cs ++ unique e (n + length cs) c ∷ []
numbered_push e n [] c = let k : n + 0 ≡ n = omega arith in rw k refl
numbered_push e n (d ∷ cs) c = let k : suc n + length cs ≡ n + suc (length cs) = omega arith in ap (λ (zs : List Clause). unique e n d ∷ zs) (numbered_push e (suc n) cs c ∙ ap (λ (m : ℕ). numbered e (suc n) cs ++ unique e m c ∷ []) k)

-- the first k + 1 items
pub map_more : {A B : Type 0} (f : A → B) (xs : List A) (k : ℕ) (d : A) → k < length xs → map f (take (k + 1) xs) ≡ map f (take k xs) ++ f (get_or xs k d) ∷ []
map_more f xs k d l = ap (map f) (take_more xs k d l) ∙ map-append f (take k xs) (get_or xs k d ∷ [])

-- the items before one, that one, and those after it
pub map_at : {A B : Type 0} (f : A → B) (xs : List A) (k : ℕ) (d : A) → k < length xs → map f xs ≡ map f (take k xs) ++ f (get_or xs k d) ∷ map f (drop (k + 1) xs)
map_at f xs k d l = ap (map f) (sym (take-append-drop k xs)) ∙ (map-append f (take k xs) (drop k xs) ∙ ap (λ zs. map f (take k xs) ++ map f zs) (drop_more xs k d l))

-- what was made of the first k items after others, and of one more
pub grown : {A B C : Type 0} (f : A → B) (g : B → C) (cs : List C) (xs : List A) (k : ℕ) (d : A) → k < length xs → (cs ++ map g (map f (take k xs))) ++ g (f (get_or xs k d)) ∷ [] ≡ cs ++ map g (map f (take (k + 1) xs))
grown f g cs xs k d l = append_assoc cs (map g (map f (take k xs))) (g (f (get_or xs k d)) ∷ []) ∙ ap (λ zs. cs ++ zs) (sym (ap (map g) (map_more f xs k d l) ∙ map-append g (map f (take k xs)) (f (get_or xs k d) ∷ [])))
