-- The first three header entities, and the parameters of the third.
use Rattle.std.proofs.Common.{◌≡◌, ◌≢◌, ℕ, ◌≤◌, List, [], ◌∷◌, length, get_or, drop, refl, sym, ap, subst, ◌∙◌, arith, map, Vec, Bor, Global}
use Rattle.std.proofs.lemmas.List.Elements.{All-head}
use Rattle.p21_text.specs.Items.{IsBody}
use Rattle.std.specs.Prelude.{codes}
use Rattle.p21_tree.specs.declared.headers.HeaderEntity.{HeaderEntity}
use Rattle.p21_tree.specs.Views.{plain_entity}
use Rattle.p21_tree.specs.declared.params.Param.{Param, Param-F, out-Param, roll-Param, fold-roll-Param, roll-out-Param}
use Rattle.p21_tree.specs.declared.params.Param.TheVariants.{Str, rolls-Str}
use Rattle.p21_tree.specs.declared.params.Param.TheOpen as level
use Rattle.p21_tree.specs.declared.params.Param.TheViews.{Items, rolls-Items}
use Rattle.p21_tree.specs.Bodies.{HasBodies, AllHaveBodies}
use Rattle.p21_tree.specs.Grammar.{Entry}
use Rattle.p21_tree.specs.Plain.{plain, plain_all, plain_level}
use Rattle.p21_tree.specs.Sentence.{Opening}
use Rattle.p21_tree.specs.Tree.{Tree, Trees, nil, cons}
use Rattle.p21_tree.specs.Tree as tree
use Rattle.p21_check.specs.Header.{BeginsWith, entity, only}

third_params : List Entry → Trees
third_params (a ∷ b ∷ d ∷ rest) = d.params
third_params other = nil

pub same_params : (o : Opening) (p q : Trees) → BeginsWith o p → BeginsWith o q → p ≡ q
unfolding third_params
same_params o p q a b = ap third_params (sym a.entities ∙ b.entities)

first_of_all : Trees → Tree
first_of_all nil = tree.absent
first_of_all (cons t ts) = t

-- there is one
pub one_param : (p : Param) (ps : List Param) (t : Tree) → ps ≡ p ∷ [] → plain_all ps ≡ only t → plain p ≡ t
unfolding first_of_all
one_param p ps t e f = ap first_of_all (sym (ap plain_all e) ∙ f)

pub not_one : (ps : List Param) (t : Tree) → length ps ≢ 1 → plain_all ps ≡ only t → ⊥
not_one [] t h e = cc
not_one (p ∷ []) t h e = h refl
not_one (p ∷ q ∷ ps) t h e = cc

pub plain_items : (v : Vec Param Global) → plain (Items v) ≡ tree.items (plain_all v.items)
plain_items v = ap plain (sym (rolls-Items v)) ∙ fold-roll-Param Tree plain_level (level.Items v)

rolled_items : (l : Param-F Param) (ts : Trees) → plain (roll-Param l) ≡ tree.items ts → (v : Vec Param Global) × (roll-Param l ≡ Items v)
rolled_items (level.Items v) ts e = (v, rolls-Items v)
rolled_items other ts e = absurd (let f = sym (fold-roll-Param Tree plain_level other) ∙ e in cc)

-- what is plainly a list is one
pub items_param : (p : Param) (ts : Trees) → plain p ≡ tree.items ts → (v : Vec Param Global) × (p ≡ Items v)
items_param p ts e =
    let found = rolled_items (out-Param p) ts (ap plain (roll-out-Param p) ∙ e) in
    (found.0, sym (roll-out-Param p) ∙ found.1)

of_items : Tree → Trees
of_items (tree.items ts) = ts
of_items other = nil

-- the strings of the list
pub strings : (ps : List Param) (p : Param) (v : Vec Param Global) (body : List ℕ) → ps ≡ p ∷ [] → p ≡ Items v → plain_all ps ≡ only (tree.items (only (tree.str body))) → plain_all v.items ≡ only (tree.str body)
unfolding of_items
strings ps p v body e f same =
    let one : plain p ≡ tree.items (only (tree.str body)) = one_param p ps (tree.items (only (tree.str body))) e same in
    ap of_items (sym (plain_items v) ∙ ap plain (sym f) ∙ one)

plain_str : (x : Bor (List ℕ)) → plain (Str x) ≡ tree.str x.now
plain_str x = ap plain (sym (rolls-Str x)) ∙ fold-roll-Param Tree plain_level (level.Str x)

rolled_str : (l : Param-F Param) (s : List ℕ) → plain (roll-Param l) ≡ tree.str s → (x : Bor (List ℕ)) × (roll-Param l ≡ Str x)
rolled_str (level.Str x) s e = (x, rolls-Str x)
rolled_str other s e = absurd (let f = sym (fold-roll-Param Tree plain_level other) ∙ e in cc)

-- what is plainly a string is one
pub str_param : (p : Param) (s : List ℕ) → plain p ≡ tree.str s → (x : Bor (List ℕ)) × (p ≡ Str x)
str_param p s e =
    let found = rolled_str (out-Param p) s (ap plain (roll-out-Param p) ∙ e) in
    (found.0, sym (roll-out-Param p) ∙ found.1)

-- a list of one string
pub one_string : (ps : List Param) (p q : Param) (v : Vec Param Global) (x : Bor (List ℕ)) → ps ≡ p ∷ [] → p ≡ Items v → v.items ≡ q ∷ [] → q ≡ Str x → plain_all ps ≡ only (tree.items (only (tree.str x.now)))
one_string ps p q v x e f g h =
    let inner : plain_all v.items ≡ only (tree.str x.now) = ap plain_all g ∙ ap (λ z. only (plain z)) h ∙ ap only (plain_str x) in
    ap plain_all e ∙ ap only (ap plain f ∙ plain_items v ∙ ap tree.items inner)

-- its body
pub string_body : (ps : List Param) (p : Param) (s : List ℕ) → AllHaveBodies ps → ps ≡ p ∷ [] → plain_all ps ≡ only (tree.items (only (tree.str s))) → IsBody s
string_body ps p s all e f =
    let has : HasBodies (plain p) = All-head (λ z. HasBodies (plain z)) p [] (subst AllHaveBodies e all) in
    let listed : HasBodies (tree.items (only (tree.str s))) = subst HasBodies (one_param p ps (tree.items (only (tree.str s))) e f) has in
    listed.0

module _ {A : Type 0} where
  -- a list of three or more
  pub first_three : (xs : List A) (a b d : A) → 3 ≤ length xs → a ≡ get_or xs 0 a → b ≡ get_or xs 1 b → d ≡ get_or xs 2 d → xs ≡ a ∷ b ∷ d ∷ drop 3 xs
  first_three [] a b d h e f g = absurd (omega arith)
  first_three (x ∷ []) a b d h e f g = absurd (omega arith)
  first_three (x ∷ y ∷ []) a b d h e f g = absurd (omega arith)
  first_three (x ∷ y ∷ z ∷ xs) a b d h e f g = cc

-- the first three header entities are those that must be there
pub begins : (o : Opening) (es : List HeaderEntity) (a b d : HeaderEntity) (rest : List HeaderEntity) → o.entities ≡ map plain_entity es → es ≡ a ∷ b ∷ d ∷ rest → a.keyword.now ≡ codes "FILE_DESCRIPTION" → b.keyword.now ≡ codes "FILE_NAME" → d.keyword.now ≡ codes "FILE_SCHEMA" → BeginsWith o (plain_all d.params)
begins o es a b d rest e f first second third =
    let x : plain_entity a ≡ entity (codes "FILE_DESCRIPTION") (plain_all a.params) = ap (λ k. entity k (plain_all a.params)) first in
    let y : plain_entity b ≡ entity (codes "FILE_NAME") (plain_all b.params) = ap (λ k. entity k (plain_all b.params)) second in
    let z : plain_entity d ≡ entity (codes "FILE_SCHEMA") (plain_all d.params) = ap (λ k. entity k (plain_all d.params)) third in
    record {
      description = plain_all a.params;
      name = plain_all b.params;
      others = map plain_entity rest;
      entities = e ∙ ap (map plain_entity) f ∙ cc;
    }
