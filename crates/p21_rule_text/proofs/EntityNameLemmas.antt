-- The names of the entities of a text, beside those that are declared.
use Rattle.std.proofs.Common.{◌≡◌, ◌<◌, ◌+◌, ℕ, List, [], map, take, length, get_or, sym, ap, subst, ◌∙◌}
use Rattle.std.proofs.lemmas.List.{length-map, take_more_same}
use Rattle.p21_express.specs.Plain.{plain_entity}
use Rattle.p21_express.specs.declared.declarations.EntityDecl.{EntityDecl}
use Rattle.p21_rule_text.specs.Entities.{plain_clauses}
use Rattle.p21_rule_text.specs.Rules.{AreOfEntities}
use Rattle.p21_rule_text.specs.declared.entities.EntityClauses.{EntityClauses}
use Rattle.p21_rule_text.proofs.ResolveLemmas.{map_get}

-- the names of entities of a text, and of declared ones
abbrev pub names_of_clauses : List EntityClauses → List (List ℕ)
names_of_clauses xs = map (λ e. e.name) (map plain_clauses xs)

abbrev pub names_of_declared : List EntityDecl → List (List ℕ)
names_of_declared ys = map (λ d. d.name) (map plain_entity ys)

-- the name at a place
name_in_clauses : (xs : List EntityClauses) (i : ℕ) (x : EntityClauses) → i < length xs → x ≡ get_or xs i x → get_or (names_of_clauses xs) i [] ≡ (plain_clauses x).name
name_in_clauses xs i x less is =
    map_get (λ e. e.name) (map plain_clauses xs) i (plain_clauses x) [] (subst (λ n. i < n) (sym (length-map xs plain_clauses)) less)
    ∙ ap (λ e. e.name) (map_get plain_clauses xs i x (plain_clauses x) less)
    ∙ ap (λ (u : EntityClauses). (plain_clauses u).name) (sym is)

name_in_declared : (ys : List EntityDecl) (i : ℕ) (y : EntityDecl) → i < length ys → y ≡ get_or ys i y → get_or (names_of_declared ys) i [] ≡ (plain_entity y).name
name_in_declared ys i y less is =
    map_get (λ d. d.name) (map plain_entity ys) i (plain_entity y) [] (subst (λ n. i < n) (sym (length-map ys plain_entity)) less)
    ∙ ap (λ d. d.name) (map_get plain_entity ys i y (plain_entity y) less)
    ∙ ap (λ (u : EntityDecl). (plain_entity u).name) (sym is)

-- where one name is another, the entities are others
pub differ : (xs : List EntityClauses) (ys : List EntityDecl) (i : ℕ) (x : EntityClauses) (y : EntityDecl) → i < length xs → i < length ys → x ≡ get_or xs i x → y ≡ get_or ys i y → ¬ ((plain_clauses x).name ≡ (plain_entity y).name) → ¬ (AreOfEntities (map plain_entity ys) (map plain_clauses xs))
differ xs ys i x y below there is declared other same = other (sym (name_in_clauses xs i x below is) ∙ ap (λ ns. get_or ns i []) same ∙ name_in_declared ys i y there declared)

-- where the next names are the same, so are those up to them
pub same_further : (xs : List EntityClauses) (ys : List EntityDecl) (i : ℕ) (x : EntityClauses) (y : EntityDecl) → i < length xs → i < length ys → x ≡ get_or xs i x → y ≡ get_or ys i y → (plain_clauses x).name ≡ (plain_entity y).name → take i (names_of_clauses xs) ≡ take i (names_of_declared ys) → take (i + 1) (names_of_clauses xs) ≡ take (i + 1) (names_of_declared ys)
same_further xs ys i x y below there is declared same before =
    let as_many = length-map (map plain_clauses xs) (λ e. e.name) ∙ length-map xs plain_clauses in
    let as_many_declared = length-map (map plain_entity ys) (λ d. d.name) ∙ length-map ys plain_entity in
    take_more_same (names_of_clauses xs) (names_of_declared ys) i [] (subst (λ n. i < n) (sym as_many) below) (subst (λ n. i < n) (sym as_many_declared) there) before (name_in_clauses xs i x below is ∙ same ∙ sym (name_in_declared ys i y there declared))
