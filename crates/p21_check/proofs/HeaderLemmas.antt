-- The name of a schema in the items of a string.
use Rattle.std.proofs.Common.{◌≡◌, ◌≢◌, ℕ, ◌⊎◌, ⊎_elim, inl, inr, Bool, true, false, List, [], ◌∷◌, ◌++◌, map, refl, sym, ap, ◌∙◌, arith, MatchBool}
use Rattle.std.specs.Prelude.{All, ◌==◌, ◌<◌, length}
use Rattle.std.proofs.lemmas.Bool.{false≢true, and_parts}
use Rattle.std.proofs.lemmas.Bool.Decides.{nat_tests}
use Rattle.std.proofs.lemmas.List.Elements.{All-nil, All-cons, All-head, All-tail}
use Rattle.std.specs.Char.{to_ascii_uppercase}
use Rattle.p21_text.specs.Items.{Item, scalar, page}
use Rattle.p21_check.specs.Header.{NameSchema, IsNameEnd, BeginsWithEnd, in_upper_case}
use Rattle.p21_check.specs.SchemaName.{ends_name, stands_for, spelled}

-- the items before the first that ends a name are these characters, of which there may be none
pub record Writes (found : List Item) (name : List ℕ) : Type 0 where
  pub front : List Item
  pub rest : List Item
  pub parts : found ≡ front ++ rest
  pub before : All (λ x. ¬ (IsNameEnd x)) front
  pub behind : BeginsWithEnd rest
  pub same : map in_upper_case front ≡ map scalar name

ends_means : (x : Item) → ends_name x ≡ true → IsNameEnd x
ends_means (scalar c) h =
    let either : (c ≡ 32) ⊎ (c ≡ 123) = grind (arith, nat_tests, h) in
    ⊎_elim (λ (e : c ≡ 32). inl (ap scalar e)) (λ (e : c ≡ 123). inr (ap scalar e)) either
ends_means (page letter n) h = absurd (false≢true h)

ends_found : (x : Item) → IsNameEnd x → ends_name x ≡ true
ends_found (scalar c) h =
    let either : (c ≡ 32) ⊎ (c ≡ 123) = ⊎_elim (λ (e : scalar c ≡ scalar 32). inl cc) (λ (e : scalar c ≡ scalar 123). inr cc) h in
    grind (arith, nat_tests, either)
ends_found (page letter n) h = absurd (⊎_elim (λ (e : page letter n ≡ scalar 32). cc) (λ (e : page letter n ≡ scalar 123). cc) h)

stands_means : (x : Item) (b : ℕ) → stands_for x b ≡ true → (¬ (IsNameEnd x)) × (in_upper_case x ≡ scalar b)
stands_means (scalar c) b h =
    let other : ¬ ((c ≡ 32) ⊎ (c ≡ 123)) = grind (arith, nat_tests, h) in
    let same : to_ascii_uppercase c ≡ b = grind (arith, nat_tests, h) in
    (λ end. other (⊎_elim (λ (e : scalar c ≡ scalar 32). inl cc) (λ (e : scalar c ≡ scalar 123). inr cc) end), ap scalar same)
stands_means (page letter n) b h = absurd (false≢true h)

stands_found : (x : Item) (b : ℕ) → ¬ (IsNameEnd x) → in_upper_case x ≡ scalar b → stands_for x b ≡ true
stands_found (scalar c) b other same =
    let space : c ≢ 32 = λ e. other (inl (ap scalar e)) in
    let brace : c ≢ 123 = λ e. other (inr (ap scalar e)) in
    let equal : to_ascii_uppercase c ≡ b = cc in
    grind (arith, nat_tests, space, brace, equal)
stands_found (page letter n) b other same = cc

sound : (xs : List Item) (bs : List ℕ) → spelled xs bs ≡ true → Writes xs bs
sound [] [] h = record { front = []; rest = []; parts = refl; before = All-nil (λ x. ¬ (IsNameEnd x)); behind = tt; same = refl }
sound (x ∷ xs) [] h = record { front = []; rest = x ∷ xs; parts = refl; before = All-nil (λ y. ¬ (IsNameEnd y)); behind = ends_means x h; same = refl }
sound [] (b ∷ bs) h = absurd (false≢true h)
sound (x ∷ xs) (b ∷ bs) h =
    let parts = and_parts (stands_for x b) (spelled xs bs) h in
    let here = stands_means x b parts.0 in
    let there = sound xs bs parts.1 in
    record {
      front = x ∷ there.front;
      rest = there.rest;
      parts = ap (λ ys. x ∷ ys) there.parts;
      before = All-cons (λ y. ¬ (IsNameEnd y)) x there.front here.0 there.before;
      behind = there.behind;
      same = let e = here.1 in let f = there.same in cc;
    }

complete : (front rest : List Item) (name : List ℕ) → All (λ x. ¬ (IsNameEnd x)) front → BeginsWithEnd rest → map in_upper_case front ≡ map scalar name → spelled (front ++ rest) name ≡ true
complete [] [] [] before behind same = refl
complete [] (x ∷ xs) [] before behind same = ends_found x behind
complete [] rest (b ∷ bs) before behind same = cc
complete (x ∷ front) rest [] before behind same = cc
complete (x ∷ front) rest (b ∷ bs) before behind same =
    let first : in_upper_case x ≡ scalar b = cc in
    let others : map in_upper_case front ≡ map scalar bs = cc in
    let here : stands_for x b ≡ true = stands_found x b (All-head (λ y. ¬ (IsNameEnd y)) x front before) first in
    let there : spelled (front ++ rest) bs ≡ true = complete front rest bs (All-tail (λ y. ¬ (IsNameEnd y)) x front before) behind others in
    rw (here, there) refl

-- a name of no characters
unnamed : (name : List ℕ) → map in_upper_case [] ≡ map scalar name → name ≡ []
unnamed [] e = refl
unnamed (b ∷ bs) e = cc

unwritten : (front : List Item) → map in_upper_case front ≡ map scalar [] → front ≡ []
unwritten [] e = refl
unwritten (x ∷ front) e = cc

-- what was found of the characters says whether the items name the schema
pub decided : (b : Bool) (found : List Item) (name : List ℕ) → name ≢ [] → b ≡ spelled found name → MatchBool b (NameSchema found name) (¬ (NameSchema found name))
decided true found name some e =
    let w = sound found name (sym e) in
    record { front = w.front; rest = w.rest; parts = w.parts; before = w.before; behind = w.behind; some = λ e. some (unnamed name (ap (map in_upper_case) (sym e) ∙ w.same)); same = w.same }
decided false found name some e = λ n. false≢true (e ∙ (ap (λ xs. spelled xs name) n.parts ∙ complete n.front n.rest name n.before n.behind n.same))

pub empty : (xs : List ℕ) → (length xs == 0) ≡ true → xs ≡ []
empty [] h = refl
empty (x ∷ xs) h = absurd (let some : 0 < length (x ∷ xs) = omega arith in grind (arith, nat_tests, h, some))

-- no items write an empty name
pub nameless : (found : List Item) → ¬ (NameSchema found [])
nameless found n = n.some (unwritten n.front n.same)
