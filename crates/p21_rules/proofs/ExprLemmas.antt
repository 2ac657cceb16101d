-- A type of the table by its names.
use Rattle.std.proofs.Common.{◌≡◌, ℕ, Bool, List, Option, Some, None, map, refl, sym, ap, subst, ◌∙◌, Box, Global}
use Rattle.std.specs.Prelude.{option_map}
use Rattle.p21_express.specs.declared.declarations.Bounds.{Bounds}
use Rattle.p21_express.specs.Schema.{Schema, Expr, Aggregate, named, aggregate, array, list, set, bag}
use Rattle.p21_express.specs.Schema as type
use Rattle.p21_schema.specs.declared.resolved.Target.{Target}
use Rattle.p21_schema.specs.declared.resolved.ResolvedExpr.{ResolvedExpr, ResolvedExpr-F, out-ResolvedExpr, roll-ResolvedExpr, roll-out-ResolvedExpr, fold-roll-ResolvedExpr}
use Rattle.p21_schema.specs.declared.resolved.ResolvedExpr.TheOpen as level
use Rattle.p21_schema.specs.declared.resolved.ResolvedExpr.TheVariants.{Named, rolls-Named}
use Rattle.p21_schema.specs.declared.resolved.ResolvedExpr.TheViews as seen
use Rattle.p21_schema.specs.Resolved.{target_name, resolved_level}
use Rattle.p21_check.specs.Wanted.{by_names}

names_step : Schema → ResolvedExpr-F (Option Expr) → Option Expr
names_step s = resolved_level (map (λ e. e.name) s.entities) (map (λ t. t.name) s.types)

pub array_names : (s : Schema) (b : Bounds) (o : Bool) (e : Box ResolvedExpr Global) → by_names s (seen.Array b o e) ≡ option_map (aggregate (array b o)) (by_names s e.value)
unfolding names_step
array_names s b o e = ap (by_names s) (sym (seen.rolls-Array b o e)) ∙ fold-roll-ResolvedExpr (Option Expr) (names_step s) (level.Array b o e)

pub list_names : (s : Schema) (b : Bounds) (u : Bool) (e : Box ResolvedExpr Global) → by_names s (seen.List b u e) ≡ option_map (aggregate (list b u)) (by_names s e.value)
unfolding names_step
list_names s b u e = ap (by_names s) (sym (seen.rolls-List b u e)) ∙ fold-roll-ResolvedExpr (Option Expr) (names_step s) (level.List b u e)

pub set_names : (s : Schema) (b : Bounds) (e : Box ResolvedExpr Global) → by_names s (seen.Set b e) ≡ option_map (aggregate (set b)) (by_names s e.value)
unfolding names_step
set_names s b e = ap (by_names s) (sym (seen.rolls-Set b e)) ∙ fold-roll-ResolvedExpr (Option Expr) (names_step s) (level.Set b e)

pub bag_names : (s : Schema) (b : Bounds) (e : Box ResolvedExpr Global) → by_names s (seen.Bag b e) ≡ option_map (aggregate (bag b)) (by_names s e.value)
unfolding names_step
bag_names s b e = ap (by_names s) (sym (seen.rolls-Bag b e)) ∙ fold-roll-ResolvedExpr (Option Expr) (names_step s) (level.Bag b e)

pub target_names : (s : Schema) (t : Target) → by_names s (Named t) ≡ option_map named (target_name (map (λ e. e.name) s.entities) (map (λ t. t.name) s.types) t)
unfolding names_step
target_names s t = ap (by_names s) (sym (rolls-Named t)) ∙ fold-roll-ResolvedExpr (Option Expr) (names_step s) (level.Named t)

pub mapped : {X Y : Type 0} (f : X → Y) (o : Option X) (y : Y) → option_map f o ≡ Some y → (x : X) × (o ≡ Some x) × (f x ≡ y)
mapped f None y e = absurd cc
mapped f (Some x) y e = (x, refl, cc)

-- neither a name nor an aggregate
abbrev pub IsWord : Expr → Type 0
IsWord (named n) = ⊥
IsWord (aggregate a e) = ⊥
IsWord _ = Unit {0}

word : (s : Schema) (l : ResolvedExpr-F ResolvedExpr) (y x : Expr) → IsWord y → by_names s (roll-ResolvedExpr l) ≡ Some y → by_names s (roll-ResolvedExpr l) ≡ Some x → IsWord x
word s l y x h e f = let equal : y ≡ x = cc in subst IsWord equal h

-- a type that is neither an aggregate nor a name is a word
word_level : (s : Schema) (l : ResolvedExpr-F ResolvedExpr) (x : Expr) →
    ((b : Bounds) (o : Bool) (e : Box ResolvedExpr Global) → ¬ (roll-ResolvedExpr l ≡ seen.Array b o e)) →
    ((b : Bounds) (u : Bool) (e : Box ResolvedExpr Global) → ¬ (roll-ResolvedExpr l ≡ seen.List b u e)) →
    ((b : Bounds) (e : Box ResolvedExpr Global) → ¬ (roll-ResolvedExpr l ≡ seen.Set b e)) →
    ((b : Bounds) (e : Box ResolvedExpr Global) → ¬ (roll-ResolvedExpr l ≡ seen.Bag b e)) →
    ((n : List ℕ) → ¬ (x ≡ named n)) → by_names s (roll-ResolvedExpr l) ≡ Some x → IsWord x
unfolding names_step
word_level s (level.Array b o e) x na nl ns nb nn f = absurd (na b o e (seen.rolls-Array b o e))
word_level s (level.List b u e) x na nl ns nb nn f = absurd (nl b u e (seen.rolls-List b u e))
word_level s (level.Set b e) x na nl ns nb nn f = absurd (ns b e (seen.rolls-Set b e))
word_level s (level.Bag b e) x na nl ns nb nn f = absurd (nb b e (seen.rolls-Bag b e))
word_level s (level.Named t) x na nl ns nb nn f =
    let found = mapped named (target_name (map (λ e. e.name) s.entities) (map (λ t. t.name) s.types) t) x (sym (target_names s t) ∙ ap (by_names s) (sym (rolls-Named t)) ∙ f) in
    absurd (nn found.0 (sym found.2))
word_level s level.Integer x na nl ns nb nn f = word s level.Integer type.integer x tt (fold-roll-ResolvedExpr (Option Expr) (names_step s) level.Integer) f
word_level s level.Number x na nl ns nb nn f = word s level.Number type.number x tt (fold-roll-ResolvedExpr (Option Expr) (names_step s) level.Number) f
word_level s level.Boolean x na nl ns nb nn f = word s level.Boolean type.boolean x tt (fold-roll-ResolvedExpr (Option Expr) (names_step s) level.Boolean) f
word_level s level.Logical x na nl ns nb nn f = word s level.Logical type.logical x tt (fold-roll-ResolvedExpr (Option Expr) (names_step s) level.Logical) f
word_level s level.Real x na nl ns nb nn f = word s level.Real type.real x tt (fold-roll-ResolvedExpr (Option Expr) (names_step s) level.Real) f
word_level s (level.Text w) x na nl ns nb nn f = word s (level.Text w) (type.text w) x tt (fold-roll-ResolvedExpr (Option Expr) (names_step s) (level.Text w)) f
word_level s (level.Binary w) x na nl ns nb nn f = word s (level.Binary w) (type.binary w) x tt (fold-roll-ResolvedExpr (Option Expr) (names_step s) (level.Binary w)) f

-- the same, where the type is known by what it is not
pub plain_word : (s : Schema) (v : ResolvedExpr) (x : Expr) →
    ((b : Bounds) (o : Bool) (e : Box ResolvedExpr Global) → ¬ (v ≡ seen.Array b o e)) →
    ((b : Bounds) (u : Bool) (e : Box ResolvedExpr Global) → ¬ (v ≡ seen.List b u e)) →
    ((b : Bounds) (e : Box ResolvedExpr Global) → ¬ (v ≡ seen.Set b e)) →
    ((b : Bounds) (e : Box ResolvedExpr Global) → ¬ (v ≡ seen.Bag b e)) →
    ((n : List ℕ) → ¬ (x ≡ named n)) → by_names s v ≡ Some x → IsWord x
plain_word s v x na nl ns nb nn f =
    let same = roll-out-ResolvedExpr v in
    word_level s (out-ResolvedExpr v) x (λ b o e g. na b o e (sym same ∙ g)) (λ b u e g. nl b u e (sym same ∙ g)) (λ b e g. ns b e (sym same ∙ g)) (λ b e g. nb b e (sym same ∙ g)) nn (ap (by_names s) same ∙ f)

unnamed_level : (s : Schema) (l : ResolvedExpr-F ResolvedExpr) (x : Expr) → ((t : Target) → ¬ (roll-ResolvedExpr l ≡ Named t)) → by_names s (roll-ResolvedExpr l) ≡ Some x → (n : List ℕ) → ¬ (x ≡ named n)
unfolding names_step
unnamed_level s (level.Array b o e) x h f n g = let found = mapped (aggregate (array b o)) (by_names s e.value) x (sym (array_names s b o e) ∙ ap (by_names s) (sym (seen.rolls-Array b o e)) ∙ f) in let k = found.2 in cc
unnamed_level s (level.List b u e) x h f n g = let found = mapped (aggregate (list b u)) (by_names s e.value) x (sym (list_names s b u e) ∙ ap (by_names s) (sym (seen.rolls-List b u e)) ∙ f) in let k = found.2 in cc
unnamed_level s (level.Set b e) x h f n g = let found = mapped (aggregate (set b)) (by_names s e.value) x (sym (set_names s b e) ∙ ap (by_names s) (sym (seen.rolls-Set b e)) ∙ f) in let k = found.2 in cc
unnamed_level s (level.Bag b e) x h f n g = let found = mapped (aggregate (bag b)) (by_names s e.value) x (sym (bag_names s b e) ∙ ap (by_names s) (sym (seen.rolls-Bag b e)) ∙ f) in let k = found.2 in cc
unnamed_level s (level.Named t) x h f n g = h t (rolls-Named t)
unnamed_level s level.Integer x h f n g = let k = fold-roll-ResolvedExpr (Option Expr) (names_step s) level.Integer in cc
unnamed_level s level.Number x h f n g = let k = fold-roll-ResolvedExpr (Option Expr) (names_step s) level.Number in cc
unnamed_level s level.Boolean x h f n g = let k = fold-roll-ResolvedExpr (Option Expr) (names_step s) level.Boolean in cc
unnamed_level s level.Logical x h f n g = let k = fold-roll-ResolvedExpr (Option Expr) (names_step s) level.Logical in cc
unnamed_level s level.Real x h f n g = let k = fold-roll-ResolvedExpr (Option Expr) (names_step s) level.Real in cc
unnamed_level s (level.Text w) x h f n g = let k = fold-roll-ResolvedExpr (Option Expr) (names_step s) (level.Text w) in cc
unnamed_level s (level.Binary w) x h f n g = let k = fold-roll-ResolvedExpr (Option Expr) (names_step s) (level.Binary w) in cc

pub unnamed : (s : Schema) (v : ResolvedExpr) (x : Expr) → ((t : Target) → ¬ (v ≡ Named t)) → by_names s v ≡ Some x → (n : List ℕ) → ¬ (x ≡ named n)
unnamed s v x h f =
    let same = roll-out-ResolvedExpr v in
    unnamed_level s (out-ResolvedExpr v) x (λ t g. h t (sym same ∙ g)) (ap (by_names s) same ∙ f)
