-- What a check finds, step by step.
use Rattle.std.proofs.Common.{◌≡◌, ℕ, ◌+◌, ◌<◌, true, false, List, [], ◌∷◌, ◌++◌, length, map, take, get_or, Option, Some, None, IsSome, refl, sym, ap, subst, ◌∙◌}
use Rattle.std.specs.List.{AllByRecursion}
use Rattle.std.proofs.lemmas.List.{map_more}
use Rattle.p21_express.specs.Checks.{Finds}

-- one check after the other
pub finds_both : {X : Type 0} (P Q : Type 0) (a b c : Option X) → Finds a b P → Finds b c Q → Finds a c (P × Q)
finds_both P Q a None None f g = (f.0, (f.1, g.1))
finds_both P Q a (Some y) None f g = absurd (let e : true ≡ false = g.0 in cc)
finds_both P Q a None (Some z) f g = λ n h. g refl h.1
finds_both P Q a (Some y) (Some z) f g = λ n h. f n h.0

pub finds_same : {X : Type 0} (P Q : Type 0) (a b : Option X) → (P → Q) → (Q → P) → Finds a b P → Finds a b Q
finds_same P Q a None to from f = (f.0, to f.1)
finds_same P Q a (Some y) to from f = λ n h. f n (from h)

-- all is well, and nothing new is found
pub finds_none : {X : Type 0} (P : Type 0) (a : Option X) → P → Finds a a P
finds_none P None h = (refl, h)
finds_none P (Some x) h = λ n k. let e : true ≡ false = n in cc

-- all is not well, and something is found
pub finds_some : {X : Type 0} (P : Type 0) (a b : Option X) → ¬ P → IsSome b → Finds a b P
finds_some P a None wrong found = absurd (let e : false ≡ true = found in cc)
finds_some P a (Some y) wrong found = λ n h. wrong h

-- nothing is found at last
pub found_none : {X : Type 0} (a b : Option X) (P : Type 0) → Finds a b P → b ≡ None → P
found_none a None P f e = f.1
found_none a (Some y) P f e = absurd cc

-- something is found at last, and nothing was at first
pub found_some : {X : Type 0} (a b : Option X) (P : Type 0) → a ≡ None → Finds a b P → IsSome b → ¬ P
found_some a None P e f some = absurd (let k : false ≡ true = some in cc)
found_some None (Some y) P e f some = f refl
found_some (Some x) (Some y) P e f some = absurd cc

-- ---- all of a list

pub all_push : {X : Type 0} (P : X → Type 0) (xs : List X) (y : X) → AllByRecursion P xs → P y → AllByRecursion P (xs ++ y ∷ [])
all_push P [] y h p = (p, tt)
all_push P (x ∷ xs) y h p = (h.0, all_push P xs y h.1 p)

pub all_front : {X : Type 0} (P : X → Type 0) (xs : List X) (y : X) → AllByRecursion P (xs ++ y ∷ []) → AllByRecursion P xs × P y
all_front P [] y h = (tt, h.0)
all_front P (x ∷ xs) y h = let more = all_front P xs y h.1 in ((h.0, more.0), more.1)

pub all_both : {X : Type 0} (P Q : X → Type 0) (xs : List X) → AllByRecursion P xs → AllByRecursion Q xs → AllByRecursion (λ x. P x × Q x) xs
all_both P Q [] h k = tt
all_both P Q (x ∷ xs) h k = ((h.0, k.0), all_both P Q xs h.1 k.1)

pub all_parts : {X : Type 0} (P Q : X → Type 0) (xs : List X) → AllByRecursion (λ x. P x × Q x) xs → AllByRecursion P xs × AllByRecursion Q xs
all_parts P Q [] h = (tt, tt)
all_parts P Q (x ∷ xs) h = let more = all_parts P Q xs h.1 in ((h.0.0, more.0), (h.0.1, more.1))

pub all_same : {X : Type 0} (P Q : X → Type 0) (xs : List X) → ((x : X) → P x → Q x) → AllByRecursion P xs → AllByRecursion Q xs
all_same P Q [] to h = tt
all_same P Q (x ∷ xs) to h = (to x h.0, all_same P Q xs to h.1)

-- one more of a list is checked
pub finds_more : {X Y Z : Type 0} (P : Y → Type 0) (f : X → Y) (xs : List X) (i : ℕ) (x : X) (a b c : Option Z) → i < length xs → x ≡ get_or xs i x → Finds a b (AllByRecursion P (map f (take i xs))) → Finds b c (P (f x)) → Finds a c (AllByRecursion P (map f (take (i + 1) xs)))
finds_more {X} {Y} P f xs i x a b c lt is before this =
    let e : map f (take (i + 1) xs) ≡ map f (take i xs) ++ f x ∷ [] = map_more f xs i x lt ∙ ap (λ (z : X). map f (take i xs) ++ f z ∷ []) (sym is) in
    subst (λ (ys : List Y). Finds a c (AllByRecursion P ys)) (sym e)
    (finds_same (AllByRecursion P (map f (take i xs)) × P (f x)) (AllByRecursion P (map f (take i xs) ++ f x ∷ [])) a c
    (λ h. all_push P (map f (take i xs)) (f x) h.0 h.1) (all_front P (map f (take i xs)) (f x))
    (finds_both (AllByRecursion P (map f (take i xs))) (P (f x)) a b c before this))
