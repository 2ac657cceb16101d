-- Two names with a point between them.
use Rattle.std.proofs.Common.{◌≡◌, ℕ, List, [], ◌∷◌, ◌++◌, length, map, take, refl, ap, sym, subst, ◌∙◌, arith}
use Rattle.std.specs.Char.{to_ascii_lowercase}
use Rattle.std.specs.List.{IsSplitAt}
use Rattle.std.proofs.lemmas.List.{map-append, take-append-drop}
use Rattle.p21_query.specs.Called.{IsSameName}

-- parts that are the same are so together
together : (f b g e : List ℕ) → IsSameName g f → IsSameName e (46 ∷ b) → IsSameName (f ++ 46 ∷ b) (g ++ e)
together f b g e p q =
    map-append to_ascii_lowercase f (46 ∷ b) ∙ ap (λ (l : List ℕ). l ++ map to_ascii_lowercase (46 ∷ b)) (sym p) ∙ ap (λ (l : List ℕ). map to_ascii_lowercase g ++ l) (sym q) ∙ sym (map-append to_ascii_lowercase g e)

-- and the other way round, where the fronts are as long as each other
apart : (f b g e : List ℕ) → length f ≡ length g → IsSameName (f ++ 46 ∷ b) (g ++ e) → IsSameName g f × IsSameName e (46 ∷ b)
apart [] b [] e l h = (refl, sym h)
apart [] b (x ∷ g) e l h = absurd (omega (arith, l))
apart (c ∷ f) b [] e l h = absurd (omega (arith, l))
apart (c ∷ f) b (x ∷ g) e l h =
    let h' : IsSameName (f ++ 46 ∷ b) (g ++ e) = cc in
    let l' : length f ≡ length g = omega (arith, l) in
    let rest = apart f b g e l' h' in
    let first : to_ascii_lowercase x ≡ to_ascii_lowercase c = cc in (cc, rest.1)

whole : (n g e : List ℕ) (mid : ℕ) → IsSplitAt n mid g e → g ++ e ≡ n
whole n g e mid s = ap (λ (l : List ℕ). l ++ e) s.1 ∙ ap (λ (l : List ℕ). take mid n ++ l) s.2 ∙ take-append-drop mid n

-- a name that is split where the first of two ends
pub joined_is : (f b n g e : List ℕ) → IsSplitAt n (length f) g e → IsSameName g f → IsSameName e (46 ∷ b) → IsSameName (f ++ 46 ∷ b) n
joined_is f b n g e s p q = subst (IsSameName (f ++ 46 ∷ b)) (whole n g e (length f) s) (together f b g e p q)

pub is_joined : (f b n g e : List ℕ) → IsSplitAt n (length f) g e → IsSameName (f ++ 46 ∷ b) n → IsSameName g f × IsSameName e (46 ∷ b)
is_joined f b n g e s h = apart f b g e (sym s.3) (subst (IsSameName (f ++ 46 ∷ b)) (sym (whole n g e (length f) s)) h)
