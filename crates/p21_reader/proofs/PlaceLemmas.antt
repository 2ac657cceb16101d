-- The places of a list with one element more.
use Rattle.std.proofs.Common.{◌≡◌, List, [], ◌∷◌, ◌++◌, refl, ap, ◌∙◌}

module _ {T : Type 0} where
  -- an element of the longer list is the last one, or stands before it
  pub data Place (xs earlier later : List T) (x y : T) : Type 0 where
    last : xs ≡ earlier → x ≡ y → Place xs earlier later x y
    before : (m : List T) → xs ≡ earlier ++ y ∷ m → Place xs earlier later x y

  place_behind : (v w : T) (xs earlier later : List T) (x y : T) → v ≡ w → Place xs earlier later x y → Place (v ∷ xs) (w ∷ earlier) later x y
  place_behind v w xs earlier later x y e (last p q) = last (ap (λ l. v ∷ l) p ∙ ap (λ z. z ∷ earlier) e) q
  place_behind v w xs earlier later x y e (before m p) = before m (ap (λ l. v ∷ l) p ∙ ap (λ z. z ∷ (earlier ++ y ∷ m)) e)

  pub place_of : (xs earlier later : List T) (x y : T) → xs ++ x ∷ [] ≡ earlier ++ y ∷ later → Place xs earlier later x y
  place_of [] [] later x y e = last refl (cc)
  place_of [] (w ∷ []) later x y e = absurd (cc)
  place_of [] (w ∷ z ∷ earlier) later x y e = absurd (cc)
  place_of (v ∷ xs) [] later x y e = before xs (let f : v ≡ y = cc in ap (λ z. z ∷ xs) f)
  place_of (v ∷ xs) (w ∷ earlier) later x y e =
      let f : v ≡ w = cc in
      let g : xs ++ x ∷ [] ≡ earlier ++ y ∷ later = cc in
      place_behind v w xs earlier later x y f (place_of xs earlier later x y g)
