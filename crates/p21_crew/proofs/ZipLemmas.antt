-- Lemmas on two lists whose elements belong together, place by place.
use Rattle.std.proofs.Common.{◌≡◌, ℕ, suc, ◌+◌, ◌<◌, List, [], ◌∷◌, ◌++◌, length, take, get_or, refl, sym, ap, ◌∙◌, append_assoc}
use Rattle.std.proofs.lemmas.List.{take_more}
use Rattle.std.specs.List.{AllZip}

module _ {A B : Type 0} where
  -- one more of each
  pub AllZip-snoc : (R : A → B → Type 0) (xs : List A) (ys : List B) (x : A) (y : B) → AllZip R xs ys → R x y → AllZip R (xs ++ x ∷ []) (ys ++ y ∷ [])
  AllZip-snoc R [] [] x y zip one = (one, tt)
  AllZip-snoc R [] (z ∷ ys) x y zip one = absurd zip
  AllZip-snoc R (w ∷ xs) [] x y zip one = absurd zip
  AllZip-snoc R (w ∷ xs) (z ∷ ys) x y zip one = (zip.0, AllZip-snoc R xs ys x y zip.1 one)

  -- the next of a list, and one more of the other
  pub AllZip-next : (R : A → B → Type 0) (before items : List A) (i : ℕ) (x : A) (ys after : List B) (y : B)
      → i < length items → x ≡ get_or items i x → R x y → after ≡ ys ++ y ∷ [] → AllZip R (before ++ take i items) ys → AllZip R (before ++ take (i + 1) items) after
  AllZip-next R before items i x ys after y less is one more zip =
      let parts : before ++ take (i + 1) items ≡ (before ++ take i items) ++ x ∷ [] =
      ap (λ ms. before ++ ms) (take_more items i x less ∙ ap (λ z. take i items ++ z ∷ []) (sym is)) ∙ sym (append_assoc before (take i items) (x ∷ [])) in
      rw (parts, more) (AllZip-snoc R (before ++ take i items) ys x y zip one)

  -- both are as long
  pub length-zip : (R : A → B → Type 0) (xs : List A) (ys : List B) → AllZip R xs ys → length ys ≡ length xs
  length-zip R [] [] zip = refl
  length-zip R [] (y ∷ ys) zip = absurd zip
  length-zip R (x ∷ xs) [] zip = absurd zip
  length-zip R (x ∷ xs) (y ∷ ys) zip = ap (λ n. suc n) (length-zip R xs ys zip.1)
