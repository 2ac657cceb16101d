-- Operators of aggregates, from an element on.
use Rattle.std.proofs.Common.{◌≡◌, ℕ, ◌+◌, ◌<◌, List, [], ◌∷◌, ◌++◌, length, map, drop, take, get_or, suc, cond, refl, ap, sym, ◌∙◌, subst, add-one, drop-cons, append_assoc, Bool, true, false, Option, Some, None}
use Rattle.std.proofs.Math.Seq.{take-suc}
use Rattle.std.proofs.lemmas.List.{get_or-map}
use Rattle.std.specs.Prelude.{remove}
use Rattle.p21_values.specs.Aggregates.{not_known}
use Rattle.p21_values.specs.Logic.{and_of, is_true}
use Rattle.p21_values.specs.Plain.{Val, Vals, made, more, nothing, plain, plain_all, several}
use Rattle.p21_values.specs.Same.{AreBelow, at_places, partner, same_of}
use Rattle.p21_values.specs.Sets.{added, by_place, difference_of, elements_of, intersection_of, kept, same_at, subset_of, sure, union_of, vals, within, without}
use Rattle.p21_values.proofs.SameLemmas.{aggregate_is, and_assoc, below_at, below_remove, listed_all, partner_below, places_length, places_more, plain_aggregate, plain_made, places_remove}
use Rattle.p21_values.specs.declared.truth.Truth.{Truth}
use Rattle.p21_values.specs.declared.truth.Truth.TheVariants.{False, Unknown, True}
use Rattle.std.proofs.Common.{Vec, Global}
use Rattle.std.specs.declared.rc.Rc.{Rc}
use Rattle.p21_values.specs.declared.kind.Kind.{Kind}
use Rattle.p21_values.specs.declared.value.Value.{Value}
use Rattle.p21_values.specs.declared.value.Value.TheVariants.{Aggregate, Made}

pub map_here : (vs : List Value) (i : ℕ) (v : Value) → i < length vs → v ≡ get_or vs i v → map plain (drop i vs) ≡ plain v ∷ map plain (drop (i + 1) vs)
map_here vs i v lt is =
    let rest : drop i vs ≡ v ∷ drop (i + 1) vs = rw add-one (drop-cons vs i v lt ∙ ap (λ y. y ∷ drop (suc i) vs) (sym is)) in
    ap (map plain) rest

sure_case : (b : Bool) (i n k : ℕ) → i < n → cond b (Some i) None ≡ Some k → k < n
sure_case true i n k h e = let q : i ≡ k = cc in subst (λ j. j < n) q h
sure_case false i n k h e = absurd (cc)

sure_below : (o : Option (ℕ × Truth)) (n k : ℕ) → ((found : ℕ × Truth) → o ≡ Some found → found.0 < n) → sure o ≡ Some k → k < n
sure_below None n k f e = absurd (cc)
sure_below (Some found) n k f e = sure_case (is_true found.1) found.0 n k (f found refl) e

pub same_at_below : (v : Val) (ws : List Val) (k : ℕ) → same_at v ws ≡ Some k → k < length ws
same_at_below v ws k e = sure_below (partner (same_of by_place v) ws) (length ws) k (partner_below (same_of by_place v) ws) e

pub same_place_below : (v : Val) (ws : List Val) (is : List ℕ) (k : ℕ) → same_at v (at_places ws is) ≡ Some k → k < length is
same_place_below v ws is k e = subst (λ n. k < n) (places_length ws is) (same_at_below v (at_places ws is) k e)

pub union_next : (xs : List Val) (ys : List Value) (i : ℕ) (y : Value) (xs' end : List Val) → i < length ys → y ≡ get_or ys i y → xs' ≡ added xs (plain y) → union_of xs (map plain (drop i ys)) ≡ end → union_of xs' (map plain (drop (i + 1) ys)) ≡ end
union_next xs ys i y xs' end lt is a h =
    ap (λ z. union_of z (map plain (drop (i + 1) ys))) a ∙ sym (ap (union_of xs) (map_here ys i y lt is)) ∙ h

pub difference_next : (xs : List Val) (ys : List Value) (i : ℕ) (y : Value) (is : List ℕ) (end : List Val) → i < length ys → y ≡ get_or ys i y → same_at (plain y) (at_places xs is) ≡ None → difference_of (at_places xs is) (map plain (drop i ys)) ≡ end → difference_of (at_places xs is) (map plain (drop (i + 1) ys)) ≡ end
difference_next xs ys i y is end lt e s h =
    sym (ap (difference_of (at_places xs is)) (map_here ys i y lt e) ∙ ap (λ o. difference_of (without (at_places xs is) o) (map plain (drop (i + 1) ys))) s) ∙ h

pub difference_taken : (xs : List Val) (ys : List Value) (i : ℕ) (y : Value) (is js : List ℕ) (k : ℕ) (end : List Val) → i < length ys → y ≡ get_or ys i y → same_at (plain y) (at_places xs is) ≡ Some k → js ≡ remove is k → difference_of (at_places xs is) (map plain (drop i ys)) ≡ end → difference_of (at_places xs js) (map plain (drop (i + 1) ys)) ≡ end
difference_taken xs ys i y is js k end lt e s r h =
    ap (λ l. difference_of (at_places xs l) (map plain (drop (i + 1) ys))) r
    ∙ ap (λ l. difference_of l (map plain (drop (i + 1) ys))) (places_remove xs is k)
    ∙ sym (ap (difference_of (at_places xs is)) (map_here ys i y lt e) ∙ ap (λ o. difference_of (without (at_places xs is) o) (map plain (drop (i + 1) ys))) s)
    ∙ h

pub intersection_next : (xs : List Value) (i : ℕ) (x : Value) (ys : List Val) (is : List ℕ) (found end : List Val) → i < length xs → x ≡ get_or xs i x → same_at (plain x) (at_places ys is) ≡ None → found ++ intersection_of (map plain (drop i xs)) (at_places ys is) ≡ end → found ++ intersection_of (map plain (drop (i + 1) xs)) (at_places ys is) ≡ end
intersection_next xs i x ys is found end lt e s h =
    ap (λ l. found ++ l) (sym (ap (λ l. intersection_of l (at_places ys is)) (map_here xs i x lt e) ∙ ap (λ o. kept (plain x) o (at_places ys is) (intersection_of (map plain (drop (i + 1) xs)))) s)) ∙ h

pub intersection_kept : (xs : List Value) (i : ℕ) (x : Value) (ys : List Val) (is js : List ℕ) (k : ℕ) (found found' end : List Val) → i < length xs → x ≡ get_or xs i x → same_at (plain x) (at_places ys is) ≡ Some k → js ≡ remove is k → found' ≡ found ++ plain x ∷ [] → found ++ intersection_of (map plain (drop i xs)) (at_places ys is) ≡ end → found' ++ intersection_of (map plain (drop (i + 1) xs)) (at_places ys js) ≡ end
intersection_kept xs i x ys is js k found found' end lt e s r f h =
    let rest = map plain (drop (i + 1) xs) in
    ap (λ l. l ++ intersection_of rest (at_places ys js)) f
    ∙ ap (λ l. (found ++ plain x ∷ []) ++ intersection_of rest (at_places ys l)) r
    ∙ ap (λ l. (found ++ plain x ∷ []) ++ intersection_of rest l) (places_remove ys is k)
    ∙ append_assoc found (plain x ∷ []) (intersection_of rest (remove (at_places ys is) k))
    ∙ ap (λ l. found ++ l) (sym (ap (λ l. intersection_of l (at_places ys is)) (map_here xs i x lt e) ∙ ap (λ o. kept (plain x) o (at_places ys is) (intersection_of rest)) s))
    ∙ h

pub subset_none : (xs : List Value) (i : ℕ) (x : Value) (ys : List Val) (is : List ℕ) (all all' end : Truth) → i < length xs → x ≡ get_or xs i x → partner (same_of by_place (plain x)) (at_places ys is) ≡ None → all' ≡ and_of all (not_known (plain x)) → and_of all (subset_of (map plain (drop i xs)) (at_places ys is)) ≡ end → and_of all' (subset_of (map plain (drop (i + 1) xs)) (at_places ys is)) ≡ end
subset_none xs i x ys is all all' end lt e p a h =
    let rest = subset_of (map plain (drop (i + 1) xs)) in
    ap (λ t. and_of t (rest (at_places ys is))) a
    ∙ and_assoc all (not_known (plain x)) (rest (at_places ys is))
    ∙ ap (and_of all) (sym (ap (λ l. subset_of l (at_places ys is)) (map_here xs i x lt e) ∙ ap (λ o. within (plain x) o (at_places ys is) rest) p))
    ∙ h

pub subset_some : (xs : List Value) (i : ℕ) (x : Value) (ys : List Val) (is : List ℕ) (found : ℕ × Truth) (all all' end : Truth) → i < length xs → x ≡ get_or xs i x → partner (same_of by_place (plain x)) (at_places ys is) ≡ Some found → is_true found.1 ≡ false → all' ≡ and_of all Unknown → and_of all (subset_of (map plain (drop i xs)) (at_places ys is)) ≡ end → and_of all' (subset_of (map plain (drop (i + 1) xs)) (at_places ys is)) ≡ end
subset_some xs i x ys is found all all' end lt e p b a h =
    let rest = subset_of (map plain (drop (i + 1) xs)) in
    ap (λ t. and_of t (rest (at_places ys is))) a
    ∙ and_assoc all Unknown (rest (at_places ys is))
    ∙ ap (and_of all) (sym (ap (λ l. subset_of l (at_places ys is)) (map_here xs i x lt e) ∙ ap (λ o. within (plain x) o (at_places ys is) rest) p ∙ ap (λ c. cond c (rest (remove (at_places ys is) found.0)) (and_of Unknown (rest (at_places ys is)))) b))
    ∙ h

pub subset_taken : (xs : List Value) (i : ℕ) (x : Value) (ys : List Val) (is js : List ℕ) (found : ℕ × Truth) (all end : Truth) → i < length xs → x ≡ get_or xs i x → partner (same_of by_place (plain x)) (at_places ys is) ≡ Some found → is_true found.1 ≡ true → js ≡ remove is found.0 → and_of all (subset_of (map plain (drop i xs)) (at_places ys is)) ≡ end → and_of all (subset_of (map plain (drop (i + 1) xs)) (at_places ys js)) ≡ end
subset_taken xs i x ys is js found all end lt e p b r h =
    let rest = subset_of (map plain (drop (i + 1) xs)) in
    ap (λ l. and_of all (rest (at_places ys l))) r
    ∙ ap (λ l. and_of all (rest l)) (places_remove ys is found.0)
    ∙ ap (and_of all) (sym (ap (λ l. subset_of l (at_places ys is)) (map_here xs i x lt e) ∙ ap (λ o. within (plain x) o (at_places ys is) rest) p ∙ ap (λ c. cond c (rest (remove (at_places ys is) found.0)) (and_of Unknown (rest (at_places ys is)))) b))
    ∙ h

pub gathered_next : (vs : List Value) (is : List ℕ) (i : ℕ) (x : Value) (now news : List Val) → i < length is → AreBelow (length vs) is → x ≡ get_or vs (get_or is i 0) x → news ≡ now ++ plain x ∷ [] → now ≡ at_places (map plain vs) (take i is) → news ≡ at_places (map plain vs) (take (i + 1) is)
gathered_next vs is i x now news lt below e f g =
    let value : get_or (map plain vs) (get_or is i 0) nothing ≡ plain x = get_or-map plain vs (get_or is i 0) x nothing (below_at (length vs) is i below lt) ∙ ap plain (sym e) in
    let front : take (i + 1) is ≡ take i is ++ get_or is i 0 ∷ [] = rw add-one (take-suc is i 0 lt) in
    f ∙ ap (λ l. l ++ plain x ∷ []) g ∙ ap (λ v. at_places (map plain vs) (take i is) ++ v ∷ []) (sym value) ∙ sym (places_more (map plain vs) (take i is) (get_or is i 0)) ∙ ap (at_places (map plain vs)) (sym front)

pub all_vals : (xs : List Value) → vals (map plain xs) ≡ plain_all xs
all_vals [] = refl
all_vals (x ∷ xs) = ap (more (plain x)) (all_vals xs)

pub made_is : (k : Kind) (r : Rc (Vec Value Global) Global) (v : Vec Value Global) → r.value ≡ v → plain (Aggregate k r) ≡ several k (vals (map plain v.items))
made_is k r v e = plain_aggregate k r ∙ ap (λ (u : Vec Value Global). several k (plain_all u.items)) e ∙ ap (several k) (sym (all_vals v.items))

pub instance_is : (f : ℕ) (r : Rc (Vec Value Global) Global) (v : Vec Value Global) → r.value ≡ v → plain (Made f r) ≡ made f (vals (map plain v.items))
instance_is f r v e = plain_made f r ∙ ap (λ (u : Vec Value Global). made f (plain_all u.items)) e ∙ ap (made f) (sym (all_vals v.items))

pub elements_are : (v : Value) (k : Kind) (r : Rc (Vec Value Global) Global) (w : Vec Value Global) (xs : List Value) → v ≡ Aggregate k r → w ≡ r.value → xs ≡ w.items → map plain xs ≡ elements_of (plain v)
elements_are v k r w xs e f g = sym (ap elements_of (aggregate_is v k r w xs e f g) ∙ listed_all xs)
