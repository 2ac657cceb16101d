-- When values are the same, by what stands in memory.
use Rattle.std.proofs.Common.{◌≡◌, ℕ, ◌+◌, ◌<◌, List, [], ◌∷◌, ◌++◌, length, map, drop, take, get_or, suc, cond, refl, ap, sym, ◌∙◌, subst, arith, add-one, drop-cons, Vec, Global, Bool, true, false, Option, Some, None, slice_index_or, zero}
use Rattle.std.proofs.Math.Seq.{take-suc}
use Rattle.std.proofs.lemmas.List.{length-map, get_or-map}
use Rattle.std.specs.Prelude.{remove}
use Rattle.std.specs.List.{position_from}
use Rattle.std.specs.declared.rc.Rc.{Rc}
use mathlib.Core.Former.{Count}
use Rattle.p21_values.specs.Plain.{Val, Vals, nothing, truth, whole, number, text, bits, member, instance, typed, several, made, none, more, plain, plains, plain_all, listed, bare}
use Rattle.p21_values.specs.Same.{AreBelow, at_places, chosen, comparison_of, comparison_of_entities, compared, counted_same, first_of, ordered_same, partner, same_of, several_are, taken}
use Rattle.p21_values.specs.Logic.{and_of, is_true, is_unknown, or_of}
use Rattle.p21_values.specs.declared.truth.Truth.{Truth}
use Rattle.p21_values.specs.declared.truth.Truth.TheVariants.{False, Unknown, True}
use Rattle.p21_values.specs.declared.kind.Kind.{Kind}
use Rattle.p21_values.specs.declared.kind.Comparison.{Comparison}
use Rattle.p21_values.specs.declared.kind.Comparison.TheVariants.{Counted, InOrder, Never}
use Rattle.p21_values.specs.declared.value.Value.{Value, Aggregate', Made', Row_of-Value, end_of-Value, more_of-Value, items-the_row-Value, items_hidden-the_row-Value-0}
use Rattle.p21_values.specs.declared.value.Value.TheVariants.{Aggregate, Made}

pub plains_row : {m : _} (row : Row_of-Value m) → plains row ≡ plain_all (items-the_row-Value m row)
plains_row end_of-Value = refl
plains_row (more_of-Value v rest) = ap (more (plain v)) (plains_row rest)

abbrev row_of : Value → (n : Count) × Row_of-Value n
row_of (Aggregate' k p s row) = (_, row)
row_of (Made' e p s row) = (_, row)
row_of _ = (_, end_of-Value)

pub plain_aggregate : (k : Kind) (r : Rc (Vec Value Global) Global) → plain (Aggregate k r) ≡ several k (plain_all r.value.items)
plain_aggregate k r = ap (several k) (plains_row (row_of (Aggregate k r)).1 ∙ ap plain_all (items_hidden-the_row-Value-0 r.value))

pub plain_made : (f : ℕ) (r : Rc (Vec Value Global) Global) → plain (Made f r) ≡ made f (plain_all r.value.items)
plain_made f r = ap (made f) (plains_row (row_of (Made f r)).1 ∙ ap plain_all (items_hidden-the_row-Value-0 r.value))

-- the values of a slice, as a list
pub listed_all : (vs : List Value) → listed (plain_all vs) ≡ map plain vs
listed_all [] = refl
listed_all (v ∷ vs) = ap (λ ws. plain v ∷ ws) (listed_all vs)

pub and_false : (l : Truth) → and_of l False ≡ False
and_false False = refl
and_false Unknown = refl
and_false True = refl

pub and_true : (l : Truth) → and_of l True ≡ l
and_true False = refl
and_true Unknown = refl
and_true True = refl

pub and_assoc : (a b c : Truth) → and_of (and_of a b) c ≡ and_of a (and_of b c)
and_assoc False b c = refl
and_assoc Unknown False c = refl
and_assoc Unknown Unknown False = refl
and_assoc Unknown Unknown Unknown = refl
and_assoc Unknown Unknown True = refl
and_assoc Unknown True False = refl
and_assoc Unknown True Unknown = refl
and_assoc Unknown True True = refl
and_assoc True b c = refl

-- a defined type of the second value plays no part
pub same_typed : (e : ℕ → ℕ → Truth) (v : Val) (t : ℕ) (w : Val) → same_of e v (typed t w) ≡ same_of e v w
same_typed e nothing t w = refl
same_typed e (truth l) t w = refl
same_typed e (whole n) t w = refl
same_typed e (number x) t w = refl
same_typed e (text x) t w = refl
same_typed e (bits x) t w = refl
same_typed e (member i) t w = refl
same_typed e (instance i) t w = refl
same_typed e (typed u v) t w = same_typed e v t w
same_typed e (several k vs) t w = refl
same_typed e (made f vs) t w = refl

-- nothing is known to be the same as `?`
pub same_nothing : (e : ℕ → ℕ → Truth) (v : Val) → same_of e v nothing ≡ Unknown
same_nothing e nothing = refl
same_nothing e (truth l) = refl
same_nothing e (whole n) = refl
same_nothing e (number x) = refl
same_nothing e (text x) = refl
same_nothing e (bits x) = refl
same_nothing e (member i) = refl
same_nothing e (instance i) = refl
same_nothing e (typed u v) = same_nothing e v
same_nothing e (several k vs) = refl
same_nothing e (made f vs) = refl

-- aggregates of unlike lengths are not the same
pub compared_unlike : (how : Comparison) (n : ℕ) (ws : List Val) (f g : List Val → Truth) → (n ≡ length ws → ⊥) → compared how n ws f g ≡ False
compared_unlike Never n ws f g h = refl
compared_unlike InOrder n ws f g h = grind arith
compared_unlike Counted n ws f g h = grind arith

pub same_aggregates : (e : ℕ → ℕ → Truth) (a b : Value) (k l : Kind) (r s : Rc (Vec Value Global) Global) → a ≡ Aggregate k r → b ≡ Aggregate l s → same_of e (plain a) (plain b) ≡ compared (comparison_of k l) (length r.value.items) (map plain s.value.items) (ordered_same e (plain_all r.value.items)) (counted_same e (plain_all r.value.items))
same_aggregates e a b k l r s ea eb =
    ap (λ v. same_of e (plain v) (plain b)) ea
    ∙ ap (λ v. same_of e (plain (Aggregate k r)) (plain v)) eb
    ∙ ap (λ v. same_of e v (plain (Aggregate l s))) (plain_aggregate k r)
    ∙ ap (same_of e (several k (plain_all r.value.items))) (plain_aggregate l s)
    ∙ ap (λ ws. compared (comparison_of k l) (length (listed (plain_all r.value.items))) ws (ordered_same e (plain_all r.value.items)) (counted_same e (plain_all r.value.items))) (listed_all s.value.items)
    ∙ ap (λ n. compared (comparison_of k l) n (map plain s.value.items) (ordered_same e (plain_all r.value.items)) (counted_same e (plain_all r.value.items))) (ap length (listed_all r.value.items) ∙ length-map r.value.items plain)

pub same_made : (e : ℕ → ℕ → Truth) (a b : Value) (f g : ℕ) (r s : Rc (Vec Value Global) Global) → a ≡ Made f r → b ≡ Made g s → same_of e (plain a) (plain b) ≡ compared (comparison_of_entities f g) (length r.value.items) (map plain s.value.items) (ordered_same e (plain_all r.value.items)) (counted_same e (plain_all r.value.items))
same_made e a b f g r s ea eb =
    ap (λ v. same_of e (plain v) (plain b)) ea
    ∙ ap (λ v. same_of e (plain (Made f r)) (plain v)) eb
    ∙ ap (λ v. same_of e v (plain (Made g s))) (plain_made f r)
    ∙ ap (same_of e (made f (plain_all r.value.items))) (plain_made g s)
    ∙ ap (λ ws. compared (comparison_of_entities f g) (length (listed (plain_all r.value.items))) ws (ordered_same e (plain_all r.value.items)) (counted_same e (plain_all r.value.items))) (listed_all s.value.items)
    ∙ ap (λ n. compared (comparison_of_entities f g) n (map plain s.value.items) (ordered_same e (plain_all r.value.items)) (counted_same e (plain_all r.value.items))) (ap length (listed_all r.value.items) ∙ length-map r.value.items plain)

-- a place among places
pub below_at : (n : ℕ) (is : List ℕ) (k : ℕ) → AreBelow n is → k < length is → get_or is k 0 < n
below_at n (i ∷ is) zero h lt = h.0
below_at n (i ∷ is) (suc k) h lt = below_at n is k h.1 (omega arith)
below_at n [] k h lt = absurd (omega arith)

pub value_at : (ws : List Val) (is : List ℕ) (k : ℕ) → k < length is → get_or (at_places ws is) k nothing ≡ get_or ws (get_or is k 0) nothing
value_at ws (i ∷ is) zero lt = refl
value_at ws (i ∷ is) (suc k) lt = value_at ws is k (omega arith)
value_at ws [] k lt = absurd (omega arith)

pub places_length : (ws : List Val) (is : List ℕ) → length (at_places ws is) ≡ length is
places_length ws [] = refl
places_length ws (i ∷ is) = ap suc (places_length ws is)

pub places_remove : (ws : List Val) (is : List ℕ) (k : ℕ) → at_places ws (remove is k) ≡ remove (at_places ws is) k
places_remove ws [] zero = refl
places_remove ws [] (suc k) = refl
places_remove ws (i ∷ is) zero = refl
places_remove ws (i ∷ is) (suc k) = ap (λ vs. slice_index_or ws i nothing ∷ vs) (places_remove ws is k)

pub below_remove : (n : ℕ) (is : List ℕ) (k : ℕ) → AreBelow n is → AreBelow n (remove is k)
below_remove n [] zero h = tt
below_remove n [] (suc k) h = tt
below_remove n (i ∷ is) zero h = h.1
below_remove n (i ∷ is) (suc k) h = (h.0, below_remove n is k h.1)

pub places_more : (ws : List Val) (is : List ℕ) (i : ℕ) → at_places ws (is ++ i ∷ []) ≡ at_places ws is ++ slice_index_or ws i nothing ∷ []
places_more ws [] i = refl
places_more ws (j ∷ is) i = ap (λ vs. slice_index_or ws j nothing ∷ vs) (places_more ws is i)

pub below_more_places : (n : ℕ) (is : List ℕ) (i : ℕ) → AreBelow n is → i < n → AreBelow n (is ++ i ∷ [])
below_more_places n [] i h lt = (lt, tt)
below_more_places n (j ∷ is) i h lt = (h.0, below_more_places n is i h.1 lt)

pub places_step : (vs : List Value) (is js : List ℕ) (i : ℕ) → js ≡ is ++ i ∷ [] → i < length vs → (at_places (map plain vs) is ≡ take i (map plain vs)) × AreBelow (length vs) is → (at_places (map plain vs) js ≡ take (i + 1) (map plain vs)) × AreBelow (length vs) js
places_step vs is js i e lt h =
    let more = below_more_places (length vs) is i h.1 lt in
    let near : i < length (map plain vs) = rw (length-map vs plain) lt in (
      ap (at_places (map plain vs)) e ∙ places_more (map plain vs) is i ∙ ap (λ ws. ws ++ slice_index_or (map plain vs) i nothing ∷ []) h.0 ∙ rw (add-one) (sym (take-suc (map plain vs) i nothing near)),
      subst (AreBelow (length vs)) (sym e) more,
    )

pub item_at : (ws : List Value) (is : List ℕ) (i : ℕ) (w : Value) → i < length is → AreBelow (length ws) is → w ≡ get_or ws (get_or is i 0) w → get_or (at_places (map plain ws) is) i nothing ≡ plain w
item_at ws is i w lt below e =
    value_at (map plain ws) is i lt ∙ get_or-map plain ws (get_or is i 0) w nothing (below_at (length ws) is i below lt) ∙ ap plain (sym e)

-- a search that goes on from a place
pub position_step : (q : Val → Bool) (xs : List Val) (i : ℕ) → i < length xs → position_from q i (drop i xs) ≡ cond (q (get_or xs i nothing)) (Some i) (position_from q (i + 1) (drop (i + 1) xs))
position_step q xs i h = rw (drop-cons xs i nothing h, add-one) refl

position_case : (b : Bool) (i n k : ℕ) (o : Option ℕ) → (o ≡ Some k → k < (i + 1) + n) → cond b (Some i) o ≡ Some k → k < i + suc n
position_case true i n k o f e = let h : i ≡ k = cc in omega arith
position_case false i n k o f e = let h = f e in omega arith

pub position_below : (q : Val → Bool) (i : ℕ) (xs : List Val) (k : ℕ) → position_from q i xs ≡ Some k → k < i + length xs
position_below q i [] k e = absurd (cc)
position_below q i (x ∷ xs) k e = position_case (q x) i (length xs) k (position_from q (i + 1) xs) (position_below q (i + 1) xs k) e

-- no partner stands before a place, and this one may be the partner
abbrev pub Looked : (Val → Truth) → List Val → Option ℕ → ℕ → Type 0
Looked p xs possible i = (position_from (λ w. is_true (p w)) i (drop i xs) ≡ position_from (λ w. is_true (p w)) 0 xs) × (first_of possible (position_from (λ w. is_unknown (p w)) i (drop i xs)) ≡ position_from (λ w. is_unknown (p w)) 0 xs)

pub first_of_first : (a b c : Option ℕ) → first_of (first_of a b) c ≡ first_of a (first_of b c)
first_of_first None b c = refl
first_of_first (Some i) b c = refl

pub first_of_none : (a : Option ℕ) → first_of a None ≡ a
first_of_none None = refl
first_of_none (Some i) = refl

pub looked_false : (p : Val → Truth) (xs : List Val) (i : ℕ) (w : Val) (possible : Option ℕ) → i < length xs → get_or xs i nothing ≡ w → p w ≡ False → Looked p xs possible i → Looked p xs possible (i + 1)
looked_false p xs i w possible lt e f h =
    let v : p (get_or xs i nothing) ≡ False = ap p e ∙ f in (
      sym (position_step (λ w. is_true (p w)) xs i lt ∙ ap (λ t. cond (is_true t) (Some i) (position_from (λ w. is_true (p w)) (i + 1) (drop (i + 1) xs))) v) ∙ h.0,
      ap (first_of possible) (sym (position_step (λ w. is_unknown (p w)) xs i lt ∙ ap (λ t. cond (is_unknown t) (Some i) (position_from (λ w. is_unknown (p w)) (i + 1) (drop (i + 1) xs))) v)) ∙ h.1,
    )

pub looked_unknown : (p : Val → Truth) (xs : List Val) (i : ℕ) (w : Val) (possible : Option ℕ) → i < length xs → get_or xs i nothing ≡ w → p w ≡ Unknown → Looked p xs possible i → Looked p xs (first_of possible (Some i)) (i + 1)
looked_unknown p xs i w possible lt e f h =
    let v : p (get_or xs i nothing) ≡ Unknown = ap p e ∙ f in (
      sym (position_step (λ w. is_true (p w)) xs i lt ∙ ap (λ t. cond (is_true t) (Some i) (position_from (λ w. is_true (p w)) (i + 1) (drop (i + 1) xs))) v) ∙ h.0,
      first_of_first possible (Some i) (position_from (λ w. is_unknown (p w)) (i + 1) (drop (i + 1) xs)) ∙ ap (first_of possible) (sym (position_step (λ w. is_unknown (p w)) xs i lt ∙ ap (λ t. cond (is_unknown t) (Some i) (position_from (λ w. is_unknown (p w)) (i + 1) (drop (i + 1) xs))) v)) ∙ h.1,
    )

pub partner_found : (p : Val → Truth) (xs : List Val) (i : ℕ) (w : Val) (possible : Option ℕ) → i < length xs → get_or xs i nothing ≡ w → p w ≡ True → Looked p xs possible i → Some (i, True) ≡ partner p xs
partner_found p xs i w possible lt e f h =
    let v : p (get_or xs i nothing) ≡ True = ap p e ∙ f in
    let found : position_from (λ w. is_true (p w)) 0 xs ≡ Some i = sym h.0 ∙ position_step (λ w. is_true (p w)) xs i lt ∙ ap (λ t. cond (is_true t) (Some i) (position_from (λ w. is_true (p w)) (i + 1) (drop (i + 1) xs))) v in
    sym (ap (λ o. chosen o (position_from (λ w. is_unknown (p w)) 0 xs)) found)

pub partner_end : (p : Val → Truth) (xs : List Val) (i : ℕ) (possible : Option ℕ) → drop i xs ≡ [] → Looked p xs possible i → chosen None possible ≡ partner p xs
partner_end p xs i possible e h =
    let t : position_from (λ w. is_true (p w)) 0 xs ≡ None = sym h.0 ∙ ap (position_from (λ w. is_true (p w)) i) e in
    let u : position_from (λ w. is_unknown (p w)) 0 xs ≡ possible = sym h.1 ∙ ap (λ ys. first_of possible (position_from (λ w. is_unknown (p w)) i ys)) e ∙ first_of_none possible in
    sym (ap (λ o. chosen o (position_from (λ w. is_unknown (p w)) 0 xs)) t ∙ ap (chosen None) u)

abbrev place_of : Option (ℕ × Truth) → ℕ
place_of None = 0
place_of (Some found) = found.0

pub chosen_below : (a b : Option ℕ) (n : ℕ) (found : ℕ × Truth) → ((i : ℕ) → a ≡ Some i → i < n) → ((i : ℕ) → b ≡ Some i → i < n) → chosen a b ≡ Some found → found.0 < n
chosen_below (Some i) b n found f g e = subst (λ j. j < n) (ap place_of e) (f i refl)
chosen_below None (Some i) n found f g e = subst (λ j. j < n) (ap place_of e) (g i refl)
chosen_below None None n found f g e = absurd (cc)

pub partner_below : (p : Val → Truth) (xs : List Val) (found : ℕ × Truth) → partner p xs ≡ Some found → found.0 < length xs
partner_below p xs found e =
    chosen_below (position_from (λ w. is_true (p w)) 0 xs) (position_from (λ w. is_unknown (p w)) 0 xs) (length xs) found
    (λ i h. let b = position_below (λ w. is_true (p w)) 0 xs i h in omega arith)
    (λ i h. let b = position_below (λ w. is_unknown (p w)) 0 xs i h in omega arith)
    e

pub counted_here : (e : ℕ → ℕ → Truth) (vs : List Value) (k : ℕ) (v : Value) (left : List Val) → k < length vs → v ≡ get_or vs k v → counted_same e (plain_all (drop k vs)) left ≡ taken (partner (same_of e (plain v)) left) left (counted_same e (plain_all (drop (k + 1) vs)))
counted_here e vs k v left lt is =
    let rest : drop k vs ≡ v ∷ drop (k + 1) vs = rw add-one (drop-cons vs k v lt ∙ ap (λ y. y ∷ drop (suc k) vs) (sym is)) in
    ap (λ ys. counted_same e (plain_all ys) left) rest

pub counted_none : (e : ℕ → ℕ → Truth) (vs : List Value) (k : ℕ) (v : Value) (left : List Val) (all end : Truth) → k < length vs → v ≡ get_or vs k v → partner (same_of e (plain v)) left ≡ None → and_of all (counted_same e (plain_all (drop k vs)) left) ≡ end → False ≡ end
counted_none e vs k v left all end lt is p h =
    sym (and_false all) ∙ sym (ap (and_of all) (counted_here e vs k v left lt is ∙ ap (λ o. taken o left (counted_same e (plain_all (drop (k + 1) vs)))) p)) ∙ h

pub counted_next : (e : ℕ → ℕ → Truth) (vs : List Value) (k : ℕ) (v : Value) (ws : List Val) (is js : List ℕ) (found : ℕ × Truth) (all all' end : Truth) → k < length vs → v ≡ get_or vs k v → partner (same_of e (plain v)) (at_places ws is) ≡ Some found → js ≡ remove is found.0 → all' ≡ and_of all found.1 → and_of all (counted_same e (plain_all (drop k vs)) (at_places ws is)) ≡ end → and_of all' (counted_same e (plain_all (drop (k + 1) vs)) (at_places ws js)) ≡ end
counted_next e vs k v ws is js found all all' end lt is_v p r a h =
    let rest = counted_same e (plain_all (drop (k + 1) vs)) in
    let here : counted_same e (plain_all (drop k vs)) (at_places ws is) ≡ and_of found.1 (rest (remove (at_places ws is) found.0)) = counted_here e vs k v (at_places ws is) lt is_v ∙ ap (λ o. taken o (at_places ws is) rest) p in
    ap (λ x. and_of x (rest (at_places ws js))) a
    ∙ ap (λ l. and_of (and_of all found.1) (rest (at_places ws l))) r
    ∙ ap (λ l. and_of (and_of all found.1) (rest l)) (places_remove ws is found.0)
    ∙ and_assoc all found.1 (rest (remove (at_places ws is) found.0))
    ∙ ap (and_of all) (sym here)
    ∙ h

-- what a comparison of elements gives, by the values that were read of both
pub same_elements_are : (e : ℕ → ℕ → Truth) (end : Truth) (kind how : Comparison) (r s : Rc (Vec Value Global) Global) (x y : Vec Value Global) (xs ys : List Value) → end ≡ compared kind (length r.value.items) (map plain s.value.items) (ordered_same e (plain_all r.value.items)) (counted_same e (plain_all r.value.items)) → how ≡ kind → x ≡ r.value → xs ≡ x.items → y ≡ s.value → ys ≡ y.items → compared how (length xs) (map plain ys) (ordered_same e (plain_all xs)) (counted_same e (plain_all xs)) ≡ end
same_elements_are e end kind how r s x y xs ys is eh ex exs ey eys =
    let f : xs ≡ r.value.items = exs ∙ ap (λ (u : Vec Value Global). u.items) ex in
    let g : ys ≡ s.value.items = eys ∙ ap (λ (u : Vec Value Global). u.items) ey in
    ap (λ h. compared h (length xs) (map plain ys) (ordered_same e (plain_all xs)) (counted_same e (plain_all xs))) eh
    ∙ ap (λ us. compared kind (length us) (map plain ys) (ordered_same e (plain_all us)) (counted_same e (plain_all us))) f
    ∙ ap (λ us. compared kind (length r.value.items) (map plain us) (ordered_same e (plain_all r.value.items)) (counted_same e (plain_all r.value.items))) g
    ∙ sym is

-- what an aggregate is, by the values that were read of it
pub aggregate_is : (v : Value) (k : Kind) (r : Rc (Vec Value Global) Global) (w : Vec Value Global) (xs : List Value) → v ≡ Aggregate k r → w ≡ r.value → xs ≡ w.items → plain v ≡ several k (plain_all xs)
aggregate_is v k r w xs e f g =
    ap plain e ∙ plain_aggregate k r ∙ sym (ap (λ ys. several k (plain_all ys)) (g ∙ ap (λ (u : Vec Value Global). u.items) f))

pub or_true : (a b : Truth) → is_true a ≡ true → a ≡ or_of a b
or_true False b h = absurd (cc)
or_true Unknown b h = absurd (cc)
or_true True b h = refl

pub or_assoc : (a b c : Truth) → or_of (or_of a b) c ≡ or_of a (or_of b c)
or_assoc False b c = refl
or_assoc Unknown False c = refl
or_assoc Unknown Unknown False = refl
or_assoc Unknown Unknown Unknown = refl
or_assoc Unknown Unknown True = refl
or_assoc Unknown True c = refl
or_assoc True b c = refl
