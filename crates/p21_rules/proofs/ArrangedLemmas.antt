-- Values have one order by their codes.
use Rattle.std.proofs.Common.{◌≡◌, ◌⊎◌, ⊎_elim, inl, inr, ℕ, zero, suc, add-one, ◌+◌, ◌<◌, Bool, true, false, cond, List, [], ◌∷◌, map, length, get_or, set, Vec, refl, sym, ap, subst, ◌∙◌, arith}
use Rattle.std.specs.Prelude.{nat_eq, IsPermutation, IsSorted}
use Rattle.std.specs.List.{AllByRecursion, swap, sum_by}
use Rattle.std.specs.List.Sorted.{apply_swaps, SwapsInRange}
use Rattle.std.specs.declared.cmp.Ordering.{Ordering}
use Rattle.std.specs.declared.cmp.Ordering.TheVariants.{Less, Equal, Greater}
use Rattle.std.specs.Ordering.{nat_cmp, is_lt, is_eq, ordering_reverse}
use Rattle.std.specs.Cmp.{alike_right}
use Rattle.std.specs.Cmp.Lexicographic.{bytes_decides, pointwise, slice_cmp, nat_list_cmp_total, texts_ties}
use Rattle.std.proofs.lemmas.Bool.{cases_Bool, true≢false}
use Rattle.std.proofs.lemmas.List.{map-set, length-map, get_or-map}
use Rattle.std.proofs.lemmas.List.Edits.{swap_is, length-swap}
use Rattle.std.proofs.lemmas.List.Sums.{sum_by-cons}
use Rattle.std.proofs.lemmas.List.Sorted.{sum_by-IsPermutation}
use Rattle.p21_rules.specs.Arranged.{code_cmp, AreArranged, IsRearranged}
use Rattle.p21_rules.specs.Code.{value_code}
use Rattle.p21_rules.specs.Value.{Value}
use Rattle.p21_rules.proofs.CodeLemmas.{code_once}

-- ---- the order of codes

-- the first comes no later
Le : Value → Value → Type 0
Le u v = (code_cmp u v ≡ Less) ⊎ (code_cmp u v ≡ Equal)

le_by : (u v : Value) (r : Ordering) → code_cmp u v ≡ r → is_lt (ordering_reverse r) ≡ false → Le u v
unfolding Le
le_by u v Less e h = inl e
le_by u v Equal e h = inr e
le_by u v Greater e h = absurd (true≢false h)

le_from : (u v : Value) → is_lt (code_cmp v u) ≡ false → Le u v
le_from u v h = le_by u v (code_cmp u v) refl (ap is_lt (sym (nat_list_cmp_total.antisymm (value_code v) (value_code u))) ∙ h)

same_code : (u v : Value) → code_cmp u v ≡ Equal → u ≡ v
same_code u v e = code_once u v ((bytes_decides (value_code u) (value_code v)).0 (texts_ties (value_code u) (value_code v) ∙ ap is_eq e))

equal_self : (u : Value) → code_cmp u u ≡ Equal
equal_self u = self (code_cmp u u) (nat_list_cmp_total.antisymm (value_code u) (value_code u))
  where
    self : (r : Ordering) → r ≡ ordering_reverse r → r ≡ Equal
    self Less e = absurd (true≢false (ap is_lt e))
    self Equal e = refl
    self Greater e = absurd (true≢false (ap is_lt (sym e)))

le_self : (u : Value) → Le u u
unfolding Le
le_self u = inr (equal_self u)

le_trans : (u v w : Value) → Le u v → Le v w → Le u w
unfolding Le
le_trans u v w (inl a) (inl b) = inl (nat_list_cmp_total.trans (value_code u) (value_code v) (value_code w) a b)
le_trans u v w (inl a) (inr b) = inl (sym (alike_right nat_list_cmp_total (value_code v) (value_code w) (value_code u) b) ∙ a)
le_trans u v w (inr a) (inl b) = inl (nat_list_cmp_total.congr (value_code u) (value_code v) (value_code w) a ∙ b)
le_trans u v w (inr a) (inr b) = inr (nat_list_cmp_total.congr (value_code u) (value_code v) (value_code w) a ∙ b)

le_both : (u v : Value) → Le u v → Le v u → u ≡ v
unfolding Le
le_both u v (inr a) other = same_code u v a
le_both u v (inl a) (inr b) = sym (same_code v u b)
le_both u v (inl a) (inl b) =
    let turned : Less ≡ Greater = sym a ∙ nat_list_cmp_total.antisymm (value_code u) (value_code v) ∙ ap ordering_reverse b in
    absurd (true≢false (ap is_lt turned))

-- ---- values that rise

abbrev Rising : List Value → Type 0
Rising [] = Unit {0}
Rising (v ∷ vs) = AllByRecursion (Le v) vs × Rising vs

above : (v w : Value) (vs : List Value) → Le v w → AllByRecursion (Le w) vs → AllByRecursion (Le v) vs
above v w [] h all = tt
above v w (u ∷ vs) h all = (le_trans v w u h all.0, above v w vs h all.1)

rising : (vs : List Value) → ((k : ℕ) (d : Value) → suc k < length vs → Le (get_or vs k d) (get_or vs (suc k) d)) → Rising vs
rising [] h = tt
rising (v ∷ []) h = (tt, tt)
rising (v ∷ w ∷ vs) h =
    let first : Le v w = h zero w (omega arith) in
    let rest = rising (w ∷ vs) (λ k d l. h (suc k) d (omega arith)) in
    ((first, above v w vs first rest.0), rest)

rising_of : (vs : List Value) → IsSorted code_cmp vs → Rising vs
rising_of vs h = rising vs (λ k d l. le_from (get_or vs k d) (get_or vs (suc k) d) (subst (λ (i : ℕ). is_lt (code_cmp (get_or vs i d) (get_or vs k d)) ≡ false) (add-one k) (h k d (omega arith) (omega arith))))

-- ---- how often a value stands there

hits : Value → Value → ℕ
hits c v = cond (pointwise nat_eq (value_code c) (value_code v)) 1 0

hit : (c v : Value) → pointwise nat_eq (value_code c) (value_code v) ≡ true → hits c v ≡ 1
unfolding hits
hit c v e = ap (λ b. cond b 1 0) e

miss : (c v : Value) → pointwise nat_eq (value_code c) (value_code v) ≡ false → hits c v ≡ 0
unfolding hits
miss c v e = ap (λ b. cond b 1 0) e

hit_self : (c : Value) → hits c c ≡ 1
hit_self c = hit c c ((bytes_decides (value_code c) (value_code c)).1 refl)

found_above : (v c : Value) (vs : List Value) → AllByRecursion (Le v) vs → 0 < sum_by (hits c) vs → Le v c
found_above v c [] all some = absurd (omega arith)
found_above v c (w ∷ ws) all some =
    ⊎_elim
    (λ (e : pointwise nat_eq (value_code c) (value_code w) ≡ true). subst (Le v) (sym (code_once c w ((bytes_decides (value_code c) (value_code w)).0 e))) all.0)
    (λ (e : pointwise nat_eq (value_code c) (value_code w) ≡ false).
    let none = miss c w e in
    let more = sum_by-cons (hits c) w ws in
    found_above v c ws all.1 (omega arith))
    (cases_Bool (pointwise nat_eq (value_code c) (value_code w)))

rising_once : (us ws : List Value) → Rising us → Rising ws → ((c : Value) → sum_by (hits c) us ≡ sum_by (hits c) ws) → us ≡ ws
rising_once [] [] a b same = refl
rising_once [] (w ∷ ws) a b same =
    let one = hit_self w in let all = same w in let more = sum_by-cons (hits w) w ws in absurd (omega arith)
rising_once (u ∷ us) [] a b same =
    let one = hit_self u in let all = same u in let more = sum_by-cons (hits u) u us in absurd (omega arith)
rising_once (u ∷ us) (w ∷ ws) a b same =
    let low : Le w u = (let one = hit_self u in let all = same u in let more = sum_by-cons (hits u) u us in found_above w u (w ∷ ws) (le_self w, b.0) (omega arith)) in
    let high : Le u w = (let one = hit_self w in let all = same w in let more = sum_by-cons (hits w) w ws in found_above u w (u ∷ us) (le_self u, a.0) (omega arith)) in
    let first = le_both u w high low in
    let rest = rising_once us ws a.1 b.1 (λ c. let all = same c in let x = sum_by-cons (hits c) u us in let y = sum_by-cons (hits c) w ws in let z = ap (hits c) first in omega arith) in
    ap (λ v. v ∷ us) first ∙ ap (λ l. w ∷ l) rest

pub arranged_once : (o : Bool) (vs us ws : List Value) → AreArranged o vs us → AreArranged o vs ws → us ≡ ws
arranged_once true vs us ws a b = a ∙ sym b
arranged_once false vs us ws a b = rising_once us ws (rising_of us a.sorted) (rising_of ws b.sorted) (λ c. sum_by-IsPermutation (hits c) vs us a.permutation ∙ sym (sum_by-IsPermutation (hits c) vs ws b.permutation))

-- ---- the same exchanges of images

module _ {X Y : Type 0} (f : X → Y) where
  map_swap : (xs : List X) (i j : ℕ) → i < length xs → j < length xs → map f (swap xs i j) ≡ swap (map f xs) i j
  map_swap [] i j a b = absurd (omega arith)
  map_swap (d ∷ ys) i j a b =
      let xs = d ∷ ys in
      let long = length-map xs f in
      ap (map f) (sym (swap_is xs i j d a b))
      ∙ map-set f (set xs i (get_or xs j d)) j (get_or xs i d)
      ∙ ap (λ l. set l j (f (get_or xs i d))) (map-set f xs i (get_or xs j d))
      ∙ ap (λ y. set (set (map f xs) i y) j (f (get_or xs i d))) (sym (get_or-map f xs j d (f d) b))
      ∙ ap (λ y. set (set (map f xs) i (get_or (map f xs) j (f d))) j y) (sym (get_or-map f xs i d (f d) a))
      ∙ swap_is (map f xs) i j (f d) (omega arith) (omega arith)

  swaps_length : (xs : List X) (ms : List (ℕ × ℕ)) → length (apply_swaps xs ms) ≡ length xs
  swaps_length xs [] = refl
  swaps_length xs (m ∷ ms) = length-swap (apply_swaps xs ms) m.0 m.1 ∙ swaps_length xs ms

  map_swaps : (xs : List X) (ms : List (ℕ × ℕ)) → SwapsInRange (length xs) ms → map f (apply_swaps xs ms) ≡ apply_swaps (map f xs) ms
  map_swaps xs [] h = refl
  map_swaps xs (m ∷ ms) h =
      let long = swaps_length xs ms in
      let first = h.0 in
      let second = h.1 in
      map_swap (apply_swaps xs ms) m.0 m.1 (omega arith) (omega arith) ∙ ap (λ l. swap l m.0 m.1) (map_swaps xs ms h.2)

  -- what a permutation of images is an image of
  pub lifted : (xs : List X) (ds : List Y) → IsPermutation (map f xs) ds → (us : List X) × IsPermutation xs us × (ds ≡ map f us)
  lifted xs ds p =
      let below = subst (λ (n : ℕ). SwapsInRange n p.moves) (length-map xs f) p.below in
      (apply_swaps xs p.moves, record { moves = p.moves; below = below; is = refl }, p.is ∙ sym (map_swaps xs p.moves below))

  pub images : (xs ys : List X) → IsPermutation xs ys → IsPermutation (map f xs) (map f ys)
  images xs ys p = record { moves = p.moves; below = subst (λ (n : ℕ). SwapsInRange n p.moves) (sym (length-map xs f)) p.below; is = ap (map f) p.is ∙ map_swaps xs p.moves p.below }

-- sorted codes are those of the same values in the order of their codes
pub rearranged : {A : Type 0} (vs : List Value) (codes sorted : List (Vec ℕ A)) → map (λ c. c.items) codes ≡ map value_code vs → IsPermutation codes sorted → IsSorted (λ a b. slice_cmp nat_cmp a.items b.items) sorted
    → (us : List Value) × IsRearranged vs us × (map (λ c. c.items) sorted ≡ map value_code us)
rearranged {A} vs codes sorted coded moved order =
    let items : Vec ℕ A → List ℕ = λ c. c.items in
    let up = lifted value_code vs (map items sorted) (subst (λ l. IsPermutation l (map items sorted)) coded (images items codes sorted moved)) in
    (up.0, record { permutation = up.1; sorted = ordered up.0 sorted (sym up.2) order }, up.2)
  where
    code_at : (us : List Value) (ds : List (Vec ℕ A)) (k : ℕ) (d : Value) (e : Vec ℕ A) → k < length us → k < length ds → map value_code us ≡ map (λ c. c.items) ds → value_code (get_or us k d) ≡ (get_or ds k e).items
    code_at us ds k d e l m same =
        sym (get_or-map value_code us k d (value_code d) l) ∙ ap (λ (x : List (List ℕ)). get_or x k (value_code d)) same ∙ get_or-map (λ (c : Vec ℕ A). c.items) ds k e (value_code d) m

    ordered : (us : List Value) (ds : List (Vec ℕ A)) → map value_code us ≡ map (λ c. c.items) ds → IsSorted (λ a b. slice_cmp nat_cmp a.items b.items) ds → IsSorted code_cmp us
    ordered us [] same h k d z l =
        let long = length-map us value_code in
        let none = ap length same in
        absurd (omega arith)
    ordered us (x ∷ ds) same h k d z l =
        let long : length us ≡ length (x ∷ ds) = sym (length-map us value_code) ∙ ap length same ∙ length-map (x ∷ ds) (λ (c : Vec ℕ A). c.items) in
        let high = code_at us (x ∷ ds) (k + 1) d x l (omega arith) same in
        let low = code_at us (x ∷ ds) k d x (omega arith) (omega arith) same in
        ap (λ (c : List ℕ). is_lt (slice_cmp nat_cmp c (value_code (get_or us k d)))) high
        ∙ ap (λ (c : List ℕ). is_lt (slice_cmp nat_cmp (get_or (x ∷ ds) (k + 1) x).items c)) low
        ∙ h k x z (omega arith)
