-- Lists of vertices, and ways along edges.
use Rattle.std.proofs.Common.{◌≡◌, ℕ, zero, suc, ◌+◌, ◌<◌, ◌≤◌, ◌⊎◌, inl, inr, ⊎_elim, List, [], ◌∷◌, ◌++◌, Bool, true, false, ◌||◌, nat_eq, reverse, length, get_or, take, Some, None, slice_get, refl, sym, ◌∙◌}
use Rattle.std.proofs.lemmas.Bool.{cases_lt}
use Rattle.std.proofs.lemmas.Grind.{take_at_read}
use Rattle.std.proofs.lemmas.List.{length-map, take_all, reverse-append}
use Rattle.std.proofs.lemmas.Option.{slice_get_within, get_or_from_slice_get, slice_get-get_or}
use Rattle.std.specs.Bool.{Decides, MatchBool}
use Rattle.std.specs.List.{list_any}
use Rattle.std.proofs.lemmas.Bool.Decides.{Decides-eqb}
use Rattle.std.specs.Prelude.{Vec}
use Rattle.std.specs.declared.alloc.Global.{Global}
use Rattle.p21_express.specs.Graph.{lists}
use Rattle.p21_express.specs.WellFormed.{IsIn, Leads}

pub in_front : {X : Type 0} (xs ys : List X) (x : X) → IsIn xs x → IsIn (xs ++ ys) x
in_front [] ys x h = absurd h
in_front (z ∷ xs) ys x h = ⊎_elim (λ (e : z ≡ x). inl e) (λ (i : IsIn xs x). inr (in_front xs ys x i)) h

pub in_back : {X : Type 0} (xs ys : List X) (x : X) → IsIn ys x → IsIn (xs ++ ys) x
in_back [] ys x h = h
in_back (z ∷ xs) ys x h = inr (in_back xs ys x h)

pub in_either : {X : Type 0} (xs ys : List X) (x : X) → IsIn (xs ++ ys) x → IsIn xs x ⊎ IsIn ys x
in_either [] ys x h = inr h
in_either (z ∷ xs) ys x h = ⊎_elim (λ (e : z ≡ x). inl (inl e)) (λ (i : IsIn (xs ++ ys) x). ⊎_elim (λ (l : IsIn xs x). inl (inr l)) (λ (r : IsIn ys x). inr r) (in_either xs ys x i)) h

pub get_in : (ns : List ℕ) (k n : ℕ) → slice_get ns k ≡ Some n → IsIn ns n
get_in [] k n e = absurd (cc)
get_in (m ∷ ns) zero n e = inl (let s : Some m ≡ Some n = e in cc)
get_in (m ∷ ns) (suc k) n e = inr (get_in ns k n e)

pub one_more : (ns : List ℕ) (taken to w : ℕ) → slice_get ns taken ≡ Some to → IsIn (take (taken + 1) ns) w → IsIn (take taken ns) w ⊎ (w ≡ to)
one_more ns taken to w e h =
    let lt : taken < length ns = slice_get_within ns taken to e in
    let g : get_or ns taken 0 ≡ to = get_or_from_slice_get ns taken to 0 e in
    let t : take (taken + 1) ns ≡ take taken ns ++ to ∷ [] = rw (sym g) ((take_at_read ns taken 0 lt).1) in
    ⊎_elim (λ (i : IsIn (take taken ns) w). inl i) (λ (i : IsIn (to ∷ []) w). ⊎_elim (λ (s : to ≡ w). inr (sym s)) (λ (f : ⊥). absurd f) i) (in_either (take taken ns) (to ∷ []) w (rw t at h))

pub none_more : (ns : List ℕ) (taken w : ℕ) → slice_get ns taken ≡ None → IsIn ns w → IsIn (take taken ns) w
none_more ns taken w e h = ⊎_elim (λ (lt : taken < length ns). let s : slice_get ns taken ≡ Some (get_or ns taken 0) = slice_get-get_or ns taken 0 lt in absurd (cc)) (λ (le : length ns ≤ taken). rw (take_all taken ns le) h) (cases_lt taken (length ns))

module _ {X : Type 0} (Step : X → X → Type 0) where
  pub joined : {a b c : X} → Leads Step a b → Leads Step b c → Leads Step a c
  joined (Leads.one s) r = Leads.more s r
  joined (Leads.more s l) r = Leads.more s (joined l r)

  pub leads_on : {a b c : X} → Leads Step a b → Step b c → Leads Step a c
  leads_on l s = joined l (Leads.one s)

pub in_reverse : {X : Type 0} (xs : List X) (x : X) → IsIn xs x → IsIn (reverse xs) x
in_reverse [] x h = absurd h
in_reverse (y ∷ xs) x h = rw (reverse-append (y ∷ []) xs) (⊎_elim (λ (e : y ≡ x). in_back (reverse xs) (y ∷ []) x (inl e)) (λ (i : IsIn xs x). in_front (reverse xs) (y ∷ []) x (in_reverse xs x i)) h)

pub lists_length : (graph : List (Vec ℕ Global)) → length (lists graph) ≡ length graph
lists_length graph = length-map graph (λ (v : Vec ℕ Global). v.items)

pub item_in : (ns : List ℕ) (i : ℕ) → i < length ns → IsIn ns (get_or ns i 0)
item_in ns i lt = get_in ns i (get_or ns i 0) (slice_get-get_or ns i 0 lt)

any_first : (test : ℕ → Bool) (n x : ℕ) (xs : List ℕ) (t r : Bool) → Decides (test x) (x ≡ n) → test x ≡ t → MatchBool r (IsIn xs n) (¬ (IsIn xs n)) → MatchBool (t || r) (IsIn (x ∷ xs) n) (¬ (IsIn (x ∷ xs) n))
any_first test n x xs true r says e h = inl (says.0 e)
any_first test n x xs false true says e h = inr h
any_first test n x xs false false says e h = λ k. ⊎_elim (λ (q : x ≡ n). let a : test x ≡ true = says.1 q in absurd (let f : true ≡ false = sym a ∙ e in cc)) (λ (i : IsIn xs n). h i) k

any_from : (test : ℕ → Bool) (n : ℕ) → ((y : ℕ) → Decides (test y) (y ≡ n)) → (xs : List ℕ) → MatchBool (list_any test xs) (IsIn xs n) (¬ (IsIn xs n))
any_from test n says [] = λ h. h
any_from test n says (x ∷ xs) = any_first test n x xs (test x) (list_any test xs) (says x) refl (any_from test n says xs)

-- whether a number is in a list
pub any_in : (xs : List ℕ) (n : ℕ) (b : Bool) → b ≡ list_any (λ y. nat_eq y n) xs → MatchBool b (IsIn xs n) (¬ (IsIn xs n))
any_in xs n b e = rw e (any_from (λ (y : ℕ). nat_eq y n) n (λ y. Decides-eqb y n) xs)
