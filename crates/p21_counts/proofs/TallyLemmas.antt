-- More records of keywords, counted.
use Rattle.std.proofs.Common.{◌≡◌, ℕ, zero, suc, ◌+◌, ◌-◌, ◌^◌, true, false, cond, List, [], ◌∷◌, ◌++◌, Some, None, min, map, get_or, nat_eq, slice_get, refl, sym, ap, subst, ◌∙◌, arith, Bor, Option, ⊎_elim, ◌<◌, add-zero}
use Rattle.std.specs.List.{AllByRecursion, IsDistinct}
use Rattle.std.specs.Map.{lookup}
use Rattle.std.specs.Cmp.{IsEquivalence, on_equiv}
use Rattle.std.proofs.lemmas.List.Elements.{recursion_from_All}
use Rattle.std.proofs.lemmas.Map.Entries.{hash_map_get_place}
use Rattle.std.proofs.lemmas.Option.{slice_get-get_or}
use Rattle.indexmap.specs.IndexMap.{IndexMap, IsUnique, get, with_value_at}
use Rattle.indexmap.proofs.CallerLemmas.{updates-with_value_at}
use Rattle.std.specs.Option.{option_map_or}
use Rattle.std.specs.Cmp.Lexicographic.{bytes_decides, nat_list_eq_equiv, pointwise}
use Rattle.std.proofs.lemmas.Bool.{cases_Bool}
use Rattle.p21_counts.specs.Counts.{capped, keyword_count}
use Rattle.p21_counts.specs.Tally.{CountsOf, IsRaised, StandsAt, kept, key_eq}

pub kept_value : (n v : ℕ) → kept n ≡ Some v → v ≡ capped n
kept_value zero v e = cc
kept_value (suc n) v e = let is : capped (suc n) ≡ v = cc in sym is

pub some_count : (n v : ℕ) → kept n ≡ Some v → 0 < n
some_count zero v e = cc
some_count (suc n) v e = omega arith

-- keys are equal by their words
pub key_equiv : IsEquivalence key_eq
key_equiv = on_equiv (λ (b : Bor (List ℕ)). b.now) nat_list_eq_equiv

count_push : (k w : List ℕ) (ks : List (List ℕ)) → keyword_count k (ks ++ w ∷ []) ≡ keyword_count k ks + cond (pointwise nat_eq w k) 1 0
count_push k w [] = omega arith
count_push k w (other ∷ ks) = let more = count_push k w ks in omega arith

-- the map has the count of each word by this rule
abbrev pub Keeps : {S : Type 0} → IndexMap (Bor (List ℕ)) ℕ S → (List ℕ → ℕ) → Type 0
Keeps m f = (q : Bor (List ℕ)) → get key_eq m q ≡ kept (f q.now)

-- one word's count, with more added
abbrev pub with_more : (List ℕ → ℕ) → List ℕ → ℕ → List ℕ → ℕ
with_more f w k q = f q + cond (pointwise nat_eq w q) k 0

kept_positive : (n : ℕ) → 0 < n → kept n ≡ Some (capped n)
kept_positive zero h = absurd (omega arith)
kept_positive (suc n) h = refl

sum_capped : (n k c : ℕ) → c ≡ capped k → capped (option_map_or (λ x. x) (kept n) 0 + c) ≡ capped (n + k)
sum_capped zero k c e = omega arith
sum_capped (suc n) k c e = omega arith

kept_sum : (o : Option ℕ) (n k c : ℕ) → o ≡ kept n → c ≡ capped k → 0 < k → Some (capped (option_map_or (λ x. x) o 0 + c)) ≡ kept (n + k)
kept_sum o n k c e f h =
    let positive : 0 < n + k = omega arith in
    ap (λ o. Some (capped (option_map_or (λ x. x) o 0 + c))) e ∙ ap (λ v. Some v) (sum_capped n k c f) ∙ sym (kept_positive (n + k) positive)

-- the map with one keyword's count raised
pub raised_keeps : {S : Type 0} (m n : IndexMap (Bor (List ℕ)) ℕ S) (f : List ℕ → ℕ) (w : Bor (List ℕ)) (k c : ℕ) → Keeps m f → c ≡ capped k → 0 < k → IsRaised m w c n
    → Keeps n (with_more f w.now k)
raised_keeps m n f w k c h e more raised = λ q.
    let v = capped (option_map_or (λ x. x) (get key_eq m w) 0 + c) in
    ⊎_elim
    (λ (same : pointwise nat_eq w.now q.now ≡ true).
    let word : w.now ≡ q.now = (bytes_decides w.now q.now).0 same in
    let sum : with_more f w.now k q.now ≡ f w.now + k = ap (λ b. f q.now + cond b k 0) same ∙ ap (λ u. f u + k) (sym word) in
    raised q ∙ ap (λ b. cond b (Some v) (get key_eq m q)) same ∙ kept_sum (get key_eq m w) (f w.now) k c (h w) e more ∙ sym (ap kept sum))
    (λ (other : pointwise nat_eq w.now q.now ≡ false).
    let sum : with_more f w.now k q.now ≡ f q.now = ap (λ b. f q.now + cond b k 0) other ∙ add-zero (f q.now) in
    raised q ∙ ap (λ b. cond b (Some v) (get key_eq m q)) other ∙ h q ∙ sym (ap kept sum))
    (cases_Bool (pointwise nat_eq w.now q.now))

-- one more record
pub counts_more : {S : Type 0} (m n : IndexMap (Bor (List ℕ)) ℕ S) (w : Bor (List ℕ)) (ks : List (List ℕ)) → CountsOf m ks → IsRaised m w 1 n → CountsOf n (ks ++ w.now ∷ [])
counts_more m n w ks counts raised = λ q.
    let one : 1 ≡ capped 1 = omega arith in
    let positive : 0 < 1 = omega arith in
    raised_keeps m n (λ k. keyword_count k ks) w 1 1 counts one positive raised q ∙ sym (ap kept (count_push q.now w.now ks))

-- how many of the words of these entries are this one, where each entry is of a word of ws
abbrev pub amount : List (List ℕ) → List ℕ → List (Bor (List ℕ) × ℕ) → ℕ
amount ws q [] = 0
amount ws q (e ∷ es) = cond (pointwise nat_eq e.0.now q) (keyword_count e.0.now ws) 0 + amount ws q es

-- an entry of a word of ws has its count
abbrev pub IsEntryOf : List (List ℕ) → Bor (List ℕ) × ℕ → Type 0
IsEntryOf ws e = (e.1 ≡ capped (keyword_count e.0.now ws)) × (0 < keyword_count e.0.now ws)

-- the map has the words of ks, and of those entries that are added so far
pub record IsAdded {S : Type 0} (m : IndexMap (Bor (List ℕ)) ℕ S) (ks ws : List (List ℕ)) (all rest : List (Bor (List ℕ) × ℕ)) : Type 0 where
  pub sums : List ℕ → ℕ
  pub keeps : Keeps m sums
  pub left : (q : List ℕ) → sums q + amount ws q rest ≡ keyword_count q ks + amount ws q all
  pub entries : AllByRecursion (IsEntryOf ws) rest

pub added_none : {S : Type 0} (m : IndexMap (Bor (List ℕ)) ℕ S) (ks ws : List (List ℕ)) (all : List (Bor (List ℕ) × ℕ)) → CountsOf m ks → AllByRecursion (IsEntryOf ws) all → IsAdded m ks ws all all
added_none m ks ws all counts h = record { sums = λ q. keyword_count q ks; keeps = counts; left = λ q. refl; entries = h }

pub added_more : {S : Type 0} (m n : IndexMap (Bor (List ℕ)) ℕ S) (ks ws : List (List ℕ)) (all rest : List (Bor (List ℕ) × ℕ)) (e : Bor (List ℕ) × ℕ)
    → IsAdded m ks ws all (e ∷ rest) → IsRaised m e.0 e.1 n → IsAdded n ks ws all rest
added_more m n ks ws all rest e h raised = record {
  sums = with_more h.sums e.0.now (keyword_count e.0.now ws);
  keeps = raised_keeps m n h.sums e.0 (keyword_count e.0.now ws) e.1 h.keeps h.entries.0.0 h.entries.0.1 raised;
  left = λ q. add_assoc (h.sums q) (cond (pointwise nat_eq e.0.now q) (keyword_count e.0.now ws) 0) (amount ws q rest) ∙ h.left q;
  entries = h.entries.1;
} where
  add_assoc : (a b c : ℕ) → (a + b) + c ≡ a + (b + c)
  add_assoc a b c = omega arith

-- no entry has the word
amount_none : (ws : List (List ℕ)) (k : Bor (List ℕ)) (es : List (Bor (List ℕ) × ℕ)) → AllByRecursion (λ y. key_eq k y ≡ false) (map (λ e. e.0) es) → amount ws k.now es ≡ 0
amount_none ws k [] h = refl
amount_none ws k (e ∷ es) h =
    let differ : pointwise nat_eq e.0.now k.now ≡ false = nat_list_eq_equiv.symm e.0.now k.now ∙ h.0 in
    let none : cond (pointwise nat_eq e.0.now k.now) (keyword_count e.0.now ws) 0 ≡ 0 = ap (λ b. cond b (keyword_count e.0.now ws) 0) differ in
    let more = amount_none ws k es h.1 in
    omega arith

kept_none : (n : ℕ) → kept n ≡ None → n ≡ 0
kept_none zero e = refl
kept_none (suc n) e = cc

-- the entries of a map have all words
amount_all : (ws : List (List ℕ)) (k : Bor (List ℕ)) (es : List (Bor (List ℕ) × ℕ)) → IsDistinct key_eq (map (λ e. e.0) es) → lookup (key_eq k) es ≡ kept (keyword_count k.now ws)
    → amount ws k.now es ≡ keyword_count k.now ws
unfolding IsDistinct
amount_all ws k [] apart found = sym (kept_none (keyword_count k.now ws) (sym found))
amount_all ws k (e ∷ es) apart found =
    ⊎_elim
    (λ (same : pointwise nat_eq k.now e.0.now ≡ true).
    let word : k.now ≡ e.0.now = (bytes_decides k.now e.0.now).0 same in
    let turned : pointwise nat_eq e.0.now k.now ≡ true = nat_list_eq_equiv.symm e.0.now k.now ∙ same in
    let none : amount ws k.now es ≡ 0 = ap (λ w. amount ws w es) word ∙ amount_none ws e.0 es apart.0 in
    let first : cond (pointwise nat_eq e.0.now k.now) (keyword_count e.0.now ws) 0 ≡ keyword_count k.now ws =
    ap (λ b. cond b (keyword_count e.0.now ws) 0) turned ∙ ap (λ w. keyword_count w ws) (sym word) in
    omega arith)
    (λ (other : pointwise nat_eq k.now e.0.now ≡ false).
    let turned : pointwise nat_eq e.0.now k.now ≡ false = nat_list_eq_equiv.symm e.0.now k.now ∙ other in
    let first : cond (pointwise nat_eq e.0.now k.now) (keyword_count e.0.now ws) 0 ≡ 0 = ap (λ b. cond b (keyword_count e.0.now ws) 0) turned in
    let more = amount_all ws k es apart.1 (sym (ap (λ b. cond b (Some e.1) (lookup (key_eq k) es)) other) ∙ found) in
    omega arith)
    (cases_Bool (pointwise nat_eq k.now e.0.now))

count_append : (k : List ℕ) (ks ws : List (List ℕ)) → keyword_count k (ks ++ ws) ≡ keyword_count k ks + keyword_count k ws
count_append k [] ws = omega arith
count_append k (other ∷ ks) ws = let more = count_append k ks ws in omega arith

-- each entry of a map of the words ws is of one of them
pub entries_are : {S : Type 0} (m : IndexMap (Bor (List ℕ)) ℕ S) (ws : List (List ℕ)) → CountsOf m ws → IsUnique key_eq m → AllByRecursion (IsEntryOf ws) m.entries
entries_are m ws counts unique = recursion_from_All (IsEntryOf ws) m.entries (λ i d less.
    let e = get_or m.entries i d in
    let found : get key_eq m e.0 ≡ Some e.1 = hash_map_get_place key_equiv m i e.0 e.1 unique (slice_get-get_or m.entries i d less) in
    (kept_value (keyword_count e.0.now ws) e.1 (sym (counts e.0) ∙ found), some_count (keyword_count e.0.now ws) e.1 (sym (counts e.0) ∙ found)))

-- all entries are added
pub added_all : {S T : Type 0} (m : IndexMap (Bor (List ℕ)) ℕ S) (more : IndexMap (Bor (List ℕ)) ℕ T) (ks ws : List (List ℕ)) → CountsOf more ws → IsUnique key_eq more
    → IsAdded m ks ws more.entries [] → CountsOf m (ks ++ ws)
added_all m more ks ws counts unique h = λ q.
    let both = count_append q.now ks ws in
    let entries = amount_all ws q more.entries unique (counts q) in
    let left : h.sums q.now + 0 ≡ keyword_count q.now ks + amount ws q.now more.entries = h.left q.now in
    let total : keyword_count q.now (ks ++ ws) ≡ h.sums q.now = omega arith in
    h.keeps q ∙ sym (ap kept total)

pub raised_some : (o : Option ℕ) (known count next : ℕ) → Some known ≡ o → next ≡ min (known + count) (2 ^ 64 - 1) → next ≡ capped (option_map_or (λ x. x) o 0 + count)
raised_some o known count next e f = subst (λ o. next ≡ capped (option_map_or (λ x. x) o 0 + count)) e f

pub raised_none : (o : Option ℕ) (count : ℕ) → None ≡ o → count < 2 ^ 64 → count ≡ capped (option_map_or (λ x. x) o 0 + count)
raised_none o count e h =
    let same : count ≡ capped (0 + count) = omega arith in
    subst (λ o. count ≡ capped (option_map_or (λ x. x) o 0 + count)) e same

-- the map with the count of the keyword at a place raised
pub raised_at : {S : Type 0} (m : IndexMap (Bor (List ℕ)) ℕ S) (place known next : ℕ) (k w : Bor (List ℕ)) → IsUnique key_eq m → slice_get m.entries place ≡ Some (k, known) → next ≡ min (known + 1) (2 ^ 64 - 1) → StandsAt m w.now place
    → IsRaised m w 1 (with_value_at m place next)
raised_at m place known next k w unique there e stands = λ q.
    let n = with_value_at m place next in
    let same : k.now ≡ w.now = ap (word_of k) (sym there ∙ stands.1) ∙ stands.2 in
    let found : get key_eq m w ≡ Some known = ap (λ l. get key_eq m (record { ref_ptr = (0, 0); now = l })) (sym same) ∙ hash_map_get_place key_equiv m place k known unique there in
    (updates-with_value_at m place next key_equiv unique k known there).0 q
    ∙ ap (λ l. cond (pointwise nat_eq l q.now) (Some next) (get key_eq m q)) same
    ∙ ap (λ u. cond (key_eq w q) (Some u) (get key_eq m q)) (raised_some (get key_eq m w) known 1 next (sym found) e)
  where
    word_of : Bor (List ℕ) → Option (Bor (List ℕ) × ℕ) → List ℕ
    word_of k None = k.now
    word_of k (Some e) = e.0.now
