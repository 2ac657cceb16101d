-- From what is counted to the report text.
use Rattle.std.proofs.Common.{◌≡◌, ℕ, zero, suc, ◌+◌, ◌-◌, ◌^◌, ◌<◌, ◌↔◌, Bool, true, false, cond, List, [], ◌∷◌, ◌++◌, Some, min, map, length, get_or, refl, sym, ap, subst, ◌∙◌, arith, Bor, append_assoc, append-nil}
use Rattle.std.specs.Prelude.{Contains, slice_get, codes, decimal, OnOk, Result, Ok, Err}
use Rattle.std.specs.Int.{from_bool}
use Rattle.p21_tree.specs.declared.instances.Record.{Record}
use Rattle.p21_tree.specs.Views.{plain_record}
use Rattle.p21_tree.specs.Grammar.{Entry}
use Rattle.std.specs.List.{flat_map, AllByRecursion, IsDistinct, dedup_from}
use Rattle.std.specs.List.Sorted.{IsSorted, IsStrictlySortedBy}
use Rattle.indexmap.specs.IndexMap.{IndexMap, get, keys, IsUnique}
use Rattle.std.specs.Cmp.Lexicographic.{slice_cmp, bytes_decides, lists_ties, nat_list_cmp_total}
use Rattle.std.specs.Cmp.{IsTotalOrder, on_total, unsigned_ties}
use Rattle.std.specs.Ordering.{nat_cmp}
use Rattle.std.specs.declared.cmp.Ordering.TheVariants.{Less}
use Rattle.std.proofs.lemmas.Map.Entries.{place_from_lookup, hash_map_get_place}
use Rattle.std.proofs.lemmas.List.Kept.{IsStrictlySortedBy-dedup}
use Rattle.p21_tree.specs.Sentence.{Instance}
use Rattle.p21_counts.specs.Counts.{capped, complex_count, count_line, keyword_count, keywords_of, record_references, reference_count, AreIncreasing, IsCounts}
use Rattle.p21_counts.specs.Tally.{CountsOf, IsTallyOf, entry_lines, kept, key_cmp, key_eq, tally_lines}
use Rattle.p21_counts.specs.declared.tally.Tally.{Tally}
use Rattle.p21_counts.proofs.TallyLemmas.{IsEntryOf, entries_are, key_equiv, some_count}

complex_push : (is : List Instance) (i : Instance) → complex_count (is ++ i ∷ []) ≡ complex_count is + cond i.complex 1 0
complex_push [] i = omega arith
complex_push (x ∷ is) i = let more = complex_push is i in omega arith

references_push : (is : List Instance) (i : Instance) → reference_count (is ++ i ∷ []) ≡ reference_count is + record_references i.records
references_push [] i = omega arith
references_push (x ∷ is) i = let more = references_push is i in omega arith

keywords_push : (is : List Instance) (i : Instance) → keywords_of (is ++ i ∷ []) ≡ keywords_of is ++ map (λ r. r.keyword) i.records
keywords_push [] i = append-nil (map (λ r. r.keyword) i.records)
keywords_push (x ∷ is) i = ap (λ l. map (λ r. r.keyword) x.records ++ l) (keywords_push is i) ∙ sym (append_assoc (map (λ r. r.keyword) x.records) (keywords_of is) (map (λ r. r.keyword) i.records))

capped_sum : (sum term next part : ℕ) (total : ℕ) → total ≡ capped sum → part ≡ capped term → next ≡ min (total + part) (2 ^ 64 - 1) → next ≡ capped (sum + term)
capped_sum sum term next part total e f g = omega arith

-- one more instance
pub tally_more : (t u : Tally) (is : List Instance) (i : Instance) (one part : ℕ) → IsTallyOf t is → one ≡ cond i.complex 1 0 → u.complex ≡ min (t.complex + one) (2 ^ 64 - 1)
    → part ≡ capped (record_references i.records) → u.references ≡ min (t.references + part) (2 ^ 64 - 1) → CountsOf u.keywords (keywords_of is ++ map (λ r. r.keyword) i.records) → IsTallyOf u (is ++ i ∷ [])
tally_more t u is i one part h b e p f k = record {
  complex = capped_sum (complex_count is) (cond i.complex 1 0) u.complex one t.complex h.complex (b ∙ small i.complex) e ∙ ap capped (sym (complex_push is i));
  references = capped_sum (reference_count is) (record_references i.records) u.references part t.references h.references p f ∙ ap capped (sym (references_push is i));
  keywords = subst (CountsOf u.keywords) (sym (keywords_push is i)) k;
} where
  small : (c : Bool) → cond c 1 0 ≡ capped (cond c 1 0)
  small true = omega arith
  small false = omega arith

-- the words of the map's entries
words : List (Bor (List ℕ) × ℕ) → List (List ℕ)
words [] = []
words (e ∷ es) = e.0.now ∷ words es

-- a line is the same with the number and with the capped one
line_capped : (word : List ℕ) (n : ℕ) → count_line word (capped n) ≡ count_line word n
line_capped word n = let same : capped (capped n) ≡ capped n = omega arith in ap (λ v. word ++ 32 ∷ (decimal v ++ 10 ∷ [])) same

lines_are : (es : List (Bor (List ℕ) × ℕ)) (ks : List (List ℕ)) → AllByRecursion (IsEntryOf ks) es
    → entry_lines es ≡ flat_map (λ k. count_line k (keyword_count k ks)) (words es)
unfolding words
lines_are [] ks h = refl
lines_are (e ∷ es) ks h =
    let first : count_line e.0.now e.1 ≡ count_line e.0.now (keyword_count e.0.now ks) = ap (count_line e.0.now) h.0.0 ∙ line_capped e.0.now (keyword_count e.0.now ks) in
    ap (λ l. l ++ entry_lines es) first ∙ ap (λ l. count_line e.0.now (keyword_count e.0.now ks) ++ l) (lines_are es ks h.1)

pub on_ok : {E : Type 0} {T : Type 0} (r : Result T E) (P Q : Type 0) → (P → Q) → OnOk r P → OnOk r Q
on_ok (Ok x) P Q f h = f h
on_ok (Err e) P Q f h = h

pub bool_number : (b : Bool) (n : ℕ) → n ≡ from_bool b → n ≡ cond b 1 0
bool_number true n e = e
bool_number false n e = e

pub plain_words : (rs : List Record) → map (λ r. r.keyword.now) rs ≡ map (λ (e : Entry). e.keyword) (map plain_record rs)
plain_words [] = refl
plain_words (r ∷ rs) = ap (λ l. r.keyword.now ∷ l) (plain_words rs)

key_total : IsTotalOrder key_cmp
key_total = on_total (λ (b : Bor (List ℕ)). b.now) nat_list_cmp_total

-- keys that differ are all kept where equal neighbours are dropped
all_kept : (x : Bor (List ℕ)) (xs : List (Bor (List ℕ))) → IsDistinct key_eq (x ∷ xs) → dedup_from key_eq x xs ≡ x ∷ xs
unfolding IsDistinct
all_kept x [] apart = refl
all_kept x (y ∷ ys) apart =
    let differ : key_eq y x ≡ false = key_equiv.symm y x ∙ apart.0.0 in
    ap (λ b. cond b (dedup_from key_eq x ys) (x ∷ dedup_from key_eq y ys)) differ ∙ ap (λ l. x ∷ l) (all_kept y ys apart.1)

-- keys that are sorted and differ increase
keys_increase : (xs : List (Bor (List ℕ))) → IsSorted key_cmp xs → IsDistinct key_eq xs → IsStrictlySortedBy key_cmp xs
unfolding IsStrictlySortedBy
keys_increase [] sorted apart = tt
keys_increase (x ∷ xs) sorted apart =
    subst (IsStrictlySortedBy key_cmp) (all_kept x xs apart) (IsStrictlySortedBy-dedup key_total (λ a b. lists_ties nat_cmp unsigned_ties a.now b.now) (x ∷ xs) sorted)

-- the words increase with the keys
words_above : (k : Bor (List ℕ)) (es : List (Bor (List ℕ) × ℕ)) → AllByRecursion (λ y. key_cmp k y ≡ Less) (map (λ e. e.0) es) → AllByRecursion (λ w. slice_cmp nat_cmp k.now w ≡ Less) (words es)
unfolding words
words_above k [] h = tt
words_above k (e ∷ es) h = (h.0, words_above k es h.1)

words_increase : (es : List (Bor (List ℕ) × ℕ)) → IsStrictlySortedBy key_cmp (map (λ e. e.0) es) → AreIncreasing (words es)
unfolding words IsStrictlySortedBy
words_increase [] h = tt
words_increase (e ∷ es) h = (words_above e.0 es h.0, words_increase es h.1)

-- a word at a place is that of the entry there
word_at : (es : List (Bor (List ℕ) × ℕ)) (k : ℕ) (d : List ℕ) → k < length (words es) → (e : Bor (List ℕ) × ℕ) × (slice_get es k ≡ Some e) × (get_or (words es) k d ≡ e.0.now)
unfolding words
word_at [] k d h = absurd (omega arith)
word_at (e ∷ es) zero d h = (e, refl, refl)
word_at (e ∷ es) (suc k) d h = word_at es k d (omega arith)

place_word : (es : List (Bor (List ℕ) × ℕ)) (i : ℕ) (e : Bor (List ℕ) × ℕ) (d : List ℕ) → slice_get es i ≡ Some e → (i < length (words es)) × (get_or (words es) i d ≡ e.0.now)
unfolding words
place_word [] i e d h = cc
place_word (x ∷ es) zero e d h = let same : x ≡ e = cc in (omega arith, ap (λ (y : Bor (List ℕ) × ℕ). y.0.now) same)
place_word (x ∷ es) (suc i) e d h = let more = place_word es i e d h in (omega arith, more.1)

-- a key that is this word
key_of : List ℕ → Bor (List ℕ)
key_of w = record { ref_ptr = (0, 0); now = w }

count_some : (n : ℕ) → 0 < n → (v : ℕ) × (kept n ≡ Some v)
count_some zero h = absurd (omega arith)
count_some (suc n) h = (capped (suc n), refl)

-- a word that the map keeps is counted, and one that is counted is kept
each_word : {S : Type 0} (m : IndexMap (Bor (List ℕ)) ℕ S) (ks : List (List ℕ)) → CountsOf m ks → IsUnique key_eq m → (k : List ℕ) → Contains (words m.entries) k ↔ (0 < keyword_count k ks)
unfolding key_of
each_word m ks counts unique k = (forth, back) where
  forth : Contains (words m.entries) k → 0 < keyword_count k ks
  forth h =
      let at = word_at m.entries h.0 k h.1 in
      let e = at.0 in
      let found : get key_eq m e.0 ≡ Some e.1 = hash_map_get_place key_equiv m h.0 e.0 e.1 unique at.1 in
      let same : k ≡ e.0.now = sym h.2 ∙ at.2 in
      subst (λ w. 0 < keyword_count w ks) (sym same) (some_count (keyword_count e.0.now ks) e.1 (sym (counts e.0) ∙ found))

  back : 0 < keyword_count k ks → Contains (words m.entries) k
  back h =
      let kept_is = count_some (keyword_count k ks) h in
      let place = place_from_lookup (key_eq (key_of k)) m.entries kept_is.0 (counts (key_of k) ∙ kept_is.1) in
      let same : k ≡ place.1.now = (bytes_decides k place.1.now).0 place.3 in
      let at = place_word m.entries place.0 (place.1, kept_is.0) k place.2 in
      (place.0, at.0, at.1 ∙ sym same)

-- the report text of what is counted
pub report_text : (t : Tally) (is : List Instance) (n : ℕ) (text : List ℕ) → IsTallyOf t is → IsSorted key_cmp (keys t.keywords) → IsUnique key_eq t.keywords → n ≡ length is
    → text ≡ tally_lines n t → IsCounts is text
report_text t is n text h sorted unique e spelled =
    let ks = keywords_of is in
    let a = count_line (codes "instances") n in
    let b = count_line (codes "complex") t.complex in
    let c = count_line (codes "references") t.references in
    let d = entry_lines t.keywords.entries in
    let lines : d ≡ flat_map (λ k. count_line k (keyword_count k ks)) (words t.keywords.entries) = lines_are t.keywords.entries ks (entries_are t.keywords ks h.keywords unique) in
    record {
      keywords = words t.keywords.entries;
      increasing = words_increase t.keywords.entries (keys_increase (keys t.keywords) sorted unique);
      each = each_word t.keywords ks h.keywords unique;
      spelled =
          spelled ∙ append_assoc (a ++ b) c d ∙ append_assoc a b (c ++ d)
          ∙ ap (λ l. l ++ (b ++ (c ++ d))) (ap (count_line (codes "instances")) e)
          ∙ ap (λ l. count_line (codes "instances") (length is) ++ (l ++ (c ++ d))) (ap (count_line (codes "complex")) h.complex ∙ line_capped (codes "complex") (complex_count is))
          ∙ ap (λ l. count_line (codes "instances") (length is) ++ (count_line (codes "complex") (complex_count is) ++ (l ++ d))) (ap (count_line (codes "references")) h.references ∙ line_capped (codes "references") (reference_count is))
          ∙ ap (λ l. count_line (codes "instances") (length is) ++ (count_line (codes "complex") (complex_count is) ++ (count_line (codes "references") (reference_count is) ++ l))) lines;
    }
