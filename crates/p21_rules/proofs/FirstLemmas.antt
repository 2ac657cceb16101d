-- The first instances that have certain values, where one more instance is seen.
use Rattle.std.proofs.Common.{◌≡◌, ⊎_elim, ℕ, ◌+◌, ◌<◌, ◌≤◌, cond, drop, length, Vec, true, false, List, [], ◌∷◌, ◌++◌, Option, None, Some, refl, sym, ap, subst, ◌∙◌, append_assoc, arith}
use Rattle.std.specs.List.{AllByRecursion}
use Rattle.std.specs.Prelude.{slice_get, nat_eq, nat_lt}
use Rattle.std.specs.Cmp.Lexicographic.{bytes_decides, pointwise}
use Rattle.std.specs.Map.{lookup}
use Rattle.std.proofs.lemmas.Bool.{cases_Bool, cases_eq, false≢true, lt-ltb, le-ltb, ltb-true, ltb-false}
use Rattle.std.proofs.lemmas.List.{append-nil, drop_all}
use Rattle.std.proofs.lemmas.Option.{slice_get_within}
use Rattle.indexmap.specs.IndexMap.{IndexMap, get}
use Rattle.p21_express.specs.Schema.{Schema}
use Rattle.p21_express.specs.WellFormed.{IsWellFormed}
use Rattle.p21_schema.specs.Place.{entity_name}
use Rattle.p21_tree.specs.Sentence.{Instance}
use Rattle.p21_rules.specs.declared.rule.UniqueRule.{UniqueRule}
use Rattle.p21_rules.specs.declared.unique.NotUnique.{NotUnique}
use Rattle.p21_rules.specs.Code.{key_code}
use Rattle.p21_rules.specs.Firsts.{breach_of, key_eq, seen_below, AreAdded, Holds, IsBreach, IsKept}
use Rattle.p21_rules.specs.Parameter.{IsOf}
use Rattle.p21_rules.proofs.CodeLemmas.{key_once}
use Rattle.p21_rules.proofs.ConcernedLemmas.{left_of}
use Rattle.p21_rules.proofs.ValueLemmas.{OneItems, values_of_once}
use Rattle.p21_rules.specs.NotUnique as unique
use Rattle.p21_rules.specs.NotUnique.{AreFaultsAt, AreFaultsBehind, HaveNot, IsFirst, IsFirstOrNone, IsUnder}
use Rattle.p21_rules.specs.Value.{Value}

all_more : {X : Type 0} (P : X → Type 0) (xs : List X) (x : X) → AllByRecursion P xs → P x → AllByRecursion P (xs ++ x ∷ [])
all_more P [] x h p = (p, tt)
all_more P (y ∷ xs) x h p = (h.0, all_more P xs x h.1 p)

module _ (s : Schema) (r : UniqueRule) (vs : List Value) (before : List Instance) (i : Instance) where
  -- the first one stays the first
  pub first_behind : (n : ℕ) → IsFirst s r vs before n → IsFirst s r vs (before ++ i ∷ []) n
  first_behind n h = record {
    front = h.front;
    instance = h.instance;
    back = h.back ++ i ∷ [];
    parts = ap (λ l. l ++ i ∷ []) h.parts ∙ append_assoc h.front (h.instance ∷ h.back) (i ∷ []);
    before = h.before;
    has = h.has;
    named = h.named;
  }

  -- one that does not have the values changes nothing
  pub first_without : ¬ (IsUnder s r i vs) → (found : Option ℕ) → IsFirstOrNone s r vs before found → IsFirstOrNone s r vs (before ++ i ∷ []) found
  first_without other None h = all_more (λ x. ¬ (IsUnder s r x vs)) before i h other
  first_without other (Some n) h = first_behind n h

  -- one that has them is the first where none had them before
  pub first_new : IsUnder s r i vs → HaveNot s r vs before → IsFirst s r vs (before ++ i ∷ []) i.name
  first_new under none = record { front = before; instance = i; back = []; parts = refl; before = none; has = under; named = refl }

-- ---- keys

same_key : {A S : Type 0} (m : IndexMap (Vec ℕ A) ℕ S) (p q : Vec ℕ A) → p.items ≡ q.items → get key_eq m p ≡ get key_eq m q
same_key m p q e = ap (λ (l : List ℕ). lookup (λ k. pointwise nat_eq l k.items) m.entries) e

-- ---- what was seen

pub seen_other : (before : List Instance) (i : Instance) (n k : ℕ) → (k ≡ n → ⊥) → seen_below before i n k ≡ seen_below before i (n + 1) k
seen_other before i n k differ =
    ⊎_elim
    (λ (t : nat_lt k n ≡ true).
    let less = ltb-true k n t in
    let further : nat_lt k (n + 1) ≡ true = lt-ltb k (n + 1) (omega (arith, less)) in
    ap (λ b. cond b (before ++ i ∷ []) before) (t ∙ sym further))
    (λ (f : nat_lt k n ≡ false).
    let least = ltb-false k n f in
    let further : nat_lt k (n + 1) ≡ false = le-ltb k (n + 1) (omega (arith, least, differ)) in
    ap (λ b. cond b (before ++ i ∷ []) before) (f ∙ sym further))
    (cases_Bool (nat_lt k n))

pub seen_not : (before : List Instance) (i : Instance) (n : ℕ) → seen_below before i n n ≡ before
seen_not before i n = ap (λ b. cond b (before ++ i ∷ []) before) (le-ltb n n (omega arith))

pub seen_now : (before : List Instance) (i : Instance) (n k : ℕ) → k < n → seen_below before i n k ≡ before ++ i ∷ []
seen_now before i n k less = ap (λ b. cond b (before ++ i ∷ []) before) (lt-ltb k n less)

-- ---- the values of the instance

module _ (s : Schema) (i : Instance) (number : ℕ) (rule : UniqueRule) (one : OneItems) (w : IsWellFormed s) (us : List Value) (under : IsUnder s rule i us) where
  only : (vs : List Value) → IsUnder s rule i vs → us ≡ vs
  only vs u = values_of_once one s w i _ us vs under.values u.values

  own_key : (key q : List ℕ) → key ≡ key_code number us → (vs : List Value) → q ≡ key_code number vs → IsUnder s rule i vs → key ≡ q
  own_key key q key_is vs at u = key_is ∙ ap (key_code number) (only vs u) ∙ sym at

module _ {A S : Type 0} (s : Schema) (rules : List UniqueRule) (before : List Instance) (i : Instance) (number : ℕ) (rule : UniqueRule) (there : slice_get rules number ≡ Some rule) where
  -- one rule more looked at the instance
  step : (m n : IndexMap (Vec ℕ A) ℕ S) → Holds s rules m (seen_below before i number)
      → ((k : ℕ) (vs : List Value) (q : Vec ℕ A) → (k ≡ number → ⊥) → q.items ≡ key_code k vs → get key_eq n q ≡ get key_eq m q)
      → ((vs : List Value) (q : Vec ℕ A) → q.items ≡ key_code number vs → IsFirstOrNone s rule vs before (get key_eq m q) → IsFirstOrNone s rule vs (before ++ i ∷ []) (get key_eq n q))
      → Holds s rules n (seen_below before i (number + 1))
  step m n held other own k r vs q at key =
      ⊎_elim
      (λ (e : k ≡ number).
      let here : Some r ≡ Some rule = sym at ∙ ap (slice_get rules) e ∙ there in
      let same : r ≡ rule = cc in
      let key' : q.items ≡ key_code number vs = key ∙ ap (λ j. key_code j vs) e in
      let old = subst (λ l. IsFirstOrNone s rule vs l (get key_eq m q)) (seen_not before i number) (held number rule vs q there key') in
      let new = own vs q key' old in
      let now : before ++ i ∷ [] ≡ seen_below before i (number + 1) k = sym (seen_now before i (number + 1) k (omega (arith, e))) in
      subst (λ (x : UniqueRule). IsFirstOrNone s x vs (seen_below before i (number + 1) k) (get key_eq n q)) (sym same) (subst (λ l. IsFirstOrNone s rule vs l (get key_eq n q)) now new))
      (λ (differ : k ≡ number → ⊥).
      let old = held k r vs q at key in
      subst (λ l. IsFirstOrNone s r vs l (get key_eq n q)) (seen_other before i number k differ) (subst (λ o. IsFirstOrNone s r vs (seen_below before i number k) o) (sym (other k vs q differ key)) old))
      (cases_eq k number)

  -- an instance that has no values under the rule changes nothing
  pub breach_without : (m : IndexMap (Vec ℕ A) ℕ S) → ((vs : List Value) → ¬ (IsUnder s rule i vs)) → Holds s rules m (seen_below before i number) → IsBreach s rule before i None × Holds s rules m (seen_below before i (number + 1))
  breach_without m none held = (λ vs u. absurd (none vs u), step m m held (λ k vs q differ key. refl) (λ vs q key h. first_without s rule vs before i (none vs) (get key_eq m q) h))

  module _ (one : OneItems) (w : IsWellFormed s) (us : List Value) (under : IsUnder s rule i us) (key : Vec ℕ A) (key_is : key.items ≡ key_code number us) where
    pub breach_with : (m n : IndexMap (Vec ℕ A) ℕ S) (found : Option ℕ) → IsKept m key i.name found n → Holds s rules m (seen_below before i number) → IsBreach s rule before i found × Holds s rules n (seen_below before i (number + 1))
    breach_with m n (Some first) (was, kept) held =
        let old = subst (λ l. IsFirstOrNone s rule us l (get key_eq m key)) (seen_not before i number) (held number rule us key there key_is) in
        let is : IsFirst s rule us before first = subst (IsFirstOrNone s rule us before) was old in
        ((us, under, is), step m n held (λ k vs q differ at. kept q) (λ vs q at h. subst (IsFirstOrNone s rule vs (before ++ i ∷ [])) (sym (kept q)) (stays vs q at (get key_eq m q) refl h)))
      where
        stays : (vs : List Value) (q : Vec ℕ A) → q.items ≡ key_code number vs → (o : Option ℕ) → get key_eq m q ≡ o → IsFirstOrNone s rule vs before o → IsFirstOrNone s rule vs (before ++ i ∷ []) o
        stays vs q at None e h = first_without s rule vs before i (λ u. let both : Some first ≡ None = sym was ∙ same_key m key q (own_key s i number rule one w us under key.items q.items key_is vs at u) ∙ e in absurd (cc)) None h
        stays vs q at (Some f) e h = first_behind s rule vs before i f h
    breach_with m n None (was, kept) held =
        let old = subst (λ l. IsFirstOrNone s rule us l (get key_eq m key)) (seen_not before i number) (held number rule us key there key_is) in
        let is : HaveNot s rule us before = subst (IsFirstOrNone s rule us before) was old in
        (λ vs u. subst (λ (l : List Value). HaveNot s rule l before) (only s i number rule one w us under vs u) is, step m n held other own)
      where
        differs : (q : Vec ℕ A) → (key.items ≡ q.items → ⊥) → get key_eq n q ≡ get key_eq m q
        differs q apart =
            ⊎_elim
            (λ (t : key_eq key q ≡ true). absurd (apart ((bytes_decides key.items q.items).0 t)))
            (λ (f : key_eq key q ≡ false). kept q ∙ ap (λ b. cond b (Some i.name) (get key_eq m q)) f)
            (cases_Bool (key_eq key q))

        other : (k : ℕ) (vs : List Value) (q : Vec ℕ A) → (k ≡ number → ⊥) → q.items ≡ key_code k vs → get key_eq n q ≡ get key_eq m q
        other k vs q differ at = differs q (λ e. differ (sym ((key_once number k us vs (sym key_is ∙ e ∙ at)).0)))

        own : (vs : List Value) (q : Vec ℕ A) → q.items ≡ key_code number vs → IsFirstOrNone s rule vs before (get key_eq m q) → IsFirstOrNone s rule vs (before ++ i ∷ []) (get key_eq n q)
        own vs q at h =
            ⊎_elim
            (λ (t : key_eq key q ≡ true).
            let e = (bytes_decides key.items q.items).0 t in
            let same = (key_once number number us vs (sym key_is ∙ e ∙ at)).1 in
            let gone : get key_eq m q ≡ None = sym (same_key m key q e) ∙ was in
            let fresh = subst (IsFirstOrNone s rule vs before) gone h in
            let name : get key_eq n q ≡ Some i.name = kept q ∙ ap (λ b. cond b (Some i.name) (get key_eq m q)) t in
            subst (IsFirstOrNone s rule vs (before ++ i ∷ [])) (sym name) (first_new s rule vs before i (subst (IsUnder s rule i) same under) fresh))
            (λ (f : key_eq key q ≡ false).
            let apart : key.items ≡ q.items → ⊥ = λ e. false≢true (sym f ∙ (bytes_decides key.items q.items).1 e) in
            subst (IsFirstOrNone s rule vs (before ++ i ∷ [])) (sym (differs q apart)) (first_without s rule vs before i (λ u. apart (own_key s i number rule one w us under key.items q.items key_is vs at u)) (get key_eq m q) h))
            (cases_Bool (key_eq key q))

-- ---- the faults of an instance

pub breach_more : (s : Schema) (before : List Instance) (i : Instance) (k : ℕ) (r : UniqueRule) (rs : List UniqueRule) (found : Option ℕ) (fs : List NotUnique) → IsBreach s r before i found → AreFaultsAt s before i (k + 1) rs fs → AreFaultsAt s before i k (r ∷ rs) (breach_of i.at k found ++ fs)
breach_more s before i k r rs None fs b more = unique.keeps b more
breach_more s before i k r rs (Some n) fs b more = unique.breaks b more

-- all rules looked at the instance
pub seen_all : {A S : Type 0} (s : Schema) (rules : List UniqueRule) (m : IndexMap (Vec ℕ A) ℕ S) (before : List Instance) (i : Instance) (n : ℕ) → length rules ≤ n → Holds s rules m (seen_below before i n) → Holds s rules m (λ k. before ++ i ∷ [])
seen_all s rules m before i n whole held k r vs q at key =
    let within = slice_get_within rules k r at in
    subst (λ l. IsFirstOrNone s r vs l (get key_eq m q)) (seen_now before i n k (omega (arith, within, whole))) (held k r vs q at key)

-- ---- an instance by the rules below a number

-- the rules below this number looked at the instance; with the faults by the others those that were added are all
pub record IsLookedAt {A S : Type 0} (s : Schema) (rules : List UniqueRule) (before : List Instance) (i : Instance) (firsts : IndexMap (Vec ℕ A) ℕ S) (old new : List NotUnique) (k : ℕ) : Type 0 where
  pub held : Holds s rules firsts (seen_below before i k)
  pub told : (fs : List NotUnique) → AreFaultsAt s before i k (drop k rules) fs → (gs : List NotUnique) × AreFaultsAt s before i 0 rules gs × (new ++ fs ≡ old ++ gs)

module _ {A S : Type 0} (s : Schema) (rules : List UniqueRule) (before : List Instance) (i : Instance) where
  -- none did
  pub looked_none : (firsts : IndexMap (Vec ℕ A) ℕ S) (old : List NotUnique) → Holds s rules firsts (λ k. before) → IsLookedAt s rules before i firsts old old 0
  looked_none firsts old held = record {
    held = λ k r vs q at key.
        let none : before ≡ seen_below before i 0 k = ap (λ b. cond b (before ++ i ∷ []) before) (sym (le-ltb k 0 (omega arith))) in
        subst (λ l. IsFirstOrNone s r vs l (get key_eq firsts q)) none (held k r vs q at key);
    told = λ fs more. (fs, more, refl);
  }

  -- one more that does not concern it
  pub looked_over : (firsts : IndexMap (Vec ℕ A) ℕ S) (old new : List NotUnique) (k : ℕ) (r : UniqueRule) → slice_get rules k ≡ Some r → ¬ (IsOf s i (entity_name s r.entity))
      → IsLookedAt s rules before i firsts old new k → IsLookedAt s rules before i firsts old new (k + 1)
  looked_over firsts old new k r there not looked = record {
    held = (breach_without s rules before i k r there firsts (λ vs u. not u.of) looked.held).1;
    told = λ fs more. looked.told fs (subst (λ (l : List UniqueRule). AreFaultsAt s before i k l fs) (sym (left_of rules k r there)) (unique.keeps (λ vs u. absurd (not u.of)) more));
  }

  -- one more that was asked
  pub looked_more : (was firsts : IndexMap (Vec ℕ A) ℕ S) (old mid new : List NotUnique) (k : ℕ) (r : UniqueRule) (found : Option ℕ) → slice_get rules k ≡ Some r → IsBreach s r before i found → Holds s rules firsts (seen_below before i (k + 1))
      → new ≡ mid ++ breach_of i.at k found → IsLookedAt s rules before i was old mid k → IsLookedAt s rules before i firsts old new (k + 1)
  looked_more was firsts old mid new k r found there breach held added looked = record {
    held = held;
    told = λ fs more.
        let one = breach_more s before i k r (drop (k + 1) rules) found fs breach more in
        let all = looked.told (breach_of i.at k found ++ fs) (subst (λ (l : List UniqueRule). AreFaultsAt s before i k l (breach_of i.at k found ++ fs)) (sym (left_of rules k r there)) one) in
        (all.0, all.1, ap (λ l. l ++ fs) added ∙ append_assoc mid (breach_of i.at k found) fs ∙ all.2);
  }

  -- all did
  pub looked_all : (firsts : IndexMap (Vec ℕ A) ℕ S) (old new : List NotUnique) (k : ℕ) → length rules ≤ k → IsLookedAt s rules before i firsts old new k → AreAdded s rules before i firsts old new
  looked_all firsts old new k whole looked =
      let none : AreFaultsAt s before i k (drop k rules) [] = subst (λ (l : List UniqueRule). AreFaultsAt s before i k l []) (sym (drop_all k rules whole)) unique.none in
      let all = looked.told [] none in
      ((all.0, all.1, sym (append-nil new) ∙ all.2), seen_all s rules firsts before i k whole looked.held)
