-- The members of objects by their keys.
use Rattle.std.proofs.Common.{◌≡◌, ◌≢◌, ◌⊎◌, ℕ, Bool, true, false, List, [], ◌∷◌, ◌++◌, Option, Some, None, map, refl, sym, ap, subst, ◌∙◌, inl, inr, ⊎_elim, arith}
use Rattle.std.specs.Prelude.{if◌then◌else◌}
use Rattle.std.specs.List.{AllByRecursion}
use Rattle.std.specs.Char.{to_ascii_lowercase}
use Rattle.std.specs.Str.{bytes_eq}
use Rattle.std.proofs.lemmas.Slice.Eq.{bytes_eq-Decides}
use Rattle.json.specs.Token.{Token}
use Rattle.p21_tree.specs.Tree.{Tree, Trees, nil, cons, absent, derived, int, real, str, enumeration, binary, reference, items, typed}
use Rattle.p21_tree.specs.Sentence.{Instance}
use Rattle.p21_express.specs.Schema.{Schema}
use Rattle.p21_express.specs.WellFormed.{IsIn, AreDistinct, IsWellFormed, Origin}
use Rattle.p21_graph.specs.MemberLaws.{from_map}
use Rattle.p21_check.specs.Attributes.{AreAttributes}
use Rattle.p21_check.specs.Attributes as attributes
use Rattle.p21_json.specs.Instances.{member_parts, members_parts}
use Rattle.p21_json.specs.Keys.{HasNames, full_name, has_name, key_of, keys_behind}
use Rattle.p21_json.specs.Laws.{HasDistinctKeys, WritesMembers}
use Rattle.p21_json.specs.Members.{Member, or_else, under, tokens_of, IsMember, AreMembers}
use Rattle.p21_json.specs.Parts.{Part, key, AreTokensOf, value_parts}
use Rattle.p21_json.specs.Spelled.{IsSpelled}
use Rattle.p21_json.specs.Where.{attribute}
use Rattle.p21_json.proofs.InstanceLemmas.{member_value}
use Rattle.p21_json.proofs.KeyLemmas.{IsNamed, key_is, distinct_keys, distinct_own, distinct_row, own_all_named, row_all_named}
use Rattle.p21_json.proofs.NameLemmas.{IsPart, name_parts, same_letters, same_or_not, same_text}

-- ---- the keys of a record differ

parts_then : (a b : List ℕ) → AllByRecursion IsPart a → AllByRecursion IsPart b → AllByRecursion IsPart (a ++ b)
parts_then [] b h k = k
parts_then (x ∷ a) b h k = (h.0, parts_then a b h.1 k)

pub key_parts : (before : List Origin) (o : Origin) → IsNamed o → AllByRecursion IsPart (key_of before o)
key_parts before o n =
    ⊎_elim
    (λ (x : (has_name before o.name ≡ true) × (key_of before o ≡ full_name o)). subst (AllByRecursion IsPart) (sym x.1) (parts_then o.entity (46 ∷ o.name) (name_parts o.entity n.0) (inl (omega arith), name_parts o.name n.1)))
    (λ (x : (has_name before o.name ≡ false) × (key_of before o ≡ o.name)). subst (AllByRecursion IsPart) (sym x.1) (name_parts o.name n.1))
    (key_is before o)

all_key_parts : (before os : List Origin) → AllByRecursion IsNamed os → AllByRecursion (λ (k : List ℕ). AllByRecursion IsPart k) (keys_behind before os)
all_key_parts before [] n = tt
all_key_parts before (o ∷ os) n = (key_parts before o n.0, all_key_parts (before ++ o ∷ []) os n.1)

parts_of : (ks : List (List ℕ)) (k : List ℕ) → AllByRecursion (λ (k : List ℕ). AllByRecursion IsPart k) ks → IsIn ks k → AllByRecursion IsPart k
parts_of [] k h i = absurd i
parts_of (x ∷ ks) k h (inl e) = subst (AllByRecursion IsPart) e h.0
parts_of (x ∷ ks) k h (inr i) = parts_of ks k h.1 i

distinct_lower : (ks : List (List ℕ)) → AllByRecursion (λ (k : List ℕ). AllByRecursion IsPart k) ks → AreDistinct ks → AreDistinct (map (map to_ascii_lowercase) ks)
distinct_lower [] h d = tt
distinct_lower (k ∷ ks) h d = (
  λ i.
      let r = from_map (map to_ascii_lowercase) ks (map to_ascii_lowercase k) i in
      d.0 (subst (IsIn ks) (same_letters r.0 k (parts_of ks r.0 h.1 r.1.0) h.0 r.1.1) r.1.0),
  distinct_lower ks h.1 d.1,
)

-- the attributes of a record differ, and are called by names
pub attributes_are : (s : Schema) → IsWellFormed s → HasNames s → {c : Bool} {n : List ℕ} {os : List Origin} → AreAttributes s c n os → AreDistinct os × AllByRecursion IsNamed os
attributes_are s wf h (attributes.simple r) = (distinct_row s r, row_all_named s h r)
attributes_are s wf h (attributes.complex e i m q) = (subst (λ (l : List Origin). AreDistinct l) q (distinct_own s wf e i), subst (AllByRecursion IsNamed) q (own_all_named s h e i))

pub keys_differ : (s : Schema) → IsWellFormed s → HasNames s → HasDistinctKeys s
keys_differ s wf h c n os a = let both = attributes_are s wf h a in distinct_lower (keys_behind [] os) (all_key_parts [] os both.1) (distinct_keys [] os both.1 both.0)

-- ---- members of parameters

is_star : (t : Tree) → (t ≡ derived) ⊎ (t ≢ derived)
is_star derived = inl refl
is_star t = inr (λ e. cc)

-- what a member of a parameter that is not derived has
abbrev pub HasValue : Schema → Instance → List ℕ → Origin → Tree → List Member → Type 0
HasValue s i k o t ms = (m : Member) × IsSpelled m.key k × AreTokensOf s (value_parts (attribute i o) t) m.value × (ms ≡ m ∷ [])

pub has_value : (s : Schema) (i : Instance) (k : List ℕ) (o : Origin) (t : Tree) (ms : List Member) → t ≢ derived → IsMember s i k o t ms → HasValue s i k o t ms
has_value s i k o derived ms n h = absurd (n refl)
has_value s i k o absent ms n h = h
has_value s i k o (int v) ms n h = h
has_value s i k o (real v) ms n h = h
has_value s i k o (str v) ms n h = h
has_value s i k o (enumeration v) ms n h = h
has_value s i k o (binary v) ms n h = h
has_value s i k o (reference q) ms n h = h
has_value s i k o (items ts) ms n h = h
has_value s i k o (typed q t) ms n h = h

is_member : (s : Schema) (i : Instance) (k : List ℕ) (o : Origin) (t : Tree) (ms : List Member) → t ≢ derived → HasValue s i k o t ms → IsMember s i k o t ms
is_member s i k o derived ms n h = absurd (n refl)
is_member s i k o absent ms n h = h
is_member s i k o (int v) ms n h = h
is_member s i k o (real v) ms n h = h
is_member s i k o (str v) ms n h = h
is_member s i k o (enumeration v) ms n h = h
is_member s i k o (binary v) ms n h = h
is_member s i k o (reference q) ms n h = h
is_member s i k o (items ts) ms n h = h
is_member s i k o (typed q t) ms n h = h

pub no_member : (s : Schema) (i : Instance) (k : List ℕ) (o : Origin) (t : Tree) (ms : List Member) → t ≡ derived → IsMember s i k o t ms → ms ≡ []
no_member s i k o t ms e h = subst (λ (x : Tree). IsMember s i k o x ms) e h

-- ---- the tokens of members

split : (s : Schema) (ps qs : List Part) (tokens : List Token) → AreTokensOf s (ps ++ qs) tokens → (a : List Token) × (b : List Token) × AreTokensOf s ps a × AreTokensOf s qs b × (tokens ≡ a ++ b)
split s [] qs tokens h = ([], tokens, tt, h, refl)
split s (p ∷ ps) qs [] h = absurd h
split s (p ∷ ps) qs (u ∷ tokens) h = let more = split s ps qs tokens h.1 in (u ∷ more.0, more.1, (h.0, more.2), more.3, ap (λ (l : List Token). u ∷ l) more.4)

abbrev AreWritten : Schema → Instance → List Origin → List Origin → Trees → List Token → Type 0
AreWritten s i before os ts tokens = (ms : List Member) × AreMembers s i before os ts ms × (tokens ≡ tokens_of ms)

member_written : (s : Schema) (i : Instance) (before : List Origin) (o : Origin) (os : List Origin) (t : Tree) (ts : Trees) (tokens : List Token) → t ≢ derived → ((rest : List Token) → AreTokensOf s (members_parts i (before ++ o ∷ []) os ts) rest → AreWritten s i (before ++ o ∷ []) os ts rest) → AreTokensOf s ((key (key_of before o) ∷ value_parts (attribute i o) t) ++ members_parts i (before ++ o ∷ []) os ts) tokens → AreWritten s i before (o ∷ os) (cons t ts) tokens
member_written s i before o os t ts [] n f h = absurd h
member_written s i before o os t ts (u ∷ tokens) n f h =
    let parted = split s (value_parts (attribute i o) t) (members_parts i (before ++ o ∷ []) os ts) tokens h.1 in
    let more = f parted.1 parted.3 in
    let m : Member = record { key = h.0.0; value = parted.0 } in
    let one = is_member s i (key_of before o) o t (m ∷ []) n (m, h.0.1, parted.2, refl) in
    let all : u ∷ tokens ≡ tokens_of (m ∷ more.0) = cc (h.0.2, parted.4, more.2) in
    (m ∷ more.0, (m ∷ [], more.0, one, more.1, refl), all)

written : (s : Schema) (i : Instance) (before os : List Origin) (ts : Trees) (tokens : List Token) → AreTokensOf s (members_parts i before os ts) tokens → AreWritten s i before os ts tokens
written s i before [] ts [] h = ([], refl, refl)
written s i before [] ts (u ∷ tokens) h = absurd h
written s i before (o ∷ os) nil [] h = ([], refl, refl)
written s i before (o ∷ os) nil (u ∷ tokens) h = absurd h
written s i before (o ∷ os) (cons t ts) tokens h =
    let others = members_parts i (before ++ o ∷ []) os ts in
    ⊎_elim
    (λ (e : t ≡ derived).
    let more = written s i (before ++ o ∷ []) os ts tokens (subst (λ (x : Tree). AreTokensOf s (member_parts i (key_of before o) o x ++ others) tokens) e h) in
    (more.0, ([], more.0, subst (λ (x : Tree). IsMember s i (key_of before o) o x []) (sym e) refl, more.1, refl), more.2))
    (λ (n : t ≢ derived). member_written s i before o os t ts tokens n (λ rest k. written s i (before ++ o ∷ []) os ts rest k) (subst (λ (l : List Part). AreTokensOf s (l ++ others) tokens) (member_value i (key_of before o) o t n) h))
    (is_star t)

pub members_written : (s : Schema) → WritesMembers s
members_written s i os ts tokens h = written s i [] os ts tokens h

-- ---- what is under a key

not_same : (a b : List ℕ) → ¬ (a ≡ b) → bytes_eq a b ≡ false
not_same a b n = by (bytes_eq a b) refl where
  by : (t : Bool) → bytes_eq a b ≡ t → bytes_eq a b ≡ false
  by true e = absurd (n ((bytes_eq-Decides a b).0 e))
  by false e = e

-- nothing is under a key that is none of the members'
pub none_under : (s : Schema) (i : Instance) (before os : List Origin) (ts : Trees) (ms : List Member) (text k : List ℕ) → IsSpelled text k → AllByRecursion IsPart k → AllByRecursion IsNamed os → ¬ (IsIn (keys_behind before os) k) → AreMembers s i before os ts ms → under text ms ≡ None
none_under s i before [] ts ms text k h p n out x = ap (under text) x
none_under s i before (o ∷ os) nil ms text k h p n out x = ap (under text) x
none_under s i before (o ∷ os) (cons t ts) ms text k h p n out x =
    let rest = none_under s i (before ++ o ∷ []) os ts x.1 text k h p n.1 (λ j. out (inr j)) x.3 in
    ⊎_elim
    (λ (e : t ≡ derived).
    let none = no_member s i (key_of before o) o t x.0 e x.2 in
    ap (under text) (x.4 ∙ ap (λ (l : List Member). l ++ x.1) none) ∙ rest)
    (λ (m : t ≢ derived).
    let one = has_value s i (key_of before o) o t x.0 m x.2 in
    let other : bytes_eq one.0.key text ≡ false = not_same one.0.key text (λ q. out (inl (same_text text (key_of before o) k (key_parts before o n.0) p (subst (λ (l : List ℕ). IsSpelled l (key_of before o)) q one.1) h))) in
    let all : ms ≡ one.0 ∷ x.1 = x.4 ∙ ap (λ (l : List Member). l ++ x.1) one.3 in
    ap (under text) all ∙ ap (λ (b : Bool). or_else (under text x.1) (if b then Some one.0.value else None)) other ∙ ap (λ (v : Option (List Token)). or_else v None) rest)
    (is_star t)

same_some : {a b : List Token} → Some a ≡ Some b → a ≡ b
same_some e = cc

no_some : {a : List Token} → Some a ≡ None → ⊥
no_some e = cc

-- members with the same under the key of the first have one key and one value
pub same_head : (m n : Member) (ms ns : List Member) → under m.key ms ≡ None → under m.key ns ≡ None → under m.key (m ∷ ms) ≡ under m.key (n ∷ ns) → (n.key ≡ m.key) × (m.value ≡ n.value)
same_head m n ms ns h k e =
    let mine : under m.key (m ∷ ms) ≡ Some m.value = ap (λ (v : Option (List Token)). or_else v (if bytes_eq m.key m.key then Some m.value else None)) h ∙ ap (λ (b : Bool). if b then Some m.value else None) ((bytes_eq-Decides m.key m.key).1 refl) in
    let yours : under m.key (n ∷ ns) ≡ (if bytes_eq n.key m.key then Some n.value else None) = ap (λ (v : Option (List Token)). or_else v (if bytes_eq n.key m.key then Some n.value else None)) k in
    by (bytes_eq n.key m.key) refl (sym mine ∙ e ∙ yours)
  where
    by : (b : Bool) → bytes_eq n.key m.key ≡ b → Some m.value ≡ (if b then Some n.value else None) → (n.key ≡ m.key) × (m.value ≡ n.value)
    by true q f = ((bytes_eq-Decides n.key m.key).0 q, same_some f)
    by false q f = absurd (no_some f)

or_none : (v : Option (List Token)) → or_else v None ≡ v
or_none None = refl
or_none (Some v) = refl

under_other : (m : Member) (ms : List Member) (k : List ℕ) → ¬ (m.key ≡ k) → under k (m ∷ ms) ≡ under k ms
under_other m ms k n = ap (λ (b : Bool). or_else (under k ms) (if b then Some m.value else None)) (not_same m.key k n) ∙ or_none (under k ms)

-- and those after have the same under each key
pub same_tail : (m n : Member) (ms ns : List Member) → under m.key ms ≡ None → under m.key ns ≡ None → n.key ≡ m.key → ((k : List ℕ) → under k (m ∷ ms) ≡ under k (n ∷ ns)) → (k : List ℕ) → under k ms ≡ under k ns
same_tail m n ms ns h g q f k =
    ⊎_elim
    (λ (e : m.key ≡ k). subst (λ (l : List ℕ). under l ms ≡ under l ns) e (h ∙ sym g))
    (λ (d : ¬ (m.key ≡ k)). sym (under_other m ms k d) ∙ f k ∙ under_other n ns k (λ e. d (sym q ∙ e)))
    (same_or_not m.key k)
