-- The first reference at fault in a parameter.
use Rattle.std.proofs.Common.{◌≡◌, ◌↔◌, ℕ, ◌+◌, ◌<◌, inl, inr, Bool, true, false, List, Option, Ok, Err, refl, sym, ap, subst, ◌∙◌, arith, add-one, length, get_or, drop, suc, ◌≤◌, drop-cons, Vec, Box, Bor, Global}
use Rattle.std.specs.Prelude.{Result}
use Rattle.std.proofs.lemmas.List.{drop_all}
use Rattle.p21_express.specs.Schema.{Schema, Expr}
use Rattle.p21_tree.specs.Tree.{Tree, Trees, reference, items, typed, nil, cons}
use Rattle.p21_tree.specs.Tree as tree
use Rattle.p21_tree.specs.Sentence.{Instance}
use Rattle.p21_tree.specs.declared.params.Param.{Param, fold-roll-Param}
use Rattle.p21_tree.specs.declared.params.Param.TheOpen as level
use Rattle.p21_tree.specs.declared.params.Param.TheViews as seen
use Rattle.p21_tree.specs.Plain.{plain, plain_all, plain_level}
use Rattle.p21_check.specs.References.{Reference, Refers, RefersAmong, name_count, names_count}
use Rattle.p21_check.specs.References as refers
use Rattle.p21_check.specs.declared.wanted.Wanted.{Wanted}
use Rattle.p21_check.specs.declared.wanted.Wanted.TheVariants as asked
use Rattle.p21_check.specs.declared.walk.FirstBad.{FirstBad}
use Rattle.p21_check.specs.Wanted.{Asks, AsksAmong, IsAskedOfElements, IsAskedInside}
use Rattle.p21_check.specs.Wanted as asks
use Rattle.p21_check.specs.Walk.{FindsBad, IsAnswered, EachIsAnswered, chosen}

-- a reference stands within its parameter

mutual
  pub refers_below : {s : Schema} {x : Expr} {p : Tree} {k : ℕ} {r : Reference} → Refers s x p k r → k < name_count p
  refers_below (refers.entity h) = omega arith
  refers_below (refers.select h) = omega arith
  refers_below (refers.typed_as h reach r) = refers_below r
  refers_below (refers.defined t d m u r) = refers_below r
  refers_below (refers.element r) = among_below r

  among_below : {s : Schema} {x : Expr} {ts : Trees} {k : ℕ} {r : Reference} → RefersAmong s x ts k r → k < names_count ts
  among_below (refers.here r) = let h = refers_below r in omega arith
  among_below (refers.behind r) = let h = among_below r in omega arith

pub asks_below : (s : Schema) (w : Wanted) (p : Tree) (k : ℕ) (r : Reference) → Asks s w p k r → k < name_count p
asks_below s asked.Nothing p k r a = elim a [ ]
asks_below s (asked.Entity e) p k r a = rw (a.name, a.first) (omega arith)
asks_below s (asked.Select t) p k r (inl a) = rw (a.name, a.first) (omega arith)
asks_below s (asked.Select t) p k r (inr a) = rw a.typed_ (refers_below a.refers)
asks_below s (asked.Elements e) p k r a = rw a.listed (among_below a.refers)

-- what is asked in other words
pub same_finds : (s : Schema) (named : ℕ → Option Instance) (A B C D : ℕ → Reference → Type 0) (found : Result (Unit {0}) FirstBad) →
    ((k : ℕ) (r : Reference) → C k r ↔ A k r) → ((k : ℕ) (r : Reference) → D k r ↔ B k r) → FindsBad s named A B found → FindsBad s named C D found
same_finds s named A B C D (Ok u) e f h = ((λ k r a. h.0 k r ((e k r).0 a)), (λ k r a. h.1 k r ((f k r).0 a)))
same_finds s named A B C D (Err b) e f h = record {
  place = h.place;
  reference = h.reference;
  asked_ = choose b.second h.asked_;
  bad_ = h.bad_;
  before = λ j r less a. h.before j r less ((e j r).0 a);
  before_other = λ j r less a. h.before_other j r less ((f j r).0 a);
} where
  choose : (second : Bool) → chosen second A B h.place h.reference → chosen second C D h.place h.reference
  choose false a = (e h.place h.reference).1 a
  choose true a = (f h.place h.reference).1 a

-- an element without a fault is passed
behind_answered : (s : Schema) (named : ℕ → Option Instance) (w : Wanted) (t : Tree) (ts : Trees) → EachIsAnswered s named (Asks s w t) → EachIsAnswered s named (AsksAmong s w ts) → EachIsAnswered s named (AsksAmong s w (cons t ts))
behind_answered s named w t ts one others k r (asks.here a) = one k r a
behind_answered s named w t ts one others _ r (asks.behind {place = k} a) = others k r a

pub passed : (s : Schema) (named : ℕ → Option Instance) (v w : Wanted) (t : Tree) (ts : Trees) (found : Result (Unit {0}) FirstBad) →
    EachIsAnswered s named (Asks s v t) → EachIsAnswered s named (Asks s w t) → FindsBad s named (AsksAmong s v ts) (AsksAmong s w ts) found → FindsBad s named (AsksAmong s v (cons t ts)) (AsksAmong s w (cons t ts)) found
passed s named v w t ts (Ok u) one other h = (behind_answered s named v t ts one h.0, behind_answered s named w t ts other h.1)
passed s named v w t ts (Err b) one other h = record {
  place = name_count t + h.place;
  reference = h.reference;
  asked_ = choose b.second h.asked_;
  bad_ = h.bad_;
  before = before v one h.before;
  before_other = before w other h.before_other;
} where
  choose : (second : Bool) → chosen second (AsksAmong s v ts) (AsksAmong s w ts) h.place h.reference → chosen second (AsksAmong s v (cons t ts)) (AsksAmong s w (cons t ts)) (name_count t + h.place) h.reference
  choose false a = asks.behind a
  choose true a = asks.behind a

  before : (u : Wanted) → EachIsAnswered s named (Asks s u t) → ((j : ℕ) (r : Reference) → j < h.place → AsksAmong s u ts j r → IsAnswered s named r) → (j : ℕ) (r : Reference) → j < name_count t + h.place → AsksAmong s u (cons t ts) j r → IsAnswered s named r
  before u here rest j r less (asks.here a) = here j r a
  before u here rest _ r less (asks.behind {place = k} a) = rest k r (omega arith) a

-- an element has the first fault
pub stopped : (s : Schema) (named : ℕ → Option Instance) (v w : Wanted) (t : Tree) (ts : Trees) (f : FirstBad) →
    FindsBad s named (Asks s v t) (Asks s w t) (Err f) → FindsBad s named (AsksAmong s v (cons t ts)) (AsksAmong s w (cons t ts)) (Err f)
stopped s named v w t ts f h = record {
  place = h.place;
  reference = h.reference;
  asked_ = choose f.second h.asked_;
  bad_ = h.bad_;
  before = before v h.before;
  before_other = before w h.before_other;
} where
  choose : (second : Bool) → chosen second (Asks s v t) (Asks s w t) h.place h.reference → chosen second (AsksAmong s v (cons t ts)) (AsksAmong s w (cons t ts)) h.place h.reference
  choose false a = asks.here a
  choose true a = asks.here a

  below : (second : Bool) → chosen second (Asks s v t) (Asks s w t) h.place h.reference → h.place < name_count t
  below false a = asks_below s v t h.place h.reference a
  below true a = asks_below s w t h.place h.reference a

  before : (u : Wanted) → ((j : ℕ) (r : Reference) → j < h.place → Asks s u t j r → IsAnswered s named r) → (j : ℕ) (r : Reference) → j < h.place → AsksAmong s u (cons t ts) j r → IsAnswered s named r
  before u rest j r less (asks.here a) = rest j r less a
  before u rest _ r less (asks.behind {place = k} a) = let b = below f.second h.asked_ in absurd (omega arith)

pub empty_among : {s : Schema} {w : Wanted} {ts : Trees} {k : ℕ} {r : Reference} → AsksAmong s w ts k r → ts ≡ nil → ⊥
empty_among (asks.here a) e = cc
empty_among (asks.behind a) e = cc

pub none_among : (s : Schema) (named : ℕ → Option Instance) (w : Wanted) → EachIsAnswered s named (AsksAmong s w nil)
none_among s named w k r a = absurd (empty_among a refl)

no_elements : {s : Schema} {w : Wanted} {ts : Trees} {k : ℕ} {r : Reference} → w ≡ asked.Nothing → AsksAmong s w ts k r → ⊥
no_elements {s = s} {k = k} {r = r} e (asks.here {t = t} a) = subst (λ (u : Wanted). Asks s u t k r) e a
no_elements e (asks.behind a) = no_elements e a

-- where nothing is asked of elements, all are passed
pub nothing_among : (s : Schema) (named : ℕ → Option Instance) (w : Wanted) (ts : Trees) → w ≡ asked.Nothing → EachIsAnswered s named (AsksAmong s w ts)
nothing_among s named w ts e k r a = absurd (no_elements e a)

-- a parameter that is no name, list or typed one
abbrev pub IsLeaf : Tree → Type 0
IsLeaf (reference n) = ⊥
IsLeaf (items ts) = ⊥
IsLeaf (typed k t) = ⊥
IsLeaf _ = Unit {0}

-- the elements of a list, from one on

pub drop_here : (xs : List Param) (i : ℕ) (d : Param) → i < length xs → d ≡ get_or xs i d → plain_all (drop i xs) ≡ cons (plain d) (plain_all (drop (i + 1) xs))
drop_here xs i d h e = ap plain_all (drop-cons xs i d h) ∙ (ap (λ (x : Param). cons (plain x) (plain_all (drop (suc i) xs))) (sym e) ∙ ap (λ (j : ℕ). cons (plain d) (plain_all (drop j xs))) (sym (add-one i)))

pub drop_none : (xs : List Param) (i : ℕ) → length xs ≤ i → plain_all (drop i xs) ≡ nil
drop_none xs i h = ap plain_all (drop_all i xs h)

-- what is found in the elements is found in the list
pub listed : (s : Schema) (named : ℕ → Option Instance) (v w of_v of_w : Wanted) (p : Param) (vec : Vec Param Global) (ps : List Param) (found : Result (Unit {0}) FirstBad) →
    p ≡ seen.Items vec → ps ≡ vec.items → IsAskedOfElements s v of_v → IsAskedOfElements s w of_w →
    FindsBad s named (AsksAmong s of_v (plain_all ps)) (AsksAmong s of_w (plain_all ps)) found → FindsBad s named (Asks s v (plain p)) (Asks s w (plain p)) found
listed s named v w of_v of_w p vec ps found e f a b h =
    let same : plain p ≡ tree.items (plain_all ps) = ap plain e ∙ (ap plain (sym (seen.rolls-Items vec)) ∙ (fold-roll-Param Tree plain_level (level.Items vec) ∙ ap (λ (qs : List Param). tree.items (plain_all qs)) (sym f))) in
    subst (λ (q : Tree). FindsBad s named (Asks s v q) (Asks s w q) found) (sym same)
    (same_finds s named (AsksAmong s of_v (plain_all ps)) (AsksAmong s of_w (plain_all ps)) (Asks s v (tree.items (plain_all ps))) (Asks s w (tree.items (plain_all ps))) found (a.same (plain_all ps)) (b.same (plain_all ps)) h)

pub inside_typed : (s : Schema) (named : ℕ → Option Instance) (v w in_v in_w : Wanted) (p : Param) (k : Bor (List ℕ)) (inner : Box Param Global) (found : Result (Unit {0}) FirstBad) →
    p ≡ seen.Typed k inner → IsAskedInside s v in_v k.now → IsAskedInside s w in_w k.now →
    FindsBad s named (Asks s in_v (plain inner.value)) (Asks s in_w (plain inner.value)) found → FindsBad s named (Asks s v (plain p)) (Asks s w (plain p)) found
inside_typed s named v w in_v in_w p k inner found e a b h =
    let q : Tree = plain inner.value in
    let same : plain p ≡ typed k.now q = ap plain e ∙ (ap plain (sym (seen.rolls-Typed k inner)) ∙ fold-roll-Param Tree plain_level (level.Typed k inner)) in
    subst (λ (z : Tree). FindsBad s named (Asks s v z) (Asks s w z) found) (sym same)
    (same_finds s named (Asks s in_v q) (Asks s in_w q) (Asks s v (typed k.now q)) (Asks s w (typed k.now q)) found (a.same q) (b.same q) h)

-- all elements are passed but those from one on
pub go_on : (s : Schema) (named : ℕ → Option Instance) (v w : Wanted) (xs : List Param) (i : ℕ) (d : Param) (found : Result (Unit {0}) FirstBad) → i < length xs → d ≡ get_or xs i d →
    EachIsAnswered s named (Asks s v (plain d)) × EachIsAnswered s named (Asks s w (plain d)) →
    FindsBad s named (AsksAmong s v (plain_all (drop (i + 1) xs))) (AsksAmong s w (plain_all (drop (i + 1) xs))) found →
    FindsBad s named (AsksAmong s v (plain_all (drop i xs))) (AsksAmong s w (plain_all (drop i xs))) found
go_on s named v w xs i d found h e a f =
    subst (λ (ts : Trees). FindsBad s named (AsksAmong s v ts) (AsksAmong s w ts) found) (sym (drop_here xs i d h e))
    (passed s named v w (plain d) (plain_all (drop (i + 1) xs)) found a.0 a.1 f)

-- the element has the fault
pub stop : (s : Schema) (named : ℕ → Option Instance) (v w : Wanted) (xs : List Param) (i : ℕ) (d : Param) (f : FirstBad) → i < length xs → d ≡ get_or xs i d →
    FindsBad s named (Asks s v (plain d)) (Asks s w (plain d)) (Err f) →
    FindsBad s named (AsksAmong s v (plain_all (drop i xs))) (AsksAmong s w (plain_all (drop i xs))) (Err f)
stop s named v w xs i d f h e b =
    subst (λ (ts : Trees). FindsBad s named (AsksAmong s v ts) (AsksAmong s w ts) (Err f)) (sym (drop_here xs i d h e))
    (stopped s named v w (plain d) (plain_all (drop (i + 1) xs)) f b)

-- no element is left
pub at_end : (s : Schema) (named : ℕ → Option Instance) (v w : Wanted) (xs : List Param) (i : ℕ) → length xs ≤ i →
    FindsBad s named (AsksAmong s v (plain_all (drop i xs))) (AsksAmong s w (plain_all (drop i xs))) (Ok tt)
at_end s named v w xs i h =
    subst (λ (ts : Trees). FindsBad s named (AsksAmong s v ts) (AsksAmong s w ts) (Ok tt)) (sym (drop_none xs i h)) (none_among s named v, none_among s named w)
