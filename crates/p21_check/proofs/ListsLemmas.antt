-- Where types have lists, as the code keeps it.
use Rattle.std.proofs.Common.{◌≡◌, ◌↔◌, ◌⊎◌, ⊎_elim, ℕ, ◌+◌, ◌<◌, ◌≤◌, inl, inr, Bool, true, false, List, Some, length, get_or, drop, refl, sym, ap, subst, ◌∙◌, Vec, Box, Bor, Global}
use Rattle.std.specs.Prelude.{option_map, map, slice_get}
use Rattle.std.proofs.lemmas.Bool.{false≢true}
use Rattle.p21_express.specs.Schema.{Schema, Entity, Expr, Aggregate, Underlying, aggregate, items, select, plain, named}
use Rattle.p21_express.specs.WellFormed.{IsWellFormed}
use Rattle.p21_tree.specs.Tree.{Tree, Trees, nil, cons, typed}
use Rattle.p21_tree.specs.Tree as tree
use Rattle.p21_tree.specs.Plain as plainly
use Rattle.p21_tree.specs.declared.params.Param.{Param, Param-F, out-Param, roll-Param, fold-roll-Param, roll-out-Param}
use Rattle.p21_tree.specs.declared.params.Param.TheOpen as level
use Rattle.p21_tree.specs.declared.params.Param.TheViews as seen
use Rattle.p21_schema.specs.declared.ids.EntityId.{EntityId}
use Rattle.p21_schema.specs.declared.ids.TypeId.{TypeId}
use Rattle.p21_schema.specs.declared.resolved.Resolved.{Resolved}
use Rattle.p21_schema.specs.declared.resolved.Resolved.TheVariants as resolved
use Rattle.p21_schema.specs.declared.resolved.ResolvedExpr.{ResolvedExpr}
use Rattle.p21_schema.specs.declared.resolved.ResolvedExpr.TheVariants.{Named}
use Rattle.p21_schema.specs.declared.resolved.Target.{Target}
use Rattle.p21_schema.specs.declared.resolved.Target.TheVariants as target
use Rattle.p21_schema.specs.Place.{no_entity, IsTypeOf, type_name}
use Rattle.p21_schema.specs.Select.{ReachesType}
use Rattle.p21_schema.specs.Under.{StandsUnder, IsResolvedIn}
use Rattle.p21_check.specs.declared.lists.Lists.{Lists}
use Rattle.p21_check.specs.declared.lists.Lists.TheVariants as lists
use Rattle.p21_check.specs.Repeats.{Repeats, RepeatsAmong, is_of_unique, HasTwice, names_among}
use Rattle.p21_check.specs.Repeats as repeats
use Rattle.p21_check.specs.Lists.{AreListsOf, AreListsOfElements, AreListsInside, IsRepeatingTyped, IsRepeatingList, RepeatsHere, RepeatsBy, RepeatsAmongBy, is_unique}
use Rattle.p21_check.specs.Lists as by
use Rattle.p21_check.specs.RepeatedNames.{names_of}
use Rattle.p21_check.specs.Wanted.{by_names}
use Rattle.p21_check.proofs.ExprLemmas.{mapped, target_names}
use Rattle.p21_check.proofs.RefersLemmas.{select_end, end_of}
use Rattle.p21_check.proofs.RepeatsLemmas.{by_entity, by_select, by_aggregate, here_repeats, plain_end, items_end, HasNoList}
use Rattle.p21_check.proofs.WalkLemmas.{drop_here, drop_none}
use Rattle.p21_check.proofs.WantedLemmas.{named_at}

-- a type that has no lists
pub no_lists : (s : Schema) (x : Expr) → ((p : Tree) → ¬ (Repeats s x p)) → AreListsOf s x lists.Nowhere
no_lists s x h = record { known = tt; same = λ p. (h p, λ a. absurd a) }

-- an aggregate
pub aggregate_lists : (s : Schema) (x : Expr) (a : Aggregate) (e : Bor ResolvedExpr) (v : ResolvedExpr) → e.now ≡ v → option_map (aggregate a) (by_names s v) ≡ Some x → AreListsOf s x (lists.Here (is_of_unique a) e)
aggregate_lists s x a e v same f =
    let found = mapped (aggregate a) (by_names s v) x f in
    let is : by_names s e.now ≡ Some found.0 = ap (by_names s) same ∙ found.1 in
    record {
      known = (found.0, is);
      same = λ p. ((λ h. there found.0 is found.2 p h), (λ l. back found.0 is found.2 p l));
    } where
      there : (y : Expr) → by_names s e.now ≡ Some y → aggregate a y ≡ x → (p : Tree) → Repeats s x p → IsRepeatingList s (is_of_unique a) e.now p
      there y is g p h =
          let listed = by_aggregate a y h (sym g) in
          record { element = y; elements = listed.0; is = is; listed = listed.1; repeats = listed.2 }

      back : (y : Expr) → by_names s e.now ≡ Some y → aggregate a y ≡ x → (p : Tree) → IsRepeatingList s (is_of_unique a) e.now p → Repeats s x p
      back y is g p l =
          let z = l.element in
          let i : by_names s e.now ≡ Some z = l.is in
          let equal : z ≡ y = cc in
          let whole : Repeats s (aggregate a y) (tree.items l.elements) = here_repeats s a y l.elements (subst (λ (w : Expr). RepeatsHere s (is_of_unique a) w l.elements) equal l.repeats) in
          subst (λ (q : Tree). Repeats s x q) (sym l.listed) (subst (λ (w : Expr). Repeats s w (tree.items l.elements)) g whole)

-- names

pub entity_lists : (s : Schema) → IsWellFormed s → (v : ResolvedExpr) (t : Target) (e : EntityId) (x : Expr) → v ≡ Named t → t ≡ target.Entity e → by_names s v ≡ Some x → AreListsOf s x lists.Nowhere
entity_lists s w v t e x f g is =
    let found = mapped named (slice_get (map (λ (z : Entity). z.name) s.entities) e.index) x (sym (target_names s (target.Entity e)) ∙ ap (λ z. by_names s (Named z)) (sym g) ∙ ap (by_names s) (sym f) ∙ is) in
    let at = named_at (λ (z : Entity). z.name) s.entities e.index found.0 no_entity found.1 in
    subst (λ z. AreListsOf s z lists.Nowhere) found.2 (no_lists s (named found.0) (by_entity s w found.0 at.2))

pub same_lists : (s : Schema) (x y : Expr) (l : Lists) → ((p : Tree) → Repeats s y p ↔ Repeats s x p) → AreListsOf s x l → AreListsOf s y l
same_lists s x y l h a = record {
  known = a.known;
  same = λ p. ((λ f. (a.same p).0 ((h p).0 f)), (λ f. (h p).1 ((a.same p).1 f)));
}

pub items_under : (s : Schema) → IsWellFormed s → (n : List ℕ) (d : Resolved) (v : _) → d ≡ resolved.Items v → (u : Underlying) → StandsUnder s n u → IsResolvedIn s d u → AreListsOf s (named n) lists.Nowhere
items_under s w n d v e (items ns) h r = no_lists s (named n) (items_end s w n ns h)
items_under s w n d v e (select ns) h r = absurd (subst (λ (x : Resolved). IsResolvedIn s x (select ns)) e r)
items_under s w n d v e (plain x) h r = absurd (subst (λ (x' : Resolved). IsResolvedIn s x' (plain x)) e r)

pub select_under : (s : Schema) → IsWellFormed s → (t : TypeId) → IsTypeOf s t → (d : Resolved) (v : _) → d ≡ resolved.Select v → (u : Underlying) → StandsUnder s (type_name s t) u → IsResolvedIn s d u → AreListsOf s (named (type_name s t)) (lists.InTyped t)
select_under s w t known d v e (items ns) h r = absurd (subst (λ (x : Resolved). IsResolvedIn s x (items ns)) e r)
select_under s w t known d v e (select ns) h r =
    let is = select_end s w (type_name s t) (select ns) h tt in
    record { known = (known, is); same = by_select s w (type_name s t) is }
select_under s w t known d v e (plain x) h r = absurd (subst (λ (x' : Resolved). IsResolvedIn s x' (plain x)) e r)

pub plain_under : (s : Schema) → IsWellFormed s → (n : List ℕ) (d : Resolved) (v : ResolvedExpr) (result : Lists) → d ≡ resolved.Plain v →
    ((x : Expr) → by_names s v ≡ Some x → ((m : List ℕ) → ¬ (x ≡ named m)) → AreListsOf s x result) →
    (u : Underlying) → StandsUnder s n u → IsResolvedIn s d u → AreListsOf s (named n) result
plain_under s w n d v result e found (items ns) h r = absurd (subst (λ (x : Resolved). IsResolvedIn s x (items ns)) e r)
plain_under s w n d v result e found (select ns) h r = absurd (subst (λ (x : Resolved). IsResolvedIn s x (select ns)) e r)
plain_under s w n d v result e found (plain x) h r =
    let is : by_names s v ≡ Some x = subst (λ (x' : Resolved). IsResolvedIn s x' (plain x)) e r in
    same_lists s x (named n) result (plain_end s w n x h) (found x is (λ m f. (end_of s w h).no_name m (ap plain f)))

-- elements

among_lists : {s : Schema} {x : Expr} {ts : Trees} (l : Lists) → AreListsOf s x l → RepeatsAmong s x ts → RepeatsAmongBy s l ts
among_lists l a (repeats.here {t = t} h) = by.here ((a.same t).0 h)
among_lists l a (repeats.behind h) = by.behind (among_lists l a h)

lists_among : {s : Schema} {l : Lists} {ts : Trees} (x : Expr) → AreListsOf s x l → RepeatsAmongBy s l ts → RepeatsAmong s x ts
lists_among x a (by.here {t = t} h) = repeats.here ((a.same t).1 h)
lists_among x a (by.behind h) = repeats.behind (lists_among x a h)

pub nowhere_among : {s : Schema} {l : Lists} {ts : Trees} → l ≡ lists.Nowhere → ¬ (RepeatsAmongBy s l ts)
nowhere_among {s} e (by.here {t = t} h) = subst (λ (v : Lists). RepeatsBy s v t) e h
nowhere_among e (by.behind h) = nowhere_among e h

pub elements_here : (s : Schema) (u : Bool) (e : Bor ResolvedExpr) (x : Expr) (l : Lists) → by_names s e.now ≡ Some x → AreListsOf s x l → AreListsOfElements s (lists.Here u e) l
elements_here s u e x l is a = record {
  known = a.known;
  same = λ ts. ((λ h. there ts h), (λ h. record { element = x; elements = ts; is = is; listed = refl; repeats = ⊎_elim (λ (t : (u ≡ true) × HasTwice (names_among ts)). inl t) (λ (r : RepeatsAmongBy s l ts). inr (lists_among x a r)) h }));
} where
  there : (ts : Trees) → IsRepeatingList s u e.now (tree.items ts) → ((u ≡ true) × HasTwice (names_among ts)) ⊎ RepeatsAmongBy s l ts
  there ts h =
      let us = h.elements in
      let y = h.element in
      let f : tree.items ts ≡ tree.items us = h.listed in
      let g : by_names s e.now ≡ Some y = h.is in
      let same : us ≡ ts = cc in
      let equal : y ≡ x = cc in
      let all : RepeatsHere s u x ts = subst (λ (z : Expr). RepeatsHere s u z ts) equal (subst (λ (vs : Trees). RepeatsHere s u y vs) same h.repeats) in
      ⊎_elim (λ (t : (u ≡ true) × HasTwice (names_among ts)). inl t) (λ (r : RepeatsAmong s x ts). inr (among_lists l a r)) all

pub no_elements : (s : Schema) (l : Lists) → ((u : Bool) (e : Bor ResolvedExpr) → ¬ (l ≡ lists.Here u e)) → AreListsOfElements s l lists.Nowhere
no_elements s lists.Nowhere h = record { known = tt; same = λ ts. ((λ a. absurd a), λ a. ⊎_elim (λ (t : (false ≡ true) × HasTwice (names_among ts)). absurd (false≢true t.0)) (λ (r : RepeatsAmongBy s lists.Nowhere ts). absurd (nowhere_among refl r)) a) }
no_elements s (lists.InTyped t) h = record { known = tt; same = λ ts. ((λ a. let f = a.typed_ in absurd cc), λ a. ⊎_elim (λ (t : (false ≡ true) × HasTwice (names_among ts)). absurd (false≢true t.0)) (λ (r : RepeatsAmongBy s lists.Nowhere ts). absurd (nowhere_among refl r)) a) }
no_elements s (lists.Here u e) h = absurd (h u e refl)

-- typed parameters

pub inside_typed : (s : Schema) (t d : TypeId) (keyword : List ℕ) (l : Lists) → type_name s d ≡ keyword → ReachesType s (type_name s t) keyword → AreListsOf s (named (type_name s d)) l → AreListsInside s (lists.InTyped t) l keyword
inside_typed s t d keyword l e reach a = record { known = a.known; same = λ p. ((λ h. there p h), (λ h. back p h)) } where
  there : (p : Tree) → IsRepeatingTyped s (type_name s t) (typed keyword p) → RepeatsBy s l p
  there p h =
      let k = h.keyword in
      let q = h.inner in
      let f : typed keyword p ≡ typed k q = h.typed_ in
      let one : k ≡ keyword = cc in
      let two : q ≡ p = cc in
      (a.same p).0 (subst (λ (z : Tree). Repeats s (named (type_name s d)) z) two (subst (λ (m : List ℕ). Repeats s (named m) q) (one ∙ sym e) h.repeats))

  back : (p : Tree) → RepeatsBy s l p → IsRepeatingTyped s (type_name s t) (typed keyword p)
  back p h = record { keyword = keyword; inner = p; typed_ = refl; reached = reach; repeats = subst (λ (m : List ℕ). Repeats s (named m) p) e ((a.same p).1 h) }

pub inside_none : (s : Schema) (t : TypeId) (keyword : List ℕ) → ¬ (ReachesType s (type_name s t) keyword) → AreListsInside s (lists.InTyped t) lists.Nowhere keyword
inside_none s t keyword none = record { known = tt; same = λ p. ((λ h. absurd (none (reached p h))), (λ h. absurd h)) } where
  reached : (p : Tree) → IsRepeatingTyped s (type_name s t) (typed keyword p) → ReachesType s (type_name s t) keyword
  reached p h =
      let k = h.keyword in
      let f : typed keyword p ≡ typed k h.inner = h.typed_ in
      let one : k ≡ keyword = cc in
      subst (λ (m : List ℕ). ReachesType s (type_name s t) m) one h.reached

pub inside_other : (s : Schema) (l : Lists) (keyword : List ℕ) → ((t : TypeId) → ¬ (l ≡ lists.InTyped t)) → AreListsInside s l lists.Nowhere keyword
inside_other s lists.Nowhere keyword h = record { known = tt; same = λ p. ((λ a. a), (λ a. a)) }
inside_other s (lists.InTyped t) keyword h = absurd (h t refl)
inside_other s (lists.Here u e) keyword h = record { known = tt; same = λ p. ((λ a. let f = a.listed in absurd cc), (λ a. absurd a)) }

-- ---- elements one by one

among_head : {s : Schema} {l : Lists} {us : Trees} (t : Tree) (ts : Trees) → RepeatsAmongBy s l us → us ≡ cons t ts → RepeatsBy s l t ⊎ RepeatsAmongBy s l ts
among_head {s} {l} t ts (by.here {t = u} {ts = us} h) e = let f : u ≡ t = cc in inl (subst (λ (x : Tree). RepeatsBy s l x) f h)
among_head {s} {l} t ts (by.behind {t = u} {ts = us} h) e = let f : us ≡ ts = cc in inr (subst (λ (x : Trees). RepeatsAmongBy s l x) f h)

among_nil : {s : Schema} {l : Lists} {us : Trees} → RepeatsAmongBy s l us → us ≡ nil → ⊥
among_nil (by.here h) e = cc
among_nil (by.behind h) e = cc

module _ (s : Schema) (l : Lists) (ps : List Param) where
  abbrev left : ℕ → Type 0
  left i = RepeatsAmongBy s l (plainly.plain_all (drop i ps))

  pub found_here : (i : ℕ) (d : Param) → i < length ps → d ≡ get_or ps i d → RepeatsBy s l (plainly.plain d) → left i ↔ RepeatsAmongBy s l (plainly.plain_all ps) → RepeatsAmongBy s l (plainly.plain_all ps)
  found_here i d h e this all = all.0 (subst (λ (ts : Trees). RepeatsAmongBy s l ts) (sym (drop_here ps i d h e)) (by.here this))

  pub found_further : (i : ℕ) (d : Param) → i < length ps → d ≡ get_or ps i d → ¬ (RepeatsBy s l (plainly.plain d)) → left i ↔ RepeatsAmongBy s l (plainly.plain_all ps) → left (i + 1) ↔ RepeatsAmongBy s l (plainly.plain_all ps)
  found_further i d h e this all = (
    λ k. all.0 (subst (λ (ts : Trees). RepeatsAmongBy s l ts) (sym (drop_here ps i d h e)) (by.behind k)),
    λ k. ⊎_elim (λ (x : RepeatsBy s l (plainly.plain d)). absurd (this x)) (λ (x : left (i + 1)). x) (among_head (plainly.plain d) (plainly.plain_all (drop (i + 1) ps)) (all.1 k) (drop_here ps i d h e)),
  )

  pub found_nowhere : (i : ℕ) → length ps ≤ i → left i ↔ RepeatsAmongBy s l (plainly.plain_all ps) → ¬ (RepeatsAmongBy s l (plainly.plain_all ps))
  found_nowhere i h all k = among_nil (all.1 k) (drop_none ps i h)

-- ---- a parameter that has no lists

listless_level : (l : Param-F Param) → ((v : Vec Param Global) → ¬ (roll-Param l ≡ seen.Items v)) → ((k : Bor (List ℕ)) (p : Box Param Global) → ¬ (roll-Param l ≡ seen.Typed k p)) → HasNoList (plainly.plain (roll-Param l))
listless_level (level.Items v) b d = absurd (b v (seen.rolls-Items v))
listless_level (level.Typed k p) b d = absurd (d k p (seen.rolls-Typed k p))
listless_level level.Absent b d = subst HasNoList (sym (fold-roll-Param Tree plainly.plain_level level.Absent)) tt
listless_level level.Derived b d = subst HasNoList (sym (fold-roll-Param Tree plainly.plain_level level.Derived)) tt
listless_level (level.Int x) b d = subst HasNoList (sym (fold-roll-Param Tree plainly.plain_level (level.Int x))) tt
listless_level (level.Real x) b d = subst HasNoList (sym (fold-roll-Param Tree plainly.plain_level (level.Real x))) tt
listless_level (level.Str x) b d = subst HasNoList (sym (fold-roll-Param Tree plainly.plain_level (level.Str x))) tt
listless_level (level.Enumeration x) b d = subst HasNoList (sym (fold-roll-Param Tree plainly.plain_level (level.Enumeration x))) tt
listless_level (level.Binary x) b d = subst HasNoList (sym (fold-roll-Param Tree plainly.plain_level (level.Binary x))) tt
listless_level (level.Ref n) b d = subst HasNoList (sym (fold-roll-Param Tree plainly.plain_level (level.Ref n))) tt

pub listless : (p : Param) → ((v : Vec Param Global) → ¬ (p ≡ seen.Items v)) → ((k : Bor (List ℕ)) (q : Box Param Global) → ¬ (p ≡ seen.Typed k q)) → HasNoList (plainly.plain p)
listless p b d =
    let same = roll-out-Param p in
    subst (λ (q : Param). HasNoList (plainly.plain q)) same (listless_level (out-Param p) (λ v e. b v (sym same ∙ e)) (λ j q e. d j q (sym same ∙ e)))

-- a list, by its elements
pub by_elements : (s : Schema) (l inner : Lists) (t : Tree) (ps : List Param) → t ≡ tree.items (plainly.plain_all ps) → AreListsOfElements s l inner → RepeatsBy s l t ↔ (((is_unique l ≡ true) × HasTwice (names_of ps)) ⊎ RepeatsAmongBy s inner (plainly.plain_all ps))
by_elements s l inner t ps e a =
    subst (λ (u : Tree). RepeatsBy s l u ↔ (((is_unique l ≡ true) × HasTwice (names_of ps)) ⊎ RepeatsAmongBy s inner (plainly.plain_all ps))) (sym e) (a.same (plainly.plain_all ps))
