-- What is asked of the elements of a list.
use Rattle.std.proofs.Common.{◌≡◌, ℕ, inl, inr, Some, refl, subst, Bor}
use Rattle.p21_express.specs.Schema.{Schema, Expr}
use Rattle.p21_tree.specs.Tree.{Trees, items}
use Rattle.p21_schema.specs.declared.resolved.ResolvedExpr.{ResolvedExpr}
use Rattle.p21_check.specs.declared.wanted.Wanted.{Wanted}
use Rattle.p21_check.specs.declared.wanted.Wanted.TheVariants as asked
use Rattle.p21_check.specs.References.{Reference, Refers, RefersAmong}
use Rattle.p21_check.specs.References as refers
use Rattle.p21_check.specs.Wanted.{by_names, Asks, AsksAmong, IsAskedBy, IsAskedOfElements, IsListed}
use Rattle.p21_check.specs.Wanted as asks

pub among_asked : {s : Schema} {x : Expr} {ts : Trees} {place : ℕ} {r : Reference} (w : Wanted) → IsAskedBy s x w → RefersAmong s x ts place r → AsksAmong s w ts place r
among_asked w a (refers.here {t = t} {place = k} {r = r} h) = asks.here ((a.same t k r).0 h)
among_asked w a (refers.behind h) = asks.behind (among_asked w a h)

pub asked_among : {s : Schema} {w : Wanted} {ts : Trees} {place : ℕ} {r : Reference} (x : Expr) → IsAskedBy s x w → AsksAmong s w ts place r → RefersAmong s x ts place r
asked_among x a (asks.here {t = t} {place = k} {r = r} h) = refers.here ((a.same t k r).1 h)
asked_among x a (asks.behind h) = refers.behind (asked_among x a h)

pub nothing_among : {s : Schema} {w : Wanted} {ts : Trees} {place : ℕ} {r : Reference} → w ≡ asked.Nothing → AsksAmong s w ts place r → ⊥
nothing_among {s} e (asks.here {t = t} {place = k} {r = r} h) = elim (subst (λ (v : Wanted). Asks s v t k r) e h) [ ]
nothing_among e (asks.behind h) = nothing_among e h

pub elements_asked : (s : Schema) (e : Bor ResolvedExpr) (x : Expr) (w : Wanted) → by_names s e.now ≡ Some x → IsAskedBy s x w → IsAskedOfElements s (asked.Elements e) w
elements_asked s e x w is a = record {
  asked_ = a.asked_;
  same = λ ts place r. ((λ h. there ts place r h), (λ h. record { element = x; elements = ts; is = is; listed = refl; refers = asked_among x a h }));
} where
  there : (ts : Trees) (place : ℕ) (r : Reference) → IsListed s e.now (items ts) place r → AsksAmong s w ts place r
  there ts place r h =
      let us = h.elements in
      let y = h.element in
      let f : items ts ≡ items us = h.listed in
      let g : by_names s e.now ≡ Some y = h.is in
      let same : us ≡ ts = cc in
      let equal : y ≡ x = cc in
      among_asked w a (subst (λ (z : Expr). RefersAmong s z ts place r) equal (subst (λ (vs : Trees). RefersAmong s y vs place r) same h.refers))

pub no_elements : (s : Schema) (w : Wanted) → ((e : Bor ResolvedExpr) → ¬ (w ≡ asked.Elements e)) → IsAskedOfElements s w asked.Nothing
no_elements s asked.Nothing h = record { asked_ = tt; same = λ ts place r. ((λ a. elim a [ ]), λ a. nothing_among refl a) }
no_elements s (asked.Entity e) h = record { asked_ = tt; same = λ ts place r. ((λ a. let f = a.name in absurd cc), λ a. absurd (nothing_among refl a)) }
no_elements s (asked.Select t) h = record { asked_ = tt; same = λ ts place r. ((λ a. elim a [ inl n ↦ (let f = n.name in absurd cc) | inr n ↦ (let f = n.typed_ in absurd cc) ]), λ a. absurd (nothing_among refl a)) }
no_elements s (asked.Elements e) h = absurd (h e refl)
