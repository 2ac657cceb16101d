-- Parameters that fit their attributes, one behind the other.
use Rattle.std.proofs.Common.{◌≡◌, ◌⊎◌, ◌↔◌, ⊎_elim, inl, inr, ℕ, zero, suc, ◌+◌, ◌<◌, ◌≤◌, Bool, List, [], ◌∷◌, ◌++◌, Option, Some, length, refl, sym, ap, subst, ◌∙◌, arith}
use Rattle.std.specs.Prelude.{slice_get}
use Rattle.p21_express.specs.Schema.{Schema, Expr}
use Rattle.p21_express.specs.WellFormed.{IsWellFormed, Origin}
use Rattle.p21_text.specs.Contents.{IsContent}
use Rattle.p21_text.specs.Spelling as token
use Rattle.p21_text.specs.Tokens.{Placed, First}
use Rattle.p21_text.specs.Tokens as text
use Rattle.p21_tree.specs.Grammar as grammar
use Rattle.p21_tree.specs.Plain.{plain, plain_all}
use Rattle.p21_tree.specs.Tree.{Tree, derived}
use Rattle.p21_tree.specs.declared.params.Param.{Param}
use Rattle.p21_tree.specs.declared.params.Param.TheVariants as param
use Rattle.p21_schema.specs.Declaration.{Declaration, AreDeclarations}
use Rattle.p21_schema.specs.Declaration as form
use Rattle.p21_check.specs.declared.wanted.Wanted.{Wanted}
use Rattle.p21_check.specs.Bound.{IsLowest}
use Rattle.p21_check.specs.Sets.{AnyIn, Derives, FitsForm}
use Rattle.p21_check.specs.Wanted.{Asks, IsAskedBy}
use Rattle.p21_check.specs.declared.leaf.Passed.{Passed}
use Rattle.p21_check.specs.declared.referred.Reference.{Reference as Kept}
use Rattle.p21_check.specs.Asked.{AskedBy}
use Rattle.p21_check.specs.LocalFault.{tree_get}
use Rattle.p21_check.specs.Passed.{IsLeafOf, Stands, StandInRow, WalksValue}
use Rattle.p21_check.specs.References.{Reference}
use Rattle.p21_check.specs.Referred.{Adds, Somewhere}
use Rattle.p21_check.specs.Slot.{FitsSlot}
use Rattle.p21_check.specs.WalkRecord.{AskedByOne, FitSlots, WalksParameters, WalksSlot, WalksStar}
use Rattle.p21_check.proofs.PassedLemmas.{count_more, derived_leaf, leaf_stands, row_first, row_more}
use Rattle.p21_check.proofs.PlainLemmas.{plain_derived}
use Rattle.p21_check.proofs.AskedLemmas.{explicit_asks}
use Rattle.p21_check.proofs.BoundLemmas.{derived_fits, lowest_asks, lowest_fits}
use Rattle.p21_check.proofs.ReferredLemmas.{adds_both, adds_none, adds_same, somewhere}
use Rattle.p21_check.proofs.SlotLemmas.{derived_there}
use Rattle.p21_check.proofs.Tests.{both}

-- a parameter among others and one more

get_split : (ps : List Param) (p : Param) (a : ℕ) (t : Tree) → tree_get (plain_all (ps ++ p ∷ [])) a ≡ Some t → (tree_get (plain_all ps) a ≡ Some t) ⊎ ((a ≡ length ps) × (plain p ≡ t))
get_split [] p zero t e = inr (refl, cc)
get_split [] p (suc a) t e = absurd (cc)
get_split (q ∷ ps) p zero t e = inl e
get_split (q ∷ ps) p (suc a) t e = ⊎_elim (λ (h : tree_get (plain_all ps) a ≡ Some t). inl h) (λ (h : (a ≡ length ps) × (plain p ≡ t)). inr (ap suc h.0, h.1)) (get_split ps p a t e)

get_front : (ps : List Param) (p : Param) (a : ℕ) (t : Tree) → tree_get (plain_all ps) a ≡ Some t → tree_get (plain_all (ps ++ p ∷ [])) a ≡ Some t
get_front [] p a t e = absurd (cc)
get_front (q ∷ ps) p zero t e = e
get_front (q ∷ ps) p (suc a) t e = get_front ps p a t e

get_last : (ps : List Param) (p : Param) → tree_get (plain_all (ps ++ p ∷ [])) (length ps) ≡ Some (plain p)
get_last [] p = refl
get_last (q ∷ ps) p = get_last ps p

module _ (s : Schema) (S : List ℕ → Type 0) (os : List Origin) (ps : List Param) (p : Param) (o : Origin) (there : slice_get os (length ps) ≡ Some o) where
  here : (other : Origin) (a : ℕ) → slice_get os a ≡ Some other → a ≡ length ps → o ≡ other
  here other a e at = let f : slice_get os (length ps) ≡ Some other = subst (λ n. slice_get os n ≡ Some other) at e in let g = there in cc

  slots_more : FitSlots s S os ps → FitsSlot s S o (plain p) → FitSlots s S os (ps ++ p ∷ [])
  slots_more fit one a other t e g =
      ⊎_elim
      (λ (h : tree_get (plain_all ps) a ≡ Some t). fit a other t e h)
      (λ (h : (a ≡ length ps) × (plain p ≡ t)). subst (λ x. FitsSlot s S x t) (here other a e h.0) (subst (FitsSlot s S o) h.1 one))
      (get_split ps p a t g)

  asked_split : (r : Reference) → AskedByOne s S os (ps ++ p ∷ []) r → AskedByOne s S os ps r ⊎ Somewhere (AskedBy s S o (plain p)) r
  asked_split r h =
      ⊎_elim
      (λ (g : tree_get (plain_all ps) h.0 ≡ Some h.2). inl (h.0, h.1, h.2, h.3, g, h.5))
      (λ (g : (h.0 ≡ length ps) × (plain p ≡ h.2)). inr (subst (λ x. Somewhere (AskedBy s S x (plain p)) r) (sym (here h.1 h.0 h.3 g.0)) (subst (λ x. Somewhere (AskedBy s S h.1 x) r) (sym g.1) h.5)))
      (get_split ps p h.0 h.2 h.4)

  asked_join : (r : Reference) → AskedByOne s S os ps r ⊎ Somewhere (AskedBy s S o (plain p)) r → AskedByOne s S os (ps ++ p ∷ []) r
  asked_join r (inl h) = (h.0, h.1, h.2, h.3, get_front ps p h.0 h.2 h.4, h.5)
  asked_join r (inr h) = (length ps, o, plain p, there, get_last ps p, h)

  asked_more : (xs ys zs : List Kept) → Adds s (AskedByOne s S os ps) xs ys → Adds s (Somewhere (AskedBy s S o (plain p))) ys zs → Adds s (AskedByOne s S os (ps ++ p ∷ [])) xs zs
  asked_more xs ys zs = adds_both s (AskedByOne s S os ps) (Somewhere (AskedBy s S o (plain p))) (AskedByOne s S os (ps ++ p ∷ [])) xs ys zs (λ r. (asked_split r, asked_join r))

fit_none : (s : Schema) (S : List ℕ → Type 0) (os : List Origin) → FitSlots s S os []
fit_none s S os a o t e g = absurd (cc)

asked_one : (s : Schema) (S : List ℕ → Type 0) (os : List Origin) (p : Param) (o : Origin) → slice_get os 0 ≡ Some o → (r : Reference) → AskedByOne s S os (p ∷ []) r ↔ Somewhere (AskedBy s S o (plain p)) r
asked_one s S os p o there r = (
  λ h. ⊎_elim (λ (x : AskedByOne s S os [] r). absurd (let g = x.4 in cc)) (λ (x : Somewhere (AskedBy s S o (plain p)) r). x) (asked_split s S os [] p o there r h),
  λ h. asked_join s S os [] p o there r (inr h),
)

pub parameters_first : (s : Schema) (S : List ℕ → Type 0) (os : List Origin) (o : Origin) (b : List ℕ) (at : ℕ) (old new : List Kept) (r : Passed) → slice_get os 0 ≡ Some o → WalksSlot s S o b at old new r → WalksParameters s S os 1 b at old new r
parameters_first s S os o b at old new r there h = record {
  params = h.param ∷ [];
  stand = row_first 63 b at r h.param h.stands;
  counted = refl;
  fit = slots_more s S os [] h.param o there (fit_none s S os) h.fits;
  refer = adds_same s (Somewhere (AskedBy s S o (plain h.param))) (AskedByOne s S os (h.param ∷ [])) old new (asked_one s S os h.param o there) h.refers;
}

pub parameters_then : (s : Schema) (S : List ℕ → Type 0) (os : List Origin) (o : Origin) (b : List ℕ) (at count : ℕ) (old new newer : List Kept) (r q : Passed) (l : Placed) → WalksParameters s S os count b at old new r → First b r.after l → l.token ≡ token.comma → slice_get os count ≡ Some o → WalksSlot s S o b l.after new newer q
    → WalksParameters s S os (count + 1) b at old newer (record { after = q.after; written = r.written + q.written })
parameters_then s S os o b at count old new newer r q l h first is_comma there v =
    let this : slice_get os (length h.params) ≡ Some o = subst (λ n. slice_get os n ≡ Some o) (sym h.counted) there in
    record {
      params = h.params ++ v.param ∷ [];
      stand = row_more 63 b at r q h.params v.param l h.stand first is_comma v.stands;
      counted = count_more h.params v.param ∙ ap (λ n. n + 1) h.counted;
      fit = slots_more s S os h.params v.param o this h.fit v.fits;
      refer = asked_more s S os h.params v.param o this old new newer h.refer v.refers;
    }

-- an asterisk
pub star_stands : (left : ℕ) (b : List ℕ) (at : ℕ) (l : Placed) → First b at l → l.token ≡ token.star → (p : Param) × (plain p ≡ derived) × Stands left b at (record { after = l.after; written = 0 }) p
star_stands left b at l first is = (
  param.Derived,
  plain_derived refl,
  leaf_stands left b at l (record { param = param.Derived; written = 0 }) first (subst (λ t. IsLeafOf t (record { param = param.Derived; written = 0 })) (sym is) derived_leaf) (subst IsContent (sym is) tt),
)

-- ---- one slot

-- a value of the type that the lowest declaration names
pub slot_of_value : (s : Schema) → IsWellFormed s → (S : List ℕ → Type 0) (o : Origin) (ds : List Declaration) → AreDeclarations s o ds → (d : Declaration) → IsLowest s S ds d → (optional : Bool) (e : Expr) (w : Wanted) → d.form ≡ form.explicit optional e → IsAskedBy s e w → (b : List ℕ) (at : ℕ) (old new : List Kept) (r : Passed) → WalksValue s optional e w 63 b at old new r → WalksSlot s S o b at old new r
slot_of_value s well S o ds are d low optional e w explicit asked b at old new r v =
    let t = plain v.param in
    let asks = explicit_asks s d.form optional e w explicit asked in
    record {
      param = v.param;
      stands = v.stands;
      fits = (lowest_fits s well S o ds are d low t).0 (subst (FitsForm s t) (sym explicit) v.fits);
      refers = adds_same s (Somewhere (Asks s w t)) (Somewhere (AskedBy s S o t)) old new (somewhere (λ place x. both (lowest_asks s well S o ds are d low t place x) (asks.same t place x))) v.refers;
    }

-- an asterisk for what is derived
pub slot_of_star : (s : Schema) (S : List ℕ → Type 0) (o : Origin) (ds : List Declaration) → AreDeclarations s o ds → AnyIn ds (Derives S) → (b : List ℕ) (at : ℕ) (old : List Kept) (r : Passed) → WalksStar b at r → WalksSlot s S o b at old old r
slot_of_star s S o ds are derives b at old r star =
    let x = star 63 in
    record {
      param = x.0;
      stands = x.2;
      fits = (derived_fits s S o ds are derives (plain x.0)).0 x.1;
      refers = adds_none s (Somewhere (AskedBy s S o (plain x.0))) old (λ q a. a.1.counts.not_derived (derived_there s S o ds are derives));
    }
