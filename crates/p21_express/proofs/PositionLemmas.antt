-- Ways between declarations by their positions and by their names.
use Rattle.std.proofs.Common.{◌≡◌, ℕ, zero, suc, ◌+◌, ◌<◌, List, [], ◌∷◌, ◌++◌, length, get_or, map, take, Option, Some, None, slice_get, refl, sym, ap, ◌∙◌, inl, ⊎_elim, subst}
use Rattle.std.specs.List.{AllZip}
use Rattle.std.specs.Prelude.{Vec}
use Rattle.std.specs.declared.alloc.Global.{Global}
use Rattle.std.proofs.lemmas.List.{map_push, map_more, append-nil}
use Rattle.std.specs.Option.{option_to_list}
use Rattle.p21_express.specs.declared.checks.names.Declared.{Declared}
use Rattle.p21_express.specs.declared.checks.names.Declared.TheVariants as declared
use Rattle.p21_express.specs.Naming.{texts}
use Rattle.p21_express.specs.Graph.{lists, neighbors}
use Rattle.p21_express.specs.Index.{IsEntityAt, IsSelectAt, IsTypeAt, Declares}
use Rattle.p21_express.specs.Positions.{IsPosition, ArePositions}
use Rattle.p21_express.specs.Schema.{Schema}
use Rattle.p21_express.specs.WellFormed.{IsIn, Leads, HasNoCycle, AreDistinct, declared_names}
use Rattle.p21_express.proofs.GraphLemmas.{in_front, in_back}
use Rattle.p21_express.proofs.IndexLemmas.{is_in_push, entity_answer, select_answer, type_answer}

-- ---- where each step has its like

module _ {X Y : Type 0} (Alike : X → Y → Type 0) (Step : X → X → Type 0) (Other : Y → Y → Type 0)
    (unique : (x : X) (y z : Y) → Alike x y → Alike x z → y ≡ z)
    (follows : (a b : X) → Step a b → (y : Y) × (z : Y) × Alike a y × Alike b z × Other y z) where
  pub carried : {a b : X} → Leads Step a b → (y : Y) → Alike a y → (z : Y) × Alike b z × Leads Other y z
  carried {a} {b} (Leads.one s) y h =
      let f = follows a b s in
      let e : f.0 ≡ y = unique a f.0 y f.2 h in
      (f.1, f.3, Leads.one (subst (λ (v : Y). Other v f.1) e f.4))
  carried {a} (Leads.more s l) y h =
      let f = follows a _ s in
      let e : f.0 ≡ y = unique a f.0 y f.2 h in
      let r = carried l f.1 f.3 in
      (r.0, r.1, Leads.more (subst (λ (v : Y). Other v f.1) e f.4) r.2)

  begins_alike : {a b : X} → Leads Step a b → (y : Y) × Alike a y
  begins_alike {a} {b} (Leads.one s) = let f = follows a b s in (f.0, f.2)
  begins_alike {a} (Leads.more s l) = let f = follows a _ s in (f.0, f.2)

  pub no_cycle : HasNoCycle Other → HasNoCycle Step
  no_cycle none_other x l =
      let b = begins_alike l in
      let r = carried l b.0 b.1 in
      none_other b.0 (subst (λ (v : Y). Leads Other b.0 v) (unique x r.0 b.0 r.1 b.1) r.2)

-- ---- a list for each declaration

pub zip_at : {X : Type 0} (R : X → List ℕ → Type 0) (xs : List X) (g : List (List ℕ)) (i : ℕ) (x : X) → AllZip R xs g → slice_get xs i ≡ Some x → R x (neighbors g i)
zip_at R [] g i x h e = absurd (cc)
zip_at R (y ∷ xs) [] i x h e = absurd h
zip_at R (y ∷ xs) (ns ∷ g) zero x h e = let k : y ≡ x = cc in subst (λ v. R v ns) k h.0
zip_at R (y ∷ xs) (ns ∷ g) (suc i) x h e = zip_at R xs g i x h.1 e

-- where an edge begins there is a declaration
pub zip_from : {X : Type 0} (R : X → List ℕ → Type 0) (xs : List X) (g : List (List ℕ)) (i j : ℕ) → AllZip R xs g → IsIn (neighbors g i) j → (x : X) × (slice_get xs i ≡ Some x) × R x (neighbors g i)
zip_from R [] [] i j h k = absurd k
zip_from R [] (ns ∷ g) i j h k = absurd h
zip_from R (y ∷ xs) [] i j h k = absurd h
zip_from R (y ∷ xs) (ns ∷ g) zero j h k = (y, refl, h.0)
zip_from R (y ∷ xs) (ns ∷ g) (suc i) j h k = zip_from R xs g i j h.1 k

pub zip_length : {X Y : Type 0} (R : X → Y → Type 0) (xs : List X) (ys : List Y) → AllZip R xs ys → length xs ≡ length ys
zip_length R [] [] h = refl
zip_length R [] (b ∷ ys) h = absurd h
zip_length R (a ∷ xs) [] h = absurd h
zip_length R (a ∷ xs) (b ∷ ys) h = ap suc (zip_length R xs ys h.1)

pub zip_push : {X Y : Type 0} (R : X → Y → Type 0) (xs : List X) (ys : List Y) (x : X) (y : Y) → AllZip R xs ys → R x y → AllZip R (xs ++ x ∷ []) (ys ++ y ∷ [])
zip_push R [] [] x y h r = (r, tt)
zip_push R [] (b ∷ ys) x y h r = absurd h
zip_push R (a ∷ xs) [] x y h r = absurd h
zip_push R (a ∷ xs) (b ∷ ys) x y h r = (h.0, zip_push R xs ys x y h.1 r)

pub one_list_more : {X Y : Type 0} (R : Y → List ℕ → Type 0) (f : X → Y) (xs : List X) (i : ℕ) (x : X) (graph : List (Vec ℕ Global)) (v : Vec ℕ Global) → i < length xs → x ≡ get_or xs i x → AllZip R (map f (take i xs)) (lists graph) → R (f x) v.items → AllZip R (map f (take (i + 1) xs)) (lists (graph ++ v ∷ []))
one_list_more {X} {Y} R f xs i x graph v lt is before this =
    let e : map f (take (i + 1) xs) ≡ map f (take i xs) ++ f x ∷ [] = map_more f xs i x lt ∙ ap (λ (z : X). map f (take i xs) ++ f z ∷ []) (sym is) in
    let d : lists (graph ++ v ∷ []) ≡ lists graph ++ v.items ∷ [] = map_push (λ (w : Vec ℕ Global). w.items) graph v in
    rw (e, d) (zip_push R (map f (take i xs)) (lists graph) (f x) v.items before this)

-- ---- positions of names

pub no_positions : (At : ℕ → List ℕ → Type 0) → ArePositions At [] []
no_positions At = λ j. (λ h. absurd h, λ h. absurd h.1)

pub position_more : (At : ℕ → List ℕ → Type 0) (ns : List (List ℕ)) (n : List ℕ) (found : List ℕ) (i : ℕ) → ((j : ℕ) → At j n → j ≡ i) → At i n → ArePositions At ns found → ArePositions At (ns ++ n ∷ []) (found ++ i ∷ [])
position_more At ns n found i one at h = λ j. (
  λ k. ⊎_elim (λ (l : IsIn found j). let x = (h j).0 l in (x.0, in_front ns (n ∷ []) x.0 x.1, x.2)) (λ (e : i ≡ j). (n, in_back ns (n ∷ []) n (inl refl), subst (λ (p : ℕ). At p n) e at)) (is_in_push found i j k),
  λ x. ⊎_elim (λ (l : IsIn ns x.0). in_front found (i ∷ []) j ((h j).1 (x.0, l, x.2))) (λ (e : n ≡ x.0). in_back found (i ∷ []) j (inl (sym (one j (subst (λ (m : List ℕ). At j m) (sym e) x.2))))) (is_in_push ns n x.0 x.1),
)

pub position_none : (At : ℕ → List ℕ → Type 0) (ns : List (List ℕ)) (n : List ℕ) (found : List ℕ) → ((j : ℕ) → At j n → ⊥) → ArePositions At ns found → ArePositions At (ns ++ n ∷ []) found
position_none At ns n found none_at h = λ j. (
  λ k. let x = (h j).0 k in (x.0, in_front ns (n ∷ []) x.0 x.1, x.2),
  λ x. ⊎_elim (λ (l : IsIn ns x.0). (h j).1 (x.0, l, x.2)) (λ (e : n ≡ x.0). absurd (none_at j (subst (λ (m : List ℕ). At j m) (sym e) x.2))) (is_in_push ns n x.0 x.1),
)

pub position_add : (At : ℕ → List ℕ → Type 0) (ns : List (List ℕ)) (n : List ℕ) (found : List ℕ) (o : Option ℕ) → IsPosition At n o → ArePositions At ns found → ArePositions At (ns ++ n ∷ []) (found ++ option_to_list o)
position_add At ns n found None p h = rw append-nil (position_none At ns n found p h)
position_add At ns n found (Some i) p h = position_more At ns n found i p.1 p.0 h

-- the loop over names
pub name_more : (At : ℕ → List ℕ → Type 0) (ns : List (Vec ℕ Global)) (i : ℕ) (x : Vec ℕ Global) (n : List ℕ) (found : List ℕ) (o : Option ℕ) → i < length ns → x ≡ get_or ns i x → n ≡ x.items → IsPosition At n o → ArePositions At (texts (take i ns)) found → ArePositions At (texts (take (i + 1) ns)) (found ++ option_to_list o)
name_more At ns i x n found o lt is name p h =
    let e : texts (take (i + 1) ns) ≡ texts (take i ns) ++ n ∷ [] = map_more (λ (v : Vec ℕ Global). v.items) ns i x lt ∙ ap (λ (z : Vec ℕ Global). texts (take i ns) ++ z.items ∷ []) (sym is) ∙ ap (λ (z : List ℕ). texts (take i ns) ++ z ∷ []) (sym name) in
    rw e (position_add At (texts (take i ns)) n found o p h)

-- ---- what a look-up says

abbrev pub entity_in : Option Declared → Option ℕ
entity_in (Some (declared.Entity i)) = Some i
entity_in (Some (declared.Select i)) = None
entity_in (Some (declared.Type i)) = None
entity_in None = None

abbrev pub select_in : Option Declared → Option ℕ
select_in (Some (declared.Entity i)) = None
select_in (Some (declared.Select i)) = Some i
select_in (Some (declared.Type i)) = None
select_in None = None

abbrev pub type_in : Option Declared → Option ℕ
type_in (Some (declared.Entity i)) = None
type_in (Some (declared.Select i)) = None
type_in (Some (declared.Type i)) = Some i
type_in None = None

module _ (s : Schema) (n : List ℕ) (d : AreDistinct (declared_names s)) where
  pub entity_position : (o : Option Declared) → Declares s n o → IsPosition (IsEntityAt s) n (entity_in o)
  entity_position None k = λ j h. let e : None ≡ Some (declared.Entity j) = entity_answer s j n None d h k in cc
  entity_position (Some (declared.Entity i)) k = (k, λ j h. let e : Some (declared.Entity i) ≡ Some (declared.Entity j) = entity_answer s j n (Some (declared.Entity i)) d h k in cc)
  entity_position (Some (declared.Select i)) k = λ j h. let e : Some (declared.Select i) ≡ Some (declared.Entity j) = entity_answer s j n (Some (declared.Select i)) d h k in cc
  entity_position (Some (declared.Type i)) k = λ j h. let e : Some (declared.Type i) ≡ Some (declared.Entity j) = entity_answer s j n (Some (declared.Type i)) d h k in cc

  pub select_position : (o : Option Declared) → Declares s n o → IsPosition (IsSelectAt s) n (select_in o)
  select_position None k = λ j h. let e : None ≡ Some (declared.Select j) = select_answer s j n None d h k in cc
  select_position (Some (declared.Entity i)) k = λ j h. let e : Some (declared.Entity i) ≡ Some (declared.Select j) = select_answer s j n (Some (declared.Entity i)) d h k in cc
  select_position (Some (declared.Select i)) k = (k, λ j h. let e : Some (declared.Select i) ≡ Some (declared.Select j) = select_answer s j n (Some (declared.Select i)) d h k in cc)
  select_position (Some (declared.Type i)) k = λ j h. let e : Some (declared.Type i) ≡ Some (declared.Select j) = select_answer s j n (Some (declared.Type i)) d h k in cc

  pub type_position : (o : Option Declared) → Declares s n o → IsPosition (IsTypeAt s) n (type_in o)
  type_position None k = λ j h. let e : None ≡ Some (declared.Type j) = type_answer s j n None d h k in cc
  type_position (Some (declared.Entity i)) k = λ j h. let e : Some (declared.Entity i) ≡ Some (declared.Type j) = type_answer s j n (Some (declared.Entity i)) d h k in cc
  type_position (Some (declared.Select i)) k = λ j h. let e : Some (declared.Select i) ≡ Some (declared.Type j) = type_answer s j n (Some (declared.Select i)) d h k in cc
  type_position (Some (declared.Type i)) k = (k, λ j h. let e : Some (declared.Type i) ≡ Some (declared.Type j) = type_answer s j n (Some (declared.Type i)) d h k in cc)
