-- All that an entity declares again, one after the other.
use Rattle.std.proofs.Common.{◌≡◌, ℕ, ◌+◌, ◌<◌, List, [], ◌∷◌, ◌++◌, length, get_or, map, take, drop, Some, refl, sym, ap, ◌∙◌, inl, ⊎_elim, subst, append_assoc}
use Rattle.std.specs.Prelude.{slice_get, option_map}
use Rattle.std.specs.List.{AllByRecursion}
use Rattle.std.proofs.lemmas.List.{map-append, take-append-drop}
use Rattle.std.proofs.lemmas.Option.{slice_get-map, slice_get-get_or}
use Rattle.p21_express.specs.declared.declarations.EntityDecl.{EntityDecl}
use Rattle.p21_express.specs.Plain.{plain_entity}
use Rattle.p21_express.proofs.ChecksLemmas.{all_push}
use Rattle.p21_express.proofs.CycleLemmas.{all_in}
use Rattle.p21_express.specs.declared.checks.redeclared.Again.{Again as FoundAgain}
use Rattle.p21_express.specs.declared.misfit.Misfit.{Misfit}
use Rattle.p21_express.specs.declared.misfit.Unfit.{Unfit}
use Rattle.p21_express.specs.declared.misfit.Unfit.TheVariants as unfit
use Rattle.p21_express.specs.Misfit.{OnUnfit, Only}
use Rattle.p21_express.specs.Again.{Origins, IsAgainAt, origin_in, plain_again}
use Rattle.p21_express.specs.Schema.{Schema, Entity}
use Rattle.p21_express.specs.WellFormed.{IsIn, AreDistinct, Redeclaration, Origin, DeclaresAgain, DeclareAgain, IsRedeclaring, redeclarations}
use Rattle.p21_express.proofs.AgainLemmas.{one_step, found_in}
use Rattle.p21_express.proofs.GraphLemmas.{in_back}
use Rattle.p21_express.proofs.IndexLemmas.{at_is_in, distinct_apart}
use Rattle.p21_express.proofs.MetLemmas.{distinct_push}

pub split_at : {X Y : Type 0} (f : X → Y) (xs : List X) (i : ℕ) (x : X) → i < length xs → x ≡ get_or xs i x → map f xs ≡ map f (take i xs) ++ f x ∷ map f (drop (i + 1) xs)
split_at {X} {Y} f xs i x lt is =
    ap (map f) (sym (take-append-drop (i + 1) xs)) ∙ map-append f (take (i + 1) xs) (drop (i + 1) xs) ∙ ap (λ (ys : List Y). ys ++ map f (drop (i + 1) xs)) (one_step (map f) (map-append f) xs i x lt is) ∙ append_assoc (map f (take i xs)) (f x ∷ []) (map f (drop (i + 1) xs))

module _ (s : Schema) (e : List ℕ) where
  abbrev found : Redeclaration → List ℕ → Origin
  found r d = record { entity = d; name = r.name }

  again_push : {rs : List Redeclaration} {os : List Origin} (r : Redeclaration) (d : List ℕ) → DeclareAgain s e rs os → DeclaresAgain s e r d → DeclareAgain s e (rs ++ r ∷ []) (os ++ found r d ∷ [])
  again_push r d DeclareAgain.none h = DeclareAgain.more h DeclareAgain.none
  again_push r d (DeclareAgain.more k others) h = DeclareAgain.more k (again_push r d others h)

  pub origins_push : (rs : List Redeclaration) (os : List Origin) (r : Redeclaration) (d : List ℕ) → Origins s e rs os → DeclaresAgain s e r d → ¬ (IsIn os (found r d)) → Origins s e (rs ++ r ∷ []) (os ++ found r d ∷ [])
  origins_push rs os r d h again new = record { declare = again_push r d h.declare again; distinct = distinct_push os (found r d) h.distinct new }

  again_of : {rs : List Redeclaration} {os : List Origin} (r : Redeclaration) → DeclareAgain s e rs os → IsIn rs r → (d : List ℕ) × DeclaresAgain s e r d
  again_of r DeclareAgain.none i = absurd i
  again_of r (DeclareAgain.more {r = q} {d = d} h others) i = ⊎_elim (λ (k : q ≡ r). (d, subst (λ (x : Redeclaration). DeclaresAgain s e x d) k h)) (λ (j : IsIn _ r). again_of r others j) i

  same_origins : {rs : List Redeclaration} {os ps : List Origin} → DeclareAgain s e rs os → DeclareAgain s e rs ps → os ≡ ps
  same_origins DeclareAgain.none DeclareAgain.none = refl
  same_origins (DeclareAgain.more {r = r} {d = d} {os = os} h rest) (DeclareAgain.more {d = c} {os = ps} k others) = let x : c ≡ d = h.only c k.origin in let y : os ≡ ps = same_origins rest others in ap (λ (n : List ℕ). found r n ∷ os) (sym x) ∙ ap (λ (zs : List Origin). found r c ∷ zs) y

  pub record Split (pre : List Redeclaration) (r : Redeclaration) (os : List Origin) : Type 0 where
    pub front : List Origin
    pub back : List Origin
    pub name : List ℕ
    pub is : os ≡ front ++ found r name ∷ back
    pub before : DeclareAgain s e pre front
    pub this : DeclaresAgain s e r name

  split : (pre : List Redeclaration) (r : Redeclaration) (post : List Redeclaration) (os : List Origin) → DeclareAgain s e (pre ++ r ∷ post) os → Split pre r os
  split [] r post _ (DeclareAgain.more {d = d} {os = os} h others) = record { front = []; back = os; name = d; is = refl; before = DeclareAgain.none; this = h }
  split (q ∷ pre) r post _ (DeclareAgain.more {d = d} {os = os} h others) =
      let x = split pre r post os others in
      record { front = found q d ∷ x.front; back = x.back; name = x.name; is = ap (λ (zs : List Origin). found q d ∷ zs) x.is; before = DeclareAgain.more h x.before; this = x.this }

  twice : (pre : List Redeclaration) (r : Redeclaration) (post : List Redeclaration) (os ps : List Origin) (d : List ℕ) → Origins s e pre os → DeclaresAgain s e r d → IsIn os (found r d) → DeclareAgain s e (pre ++ r ∷ post) ps → ¬ (AreDistinct ps)
  twice pre r post os ps d h again i all distinct =
      let x = split pre r post ps all in
      let same : os ≡ x.front = same_origins h.declare x.before in
      let name : x.name ≡ d = again.only x.name x.this.origin in
      let there : IsIn x.front (found r d) = subst (λ (zs : List Origin). IsIn zs (found r d)) same i in
      let whole : AreDistinct (x.front ++ found r x.name ∷ x.back) = subst (λ (zs : List Origin). AreDistinct zs) x.is distinct in
      distinct_apart x.front (found r x.name ∷ x.back) (found r d) whole there (inl (ap (found r) name))

module _ (s : Schema) (e : Entity) where
  pub redeclares_none : redeclarations e ≡ [] → IsRedeclaring s e
  redeclares_none h = record { origins = []; declare = subst (λ (rs : List Redeclaration). DeclareAgain s e.name rs []) (sym h) DeclareAgain.none; distinct = tt }

  pub redeclares : (rs : List Redeclaration) (os : List Origin) → rs ≡ redeclarations e → Origins s e.name rs os → IsRedeclaring s e
  redeclares rs os is h = record { origins = os; declare = subst (λ (xs : List Redeclaration). DeclareAgain s e.name xs os) is h.declare; distinct = h.distinct }

  pub not_again : (pre : List Redeclaration) (r : Redeclaration) (post : List Redeclaration) → redeclarations e ≡ pre ++ r ∷ post → ((i : ℕ) → ¬ (IsAgainAt s e.name r i)) → ¬ (IsRedeclaring s e)
  not_again pre r post is none h =
      let all : DeclareAgain s e.name (pre ++ r ∷ post) h.origins = subst (λ (xs : List Redeclaration). DeclareAgain s e.name xs h.origins) is h.declare in
      let x = again_of s e.name r all (in_back pre (r ∷ post) r (inl refl)) in
      let o = x.1.origin.1 in
      let p = at_is_in s.entities o.entity o.declared in
      none p.0 (record { name = x.0; at = record { entity = o.entity; there = p.1; name_is = o.name_is }; again = x.1 })

  pub again_twice : (pre : List Redeclaration) (r : Redeclaration) (post : List Redeclaration) (os : List Origin) (d : List ℕ) → redeclarations e ≡ pre ++ r ∷ post → Origins s e.name pre os → DeclaresAgain s e.name r d → IsIn os (record { entity = d; name = r.name }) → ¬ (IsRedeclaring s e)
  again_twice pre r post os d is before again i h =
      let all : DeclareAgain s e.name (pre ++ r ∷ post) h.origins = subst (λ (xs : List Redeclaration). DeclareAgain s e.name xs h.origins) is h.declare in
      twice s e.name pre r post os h.origins d before again i all h.distinct

pub origins_step : (s : Schema) (e : List ℕ) (xs : List FoundAgain) (i : ℕ) (x : FoundAgain) (os : List Origin) (d : List ℕ) → i < length xs → x ≡ get_or xs i x → Origins s e (map plain_again (take i xs)) os → DeclaresAgain s e (plain_again x) d → ¬ (IsIn os (origin_in d x.name.now)) → Origins s e (map plain_again (take (i + 1) xs)) (os ++ origin_in d x.name.now ∷ [])
origins_step s e xs i x os d lt is before again fresh = rw (one_step (map plain_again) (map-append plain_again) xs i x lt is) (origins_push s e (map plain_again (take i xs)) os (plain_again x) d before again fresh)

pub origins_start : (s : Schema) (e : List ℕ) → Origins s e [] []
origins_start s e = record { declare = DeclareAgain.none; distinct = tt }

pub entity_there_at : (es : List EntityDecl) (i : ℕ) (x : EntityDecl) → i < length es → x ≡ get_or es i x → slice_get (map plain_entity es) i ≡ Some (plain_entity x)
entity_there_at es i x lt is = slice_get-map plain_entity es i ∙ ap (option_map plain_entity) (slice_get-get_or es i x lt) ∙ ap (λ (z : EntityDecl). Some (plain_entity z)) (sym is)

pub all_step : (P : Entity → Type 0) (es : List EntityDecl) (i : ℕ) (x : EntityDecl) → i < length es → x ≡ get_or es i x → AllByRecursion P (map plain_entity (take i es)) → P (plain_entity x) → AllByRecursion P (map plain_entity (take (i + 1) es))
all_step P es i x lt is before this = rw (one_step (map plain_entity) (map-append plain_entity) es i x lt is) (all_push P (map plain_entity (take i es)) (plain_entity x) before this)

-- one that is not good is one of all
pub all_refused : (P : Entity → Type 0) (es : List EntityDecl) (i : ℕ) (x : EntityDecl) → i < length es → x ≡ get_or es i x → ¬ (P (plain_entity x)) → ¬ (AllByRecursion P (map plain_entity es))
all_refused P es i x lt is wrong h = wrong (all_in P (map plain_entity es) (plain_entity x) h (found_in (map plain_entity) (map-append plain_entity) es i x (plain_entity x) lt is (inl refl)))

pub unfit_to : (u : Unfit) (m : Misfit) (P Q : Type 0) → (P → Q) → OnUnfit u (Only m P) → OnUnfit u (Only m Q)
unfit_to (unfit.Found found left) m P Q to h = (h.0, to h.1)
unfit_to unfit.Memory m P Q to h = tt
