-- What declarations ask of references.
use Rattle.std.proofs.Common.{◌≡◌, ◌↔◌, ℕ, zero, suc, ◌+◌, ◌<◌, ◌≤◌, ◌⊎◌, ⊎_elim, inl, inr, Bool, true, false, List, [], ◌∷◌, length, get_or, take, add-one, Option, Ok, Err, refl, sym, subst, arith}
use Rattle.std.specs.Prelude.{Result}
use Rattle.std.proofs.lemmas.Bool.{cases_lt}
use Rattle.p21_tree.specs.Tree.{Tree}
use Rattle.p21_tree.specs.Sentence.{Instance}
use Rattle.p21_express.specs.Schema.{Schema, Expr}
use Rattle.p21_express.specs.WellFormed.{IsIn, Origin}
use Rattle.std.proofs.lemmas.List.{take_all}
use Rattle.p21_schema.specs.declared.declarations.Declaration.{Declaration as CodedDeclaration}
use Rattle.p21_schema.specs.Declaration.{Declaration, Form, IsResolvedForm, IsResolvedDeclaration, AreResolvedIn, AreDeclarations}
use Rattle.p21_schema.specs.Declaration as form
use Rattle.p21_check.specs.declared.wanted.Wanted.{Wanted}
use Rattle.p21_check.specs.declared.wanted.Wanted.TheVariants as asked
use Rattle.p21_check.specs.declared.walk.Bad.{Bad}
use Rattle.p21_check.specs.declared.walk.Bad.TheVariants as bad
use Rattle.p21_check.specs.declared.walk.FirstBad.{FirstBad}
use Rattle.p21_check.specs.References.{Reference, Refers, name_count}
use Rattle.p21_check.specs.Sets.{CountsAmong}
use Rattle.p21_check.specs.Wanted.{Asks, IsAskedBy}
use Rattle.p21_check.specs.Walk.{FindsBad, IsAnswered, EachIsAnswered, IsBad, chosen}
use Rattle.p21_check.proofs.WalkLemmas.{refers_below}
use Rattle.p21_check.proofs.AnyLemmas.{zip_at, zip_length}
use Rattle.p21_check.proofs.SlotLemmas.{counts_there, counts_among}
use Rattle.p21_check.specs.Asked.{AskedBy, AsksAsCounted, AsksByForm, RefersByForm, RefersCounting, FindsFirst, IsFirst}

-- an explicit form asks what its type asks
pub explicit_asks : (s : Schema) (f : Form) (p : Bool) (x : Expr) (w : Wanted) → f ≡ form.explicit p x → IsAskedBy s x w → AsksByForm s f w
explicit_asks s f p x w e a = record {
  asked_ = a.asked_;
  same = λ t k r. (there t k r, λ h. record { optional = p; texpr = x; explicit = e; refers = (a.same t k r).1 h });
} where
  there : (t : Tree) (k : ℕ) (r : Reference) → RefersByForm s f t k r → Asks s w t k r
  there t k r h =
      let y = h.texpr in
      let q = h.optional in
      let g : f ≡ form.explicit q y = h.explicit in
      let same : y ≡ x = cc in
      (a.same t k r).0 (subst (λ (z : Expr). Refers s z t k r) same h.refers)

-- a declaration that counts asks what its form asks
pub counted : (s : Schema) (InSet : List ℕ → Type 0) (ds : List Declaration) (d : Declaration) (w : Wanted) → CountsAmong s InSet ds d → AsksByForm s d.form w → AsksAsCounted s InSet ds d w
counted s InSet ds d w c a = record {
  asked_ = a.asked_;
  same = λ t k r. (λ h. (a.same t k r).0 h.refers, λ h. record { counts = c; refers = (a.same t k r).1 h });
}

-- the best of some that ask, as the loop keeps it
abbrev pub BestOf : Schema → (ℕ → Option Instance) → (ℕ → Reference → Type 0) → (ℕ → Reference → Type 0) → Result (Unit {0}) Bad → Type 0
BestOf s named A W (Ok u) = EachIsAnswered s named A
BestOf s named A W (Err b) = (f : IsFirst s named A b) × W f.place f.reference

bad_answered : (s : Schema) (named : ℕ → Option Instance) (r : Reference) (b : Bad) → IsBad s named r b → IsAnswered s named r → ⊥
bad_answered s named r (bad.Missing n) h a = let e = h.1 in let f = a.has in cc
bad_answered s named r (bad.Wrong n) h a =
    let u = h.1 in
    let same : u.found ≡ a.found = (let e = u.has in let f = a.has in cc) in
    u.unwanted (subst (λ (i : Instance). Rattle.p21_check.specs.References.IsWanted s i r.wanted) (sym same) a.wanted_)

-- what the loop over the declarations keeps
pub record Best (s : Schema) (named : ℕ → Option Instance) (A W : ℕ → Reference → Type 0) (first : Result (Unit {0}) Bad) : Type 0 where
  pub within : (k : ℕ) (r : Reference) → W k r → A k r
  pub finds : BestOf s named A W first

abbrev pub or_asked : (ℕ → Reference → Type 0) → (ℕ → Reference → Type 0) → ℕ → Reference → Type 0
or_asked A B k r = A k r ⊎ B k r

-- nothing is found against one more
pub best_same : (s : Schema) (named : ℕ → Option Instance) (A B W V : ℕ → Reference → Type 0) (first : Result (Unit {0}) Bad) → ((k : ℕ) (r : Reference) → B k r ↔ V k r) → Best s named A W first → EachIsAnswered s named W × EachIsAnswered s named V → Best s named (or_asked A B) W first
best_same s named A B W V (Ok u) same b h = record {
  within = λ k r w. inl (b.within k r w);
  finds = λ k r a. ⊎_elim (λ (x : A k r). b.finds k r x) (λ (x : B k r). h.1 k r ((same k r).0 x)) a;
}
best_same s named A B W V (Err e) same b h =
    let f = b.finds.0 in
    absurd (bad_answered s named f.reference e f.bad_ (h.0 f.place f.reference b.finds.1))

-- what comes before a reference at fault is answered
before_all : (s : Schema) (named : ℕ → Option Instance) (A W : ℕ → Reference → Type 0) (first : Result (Unit {0}) Bad) (place : ℕ) → BestOf s named A W first → ((j : ℕ) (r : Reference) → j < place → W j r → IsAnswered s named r) → (j : ℕ) (r : Reference) → j < place → A j r → IsAnswered s named r
before_all s named A W (Ok u) place b h j r less a = b j r a
before_all s named A W (Err e) place b h j r less a =
    let f = b.0 in
    ⊎_elim
    (λ (x : j < f.place). f.before j r x a)
    (λ (x : f.place ≤ j). absurd (bad_answered s named f.reference e f.bad_ (h f.place f.reference (omega arith) b.1)))
    (cases_lt j f.place)

-- the first fault against one more, or against the best before
pub best_first : (s : Schema) (named : ℕ → Option Instance) (A B W V : ℕ → Reference → Type 0) (first : Result (Unit {0}) Bad) (b : Bad) → ((k : ℕ) (r : Reference) → B k r ↔ V k r) → Best s named A W first → FindsBad s named W V (Err (record { bad = b; second = false })) → Best s named (or_asked A B) W (Err b)
best_first s named A B W V first b same best h = record {
  within = λ k r w. inl (best.within k r w);
  finds = (
    record {
      place = h.place;
      reference = h.reference;
      asked_ = inl (best.within h.place h.reference h.asked_);
      bad_ = h.bad_;
      before = λ j r less a. ⊎_elim (λ (x : A j r). before_all s named A W first h.place best.finds h.before j r less x) (λ (x : B j r). h.before_other j r less ((same j r).0 x)) a;
    },
    h.asked_,
  );
}

pub best_second : (s : Schema) (named : ℕ → Option Instance) (A B W V : ℕ → Reference → Type 0) (first : Result (Unit {0}) Bad) (b : Bad) → ((k : ℕ) (r : Reference) → B k r ↔ V k r) → Best s named A W first → FindsBad s named W V (Err (record { bad = b; second = true })) → Best s named (or_asked A B) V (Err b)
best_second s named A B W V first b same best h = record {
  within = λ k r v. inr ((same k r).1 v);
  finds = (
    record {
      place = h.place;
      reference = h.reference;
      asked_ = inr ((same h.place h.reference).1 h.asked_);
      bad_ = h.bad_;
      before = λ j r less a. ⊎_elim (λ (x : A j r). before_all s named A W first h.place best.finds h.before j r less x) (λ (x : B j r). h.before_other j r less ((same j r).0 x)) a;
    },
    h.asked_,
  );
}

pub best_iff : (s : Schema) (named : ℕ → Option Instance) (A B W : ℕ → Reference → Type 0) (first : Result (Unit {0}) Bad) → ((k : ℕ) (r : Reference) → A k r ↔ B k r) → Best s named A W first → Best s named B W first
best_iff s named A B W (Ok u) same b = record {
  within = λ k r w. (same k r).0 (b.within k r w);
  finds = λ k r x. b.finds k r ((same k r).1 x);
}
best_iff s named A B W (Err e) same b = let f = b.finds.0 in record {
  within = λ k r w. (same k r).0 (b.within k r w);
  finds = (record { place = f.place; reference = f.reference; asked_ = (same f.place f.reference).0 f.asked_; bad_ = f.bad_; before = λ j r less x. f.before j r less ((same j r).1 x) }, b.finds.1);
}

-- what the declarations before a place ask
abbrev pub AskedUpTo : Schema → (List ℕ → Type 0) → List Declaration → ℕ → Tree → ℕ → Reference → Type 0
AskedUpTo s InSet ds i p k r = (d : Declaration) × (IsIn (take i ds) d × RefersCounting s InSet ds d p k r)

abbrev pub no_declaration : Declaration
no_declaration = record { entity = []; form = form.derived }

module _ {X : Type 0} where
  in_less : (i : ℕ) (xs : List X) (x : X) → IsIn (take i xs) x → IsIn (take (suc i) xs) x
  in_less zero xs x h = elim h [ ]
  in_less (suc i) [] x h = h
  in_less (suc i) (y ∷ ys) x (inl e) = inl e
  in_less (suc i) (y ∷ ys) x (inr h) = inr (in_less i ys x h)

  in_more : (i : ℕ) (xs : List X) (x d : X) → i < length xs → IsIn (take (suc i) xs) x → IsIn (take i xs) x ⊎ (get_or xs i d ≡ x)
  in_more i [] x d h k = absurd (omega arith)
  in_more zero (y ∷ ys) x d h (inl e) = inr e
  in_more zero (y ∷ ys) x d h (inr k) = elim k [ ]
  in_more (suc i) (y ∷ ys) x d h (inl e) = inl (inl e)
  in_more (suc i) (y ∷ ys) x d h (inr k) = ⊎_elim (λ (a : IsIn (take i ys) x). inl (inr a)) (λ (b : get_or ys i d ≡ x). inr b) (in_more i ys x d (omega arith) k)

  in_at : (i : ℕ) (xs : List X) (d : X) → i < length xs → IsIn (take (suc i) xs) (get_or xs i d)
  in_at i [] d h = absurd (omega arith)
  in_at zero (y ∷ ys) d h = inl refl
  in_at (suc i) (y ∷ ys) d h = inr (in_at i ys d (omega arith))

-- one more declaration asks
pub up_to_more : (s : Schema) (InSet : List ℕ → Type 0) (ds : List Declaration) (i : ℕ) (p : Tree) (d : Declaration) → i < length ds → (k : ℕ) (r : Reference) → or_asked (AskedUpTo s InSet ds i p) (RefersCounting s InSet ds (get_or ds i d) p) k r ↔ AskedUpTo s InSet ds (i + 1) p k r
up_to_more s InSet ds i p d h k r = rw (add-one i) (there, back) where
  there : or_asked (AskedUpTo s InSet ds i p) (RefersCounting s InSet ds (get_or ds i d) p) k r → AskedUpTo s InSet ds (suc i) p k r
  there (inl a) = (a.0, (in_less i ds a.0 a.1.0, a.1.1))
  there (inr b) = (get_or ds i d, (in_at i ds d h, b))

  back : AskedUpTo s InSet ds (suc i) p k r → or_asked (AskedUpTo s InSet ds i p) (RefersCounting s InSet ds (get_or ds i d) p) k r
  back a = ⊎_elim (λ (x : IsIn (take i ds) a.0). inl (a.0, (x, a.1.1))) (λ (x : get_or ds i d ≡ a.0). inr (subst (λ (e : Declaration). RefersCounting s InSet ds e p k r) (sym x) a.1.1)) (in_more i ds a.0 d h a.1.0)

pub after_first : (s : Schema) (named : ℕ → Option Instance) (A B W V : ℕ → Reference → Type 0) (first : Result (Unit {0}) Bad) (f : FirstBad) → f.second ≡ false → ((k : ℕ) (r : Reference) → B k r ↔ V k r) → Best s named A W first → FindsBad s named W V (Err f) → Best s named (or_asked A B) W (Err f.bad)
after_first s named A B W V first f e same best h =
    best_first s named A B W V first f.bad same best (subst (λ (b : Bool). FindsBad s named W V (Err (record { bad = f.bad; second = b }))) e h)

pub after_second : (s : Schema) (named : ℕ → Option Instance) (A B W V : ℕ → Reference → Type 0) (first : Result (Unit {0}) Bad) (f : FirstBad) → f.second ≡ true → ((k : ℕ) (r : Reference) → B k r ↔ V k r) → Best s named A W first → FindsBad s named W V (Err f) → Best s named (or_asked A B) V (Err f.bad)
after_second s named A B W V first f e same best h =
    best_second s named A B W V first f.bad same best (subst (λ (b : Bool). FindsBad s named W V (Err (record { bad = f.bad; second = b }))) e h)

-- the declaration at a place
pub resolved_at : (s : Schema) (cs : List CodedDeclaration) (ds : List Declaration) (i : ℕ) (c : CodedDeclaration) → AreResolvedIn s cs ds → i < length cs → c ≡ get_or cs i c → IsResolvedDeclaration s c (get_or ds i no_declaration)
resolved_at s cs ds i c all h e = subst (λ (x : CodedDeclaration). IsResolvedDeclaration s x (get_or ds i no_declaration)) (sym e) (zip_at (IsResolvedDeclaration s) cs ds i c no_declaration all h)

pub place_below : (s : Schema) (cs : List CodedDeclaration) (ds : List Declaration) (i : ℕ) → AreResolvedIn s cs ds → i < length cs → i < length ds
place_below s cs ds i all h = subst (λ n. i < n) (zip_length (IsResolvedDeclaration s) cs ds all) h

-- one declaration more, in the terms of the loop
pub stepped : (s : Schema) (named : ℕ → Option Instance) (InSet : List ℕ → Type 0) (ds : List Declaration) (i : ℕ) (p : Tree) (W : ℕ → Reference → Type 0) (first : Result (Unit {0}) Bad) → i < length ds → Best s named (or_asked (AskedUpTo s InSet ds i p) (RefersCounting s InSet ds (get_or ds i no_declaration) p)) W first → Best s named (AskedUpTo s InSet ds (i + 1) p) W first
stepped s named InSet ds i p W first h b = best_iff s named (or_asked (AskedUpTo s InSet ds i p) (RefersCounting s InSet ds (get_or ds i no_declaration) p)) (AskedUpTo s InSet ds (i + 1) p) W first (up_to_more s InSet ds i p no_declaration h) b

-- all declarations
pub up_to_last : (s : Schema) (InSet : List ℕ → Type 0) (o : Origin) (cs : List CodedDeclaration) (ds : List Declaration) (i : ℕ) (p : Tree) → AreDeclarations s o ds → AreResolvedIn s cs ds → length cs ≤ i → (k : ℕ) (r : Reference) → AskedUpTo s InSet ds i p k r ↔ AskedBy s InSet o p k r
up_to_last s InSet o cs ds i p are all h k r = (
  (λ a. let f = a.1.1 in record { declaration = a.0; counts = counts_there s InSet o ds are (subst (λ (xs : List Declaration). IsIn xs a.0) whole a.1.0) f.counts; refers = f.refers }),
  (λ a. let f = counts_among s InSet o ds are a.counts in (a.declaration, (subst (λ (xs : List Declaration). IsIn xs a.declaration) (sym whole) f.0, record { counts = f.1; refers = a.refers }))),
) where
  whole : take i ds ≡ ds
  whole = take_all i ds (subst (λ n. n ≤ i) (zip_length (IsResolvedDeclaration s) cs ds all) h)

pub at_last : (s : Schema) (named : ℕ → Option Instance) (InSet : List ℕ → Type 0) (o : Origin) (cs : List CodedDeclaration) (ds : List Declaration) (i : ℕ) (p : Tree) (W : ℕ → Reference → Type 0) (first : Result (Unit {0}) Bad) → AreDeclarations s o ds → AreResolvedIn s cs ds → length cs ≤ i → Best s named (AskedUpTo s InSet ds i p) W first → FindsFirst s named (AskedBy s InSet o p) first
at_last s named InSet o cs ds i p W first are all h b = finish first (best_iff s named (AskedUpTo s InSet ds i p) (AskedBy s InSet o p) W first (up_to_last s InSet o cs ds i p are all h) b) where
  finish : (first : Result (Unit {0}) Bad) → Best s named (AskedBy s InSet o p) W first → FindsFirst s named (AskedBy s InSet o p) first
  finish (Ok u) b = b.finds
  finish (Err e) b = b.finds.0

-- where the same is asked, the same is found
pub found_alike : (s : Schema) (named : ℕ → Option Instance) (A B : ℕ → Reference → Type 0) (found : Result (Unit {0}) Bad) → ((k : ℕ) (r : Reference) → A k r ↔ B k r) → FindsFirst s named B found → FindsFirst s named A found
found_alike s named A B (Ok u) same h = λ k r a. h k r ((same k r).0 a)
found_alike s named A B (Err e) same h = record {
  place = h.place;
  reference = h.reference;
  asked_ = (same h.place h.reference).1 h.asked_;
  bad_ = h.bad_;
  before = λ j r less a. h.before j r less ((same j r).0 a);
}

-- a fault beside nothing
pub first_beside : (s : Schema) (named : ℕ → Option Instance) (p : Tree) (w : Wanted) (f : FirstBad) → FindsBad s named (Asks s asked.Nothing p) (Asks s w p) (Err f) → IsFirst s named (Asks s w p) f.bad
first_beside s named p w f h = record { place = h.place; reference = h.reference; asked_ = second f.second h.asked_; bad_ = h.bad_; before = h.before_other } where
  second : (b : Bool) → chosen b (Asks s asked.Nothing p) (Asks s w p) h.place h.reference → Asks s w p h.place h.reference
  second false x = elim x [ ]
  second true x = x

-- where no instance name stands, nothing is asked
pub no_names_asked : (s : Schema) (named : ℕ → Option Instance) (InSet : List ℕ → Type 0) (o : Origin) (p : Tree) → name_count p ≡ 0 → EachIsAnswered s named (AskedBy s InSet o p)
no_names_asked s named InSet o p none k r a = let below = refers_below a.refers.refers in absurd (omega (arith, none, below))
