-- An instance name, as types ask for it.
use Rattle.std.proofs.Common.{◌≡◌, ℕ, ◌<◌, inl, inr, true, false, List, [], Option, Some, None, Err, refl, sym, ap, subst, ◌∙◌, arith}
use Rattle.std.proofs.lemmas.Bool.{false≢true}
use Rattle.p21_express.specs.Schema.{Schema}
use Rattle.p21_tree.specs.Tree.{reference}
use Rattle.p21_tree.specs.Sentence.{Instance}
use Rattle.p21_tree.specs.Views.{plain_instance}
use Rattle.p21_schema.specs.Place.{entity_name, type_name}
use Rattle.p21_check.specs.declared.entity_of.Named.{Named}
use Rattle.p21_check.specs.declared.entity_of.Named.TheVariants as known
use Rattle.p21_check.specs.EntityOf.{IsKnownAs}
use Rattle.p21_check.specs.References.{Reference, IsWanted}
use Rattle.p21_check.specs.declared.wanted.Wanted.{Wanted}
use Rattle.p21_check.specs.declared.wanted.Wanted.TheVariants as asked
use Rattle.p21_check.specs.declared.walk.Bad.TheVariants as bad
use Rattle.p21_check.specs.Wanted.{Admits, Asks, is_name}
use Rattle.p21_check.specs.Walk.{FindsBad, EachIsAnswered}

wanted_name : Schema → Wanted → List ℕ
wanted_name s asked.Nothing = []
wanted_name s (asked.Entity e) = entity_name s e
wanted_name s (asked.Select t) = type_name s t
wanted_name s (asked.Elements e) = []

-- what is asked of an instance name
asks_name : (s : Schema) (w : Wanted) (n k : ℕ) (r : Reference) → Asks s w (reference n) k r → (r.name ≡ n) × (r.wanted ≡ wanted_name s w) × (is_name w ≡ true)
unfolding wanted_name
asks_name s asked.Nothing n k r a = elim a [ ]
asks_name s (asked.Entity e) n k r a = (let f = a.name in cc, a.for_, refl)
asks_name s (asked.Select t) n k r (inl a) = (let f = a.name in cc, a.for_, refl)
asks_name s (asked.Select t) n k r (inr a) = let f = a.typed_ in absurd cc
asks_name s (asked.Elements e) n k r a = let f = a.listed in absurd cc

name_asks : (s : Schema) (w : Wanted) (n : ℕ) → is_name w ≡ true → Asks s w (reference n) 0 (record { name = n; wanted = wanted_name s w })
unfolding wanted_name
name_asks s asked.Nothing n h = absurd (false≢true h)
name_asks s (asked.Entity e) n h = record { name = refl; first = refl; for_ = refl }
name_asks s (asked.Select t) n h = inl (record { name = refl; first = refl; for_ = refl })
name_asks s (asked.Elements e) n h = absurd (false≢true h)

admits_wanted : (s : Schema) (w : Wanted) (i : Instance) → is_name w ≡ true → Admits s w i → IsWanted s i (wanted_name s w)
unfolding wanted_name
admits_wanted s asked.Nothing i h a = absurd (false≢true h)
admits_wanted s (asked.Entity e) i h a = a
admits_wanted s (asked.Select t) i h a = a
admits_wanted s (asked.Elements e) i h a = absurd (false≢true h)

-- what is not admitted is an instance name that is asked for
refused : (s : Schema) (w : Wanted) (i : Instance) → ¬ (Admits s w i) → (is_name w ≡ true) × ¬ (IsWanted s i (wanted_name s w))
unfolding wanted_name
refused s asked.Nothing i h = absurd (h tt)
refused s (asked.Entity e) i h = (refl, h)
refused s (asked.Select t) i h = (refl, h)
refused s (asked.Elements e) i h = absurd (h tt)

-- no name is asked for
pub unasked : (s : Schema) (named : ℕ → Option Instance) (w : Wanted) (n : ℕ) → is_name w ≡ false → EachIsAnswered s named (Asks s w (reference n))
unasked s named w n h k r a = absurd (false≢true (sym h ∙ (asks_name s w n k r a).2))

pub answered : (s : Schema) (named : ℕ → Option Instance) (w : Wanted) (n : ℕ) (i : Instance) → named n ≡ Some i → Admits s w i → EachIsAnswered s named (Asks s w (reference n))
answered s named w n i e h k r a =
    let is = asks_name s w n k r a in
    record {
      found = i;
      has = ap named is.0 ∙ e;
      wanted_ = subst (IsWanted s i) (sym is.1) (admits_wanted s w i is.2 h);
    }

below_none : (j : ℕ) → j < 0 → ⊥
below_none j h = omega arith

pub missing_first : (s : Schema) (named : ℕ → Option Instance) (v w : Wanted) (n : ℕ) → named n ≡ None → is_name v ≡ true → FindsBad s named (Asks s v (reference n)) (Asks s w (reference n)) (Err (record { bad = bad.Missing n; second = false }))
missing_first s named v w n e h = record {
  place = 0;
  reference = record { name = n; wanted = wanted_name s v };
  asked_ = name_asks s v n h;
  bad_ = (refl, e);
  before = λ j r less a. absurd (below_none j less);
  before_other = λ j r less a. absurd (below_none j less);
}

pub missing_second : (s : Schema) (named : ℕ → Option Instance) (v w : Wanted) (n : ℕ) → named n ≡ None → is_name w ≡ true → FindsBad s named (Asks s v (reference n)) (Asks s w (reference n)) (Err (record { bad = bad.Missing n; second = true }))
missing_second s named v w n e h = record {
  place = 0;
  reference = record { name = n; wanted = wanted_name s w };
  asked_ = name_asks s w n h;
  bad_ = (refl, e);
  before = λ j r less a. absurd (below_none j less);
  before_other = λ j r less a. absurd (below_none j less);
}

pub wrong_first : (s : Schema) (named : ℕ → Option Instance) (v w : Wanted) (n : ℕ) (i : Instance) → named n ≡ Some i → ¬ (Admits s v i) → FindsBad s named (Asks s v (reference n)) (Asks s w (reference n)) (Err (record { bad = bad.Wrong n; second = false }))
wrong_first s named v w n i e h = record {
  place = 0;
  reference = record { name = n; wanted = wanted_name s v };
  asked_ = name_asks s v n (refused s v i h).0;
  bad_ = (refl, record { found = i; has = e; unwanted = (refused s v i h).1 });
  before = λ j r less a. absurd (below_none j less);
  before_other = λ j r less a. absurd (below_none j less);
}

pub wrong_second : (s : Schema) (named : ℕ → Option Instance) (v w : Wanted) (n : ℕ) (i : Instance) → named n ≡ Some i → ¬ (Admits s w i) → FindsBad s named (Asks s v (reference n)) (Asks s w (reference n)) (Err (record { bad = bad.Wrong n; second = true }))
wrong_second s named v w n i e h = record {
  place = 0;
  reference = record { name = n; wanted = wanted_name s w };
  asked_ = name_asks s w n (refused s w i h).0;
  bad_ = (refl, record { found = i; has = e; unwanted = (refused s w i h).1 });
  before = λ j r less a. absurd (below_none j less);
  before_other = λ j r less a. absurd (below_none j less);
}

-- an instance has the name, and is known by the schema
pub known_one : (s : Schema) (o : Option Instance) (k : Named) → IsKnownAs s o k → ¬ (k ≡ known.Missing) → (i : Instance) × (o ≡ Some i) × IsKnownAs s (Some i) k
known_one s o known.Missing h there = absurd (there refl)
known_one s o (known.Other r) h there = (plain_instance r.now, h.0, (refl, h.1))
known_one s o (known.Simple id) h there = (h.0, h.1, (h.0, refl, h.2))
