-- The first of some references that is at fault.
use Rattle.std.specs.Prelude.{◌≡◌, ◌<◌, ℕ, Bool, true, false, Option, Some, None, Result, Ok, Err}
use Rattle.p21_tree.specs.Sentence.{Instance}
use Rattle.p21_express.specs.Schema.{Schema}
use Rattle.p21_check.specs.declared.walk.Bad.{Bad}
use Rattle.p21_check.specs.declared.walk.Bad.TheVariants as bad
use Rattle.p21_check.specs.declared.walk.FirstBad.{FirstBad}
use Rattle.p21_check.specs.References.{Reference, IsWanted}

-- the instance that has the name is wanted
pub record IsAnswered (s : Schema) (named : ℕ → Option Instance) (r : Reference) : Type 0 where
  pub found : Instance
  pub has : named r.name ≡ Some found
  pub wanted_ : IsWanted s found r.wanted

-- the instance that has the name is not wanted
pub record IsUnwanted (s : Schema) (named : ℕ → Option Instance) (r : Reference) : Type 0 where
  pub found : Instance
  pub has : named r.name ≡ Some found
  pub unwanted : ¬ (IsWanted s found r.wanted)

abbrev pub IsBad : Schema → (ℕ → Option Instance) → Reference → Bad → Type 0
IsBad s named r (bad.Missing n) = (r.name ≡ n) × (named r.name ≡ None)
IsBad s named r (bad.Wrong n) = (r.name ≡ n) × IsUnwanted s named r

-- of what is asked each is answered
abbrev pub EachIsAnswered : Schema → (ℕ → Option Instance) → (ℕ → Reference → Type 0) → Type 0
EachIsAnswered s named A = (place : ℕ) (r : Reference) → A place r → IsAnswered s named r

abbrev pub chosen : Bool → (ℕ → Reference → Type 0) → (ℕ → Reference → Type 0) → ℕ → Reference → Type 0
chosen false A B = A
chosen true A B = B

-- the first of what two ask that is at fault
pub record IsFirstBad (s : Schema) (named : ℕ → Option Instance) (A B : ℕ → Reference → Type 0) (f : FirstBad) : Type 0 where
  pub place : ℕ
  pub reference : Reference
  pub asked_ : chosen f.second A B place reference
  pub bad_ : IsBad s named reference f.bad
  pub before : (j : ℕ) (r : Reference) → j < place → A j r → IsAnswered s named r
  pub before_other : (j : ℕ) (r : Reference) → j < place → B j r → IsAnswered s named r

abbrev pub FindsBad : Schema → (ℕ → Option Instance) → (ℕ → Reference → Type 0) → (ℕ → Reference → Type 0) → Result (Unit {0}) FirstBad → Type 0
FindsBad s named A B (Ok u) = EachIsAnswered s named A × EachIsAnswered s named B
FindsBad s named A B (Err f) = IsFirstBad s named A B f
