-- What the declarations of an attribute that count ask of the references in a parameter.
use Rattle.std.specs.Prelude.{◌≡◌, ◌<◌, ◌↔◌, ℕ, Bool, List, Option, Some, None, Result, Ok, Err, MatchResult, slice_get, length}
use Rattle.p21_tree.specs.Tree.{Tree, Trees}
use Rattle.p21_tree.specs.declared.faults.FaultKind.{FaultKind}
use Rattle.p21_tree.specs.declared.faults.FaultKind.TheVariants as kind
use Rattle.p21_tree.specs.Sentence.{Instance}
use Rattle.p21_express.specs.Schema.{Schema, Expr}
use Rattle.p21_express.specs.WellFormed.{Origin}
use Rattle.p21_schema.specs.Declaration.{Declaration, Form, AreDeclarations}
use Rattle.p21_schema.specs.Declaration as form
use Rattle.p21_check.specs.declared.wanted.Wanted.{Wanted}
use Rattle.p21_check.specs.declared.walk.Bad.{Bad}
use Rattle.p21_check.specs.declared.walk.Bad.TheVariants as bad
use Rattle.p21_check.specs.LocalFault.{tree_get}
use Rattle.p21_check.specs.References.{Reference, Refers, IsReferenceFault}
use Rattle.p21_check.specs.Sets.{CountsAmong}
use Rattle.p21_check.specs.Slot.{Counts}
use Rattle.p21_check.specs.Wanted.{Asks, IsAsked}
use Rattle.p21_check.specs.Walk.{IsAnswered, EachIsAnswered, IsBad}

-- a reference against a declaration of this form, which is explicit
pub record RefersByForm (s : Schema) (f : Form) (p : Tree) (place : ℕ) (r : Reference) : Type 0 where
  pub optional : Bool
  pub texpr : Expr
  pub explicit : f ≡ form.explicit optional texpr
  pub refers : Refers s texpr p place r

-- this is what a declaration of this form asks
pub record AsksByForm (s : Schema) (f : Form) (w : Wanted) : Type 0 where
  pub asked_ : IsAsked s w
  pub same : (p : Tree) (place : ℕ) (r : Reference) → RefersByForm s f p place r ↔ Asks s w p place r

-- a reference against the declaration, which counts
pub record RefersCounting (s : Schema) (InSet : List ℕ → Type 0) (ds : List Declaration) (d : Declaration) (p : Tree) (place : ℕ) (r : Reference) : Type 0 where
  pub counts : CountsAmong s InSet ds d
  pub refers : RefersByForm s d.form p place r

-- this is what the declaration asks, where it counts
pub record AsksAsCounted (s : Schema) (InSet : List ℕ → Type 0) (ds : List Declaration) (d : Declaration) (w : Wanted) : Type 0 where
  pub asked_ : IsAsked s w
  pub same : (p : Tree) (place : ℕ) (r : Reference) → RefersCounting s InSet ds d p place r ↔ Asks s w p place r

-- a reference against one of the declarations that count
pub record AskedBy (s : Schema) (InSet : List ℕ → Type 0) (o : Origin) (p : Tree) (place : ℕ) (r : Reference) : Type 0 where
  pub declaration : Declaration
  pub counts : Counts s InSet o declaration
  pub refers : RefersByForm s declaration.form p place r

-- the first of what is asked that is at fault
pub record IsFirst (s : Schema) (named : ℕ → Option Instance) (A : ℕ → Reference → Type 0) (b : Bad) : Type 0 where
  pub place : ℕ
  pub reference : Reference
  pub asked_ : A place reference
  pub bad_ : IsBad s named reference b
  pub before : (j : ℕ) (r : Reference) → j < place → A j r → IsAnswered s named r

abbrev pub FindsFirst : Schema → (ℕ → Option Instance) → (ℕ → Reference → Type 0) → Result (Unit {0}) Bad → Type 0
FindsFirst s named A (Ok u) = EachIsAnswered s named A
FindsFirst s named A (Err b) = IsFirst s named A b

-- the fault of a parameter, by its record and its place in it
abbrev pub kind_at : ℕ → ℕ → Bad → FaultKind
kind_at rec_ attr (bad.Missing n) = kind.MissingReference rec_ attr n
kind_at rec_ attr (bad.Wrong n) = kind.WrongReference rec_ attr n

-- the parameters before a place have no fault
abbrev pub AreFaultless : Schema → (ℕ → Option Instance) → (List ℕ → Type 0) → List Origin → Trees → ℕ → Type 0
AreFaultless s named InSet os ts attr = (a : ℕ) (o : Origin) (t : Tree) → a < attr → slice_get os a ≡ Some o → tree_get ts a ≡ Some t → EachIsAnswered s named (AskedBy s InSet o t)

-- the first fault of a record
pub record IsRecordFault (s : Schema) (named : ℕ → Option Instance) (InSet : List ℕ → Type 0) (os : List Origin) (ts : Trees) (rec_ : ℕ) (k : FaultKind) : Type 0 where
  pub attr : ℕ
  pub attribute : Origin
  pub parameter : Tree
  pub bad_ : Bad
  pub for_ : slice_get os attr ≡ Some attribute
  pub given : tree_get ts attr ≡ Some parameter
  pub first : IsFirst s named (AskedBy s InSet attribute parameter) bad_
  pub is : k ≡ kind_at rec_ attr bad_
  pub before : AreFaultless s named InSet os ts attr

abbrev pub FindsInRecord : Schema → (ℕ → Option Instance) → (List ℕ → Type 0) → List Origin → Trees → ℕ → Result (Unit {0}) FaultKind → Type 0
FindsInRecord s named InSet os ts rec_ (Ok u) = AreFaultless s named InSet os ts (length os)
FindsInRecord s named InSet os ts rec_ (Err k) = IsRecordFault s named InSet os ts rec_ k

-- what `check_references` answers
abbrev pub IsReferenceAnswer : Schema → (ℕ → Option Instance) → Instance → Result (Unit {0}) FaultKind → Type 0
IsReferenceAnswer s named i r = MatchResult r (λ _. IsReferenceFault s named i None) (λ k. IsReferenceFault s named i (Some k))
