-- What is found of the value of an attribute, by its declarations one after the other.
use Rattle.std.specs.Prelude.{◌≡◌, ◌<◌, ℕ, Bool, true, false, List, [], ◌++◌, length, get_or}
use Rattle.p21_check.specs.Sets.{CountsAmong}
use Rattle.p21_express.specs.Schema.{Schema}
use Rattle.p21_express.specs.WellFormed.{Origin}
use Rattle.p21_schema.specs.Declaration.{Declaration, Form, derived}
use Rattle.p21_tree.specs.Sentence.{Instance}
use Rattle.p21_tree.specs.Tree.{Tree}
use Rattle.p21_tree.specs.Views.{plain_instance}
use Rattle.p21_check.specs.EntitySet.{IsInSet, keywords}
use Rattle.p21_schema.specs.Declaration.{AreResolvedIn}
use Rattle.p21_rules.specs.Named.{AreNamed}
use Rattle.p21_rules.specs.declared.slots.Slot.{Slot}
use Rattle.p21_rules.specs.Code.{value_code}
use Rattle.p21_rules.specs.Parameter.{IsValueOf, MeansBy}
use Rattle.p21_rules.specs.Value.{Value}

abbrev pub no_declaration : Declaration
no_declaration = record { entity = []; form = derived }

-- the entities that the instance is of
abbrev pub set_of : Slot → List ℕ → Type 0
set_of x n = IsInSet x.schema.now (plain_instance x.instance.now) n

-- it names what the records of the instance do, and the declarations are of the schema
pub record IsSlot (x : Slot) : Type 0 where
  pub named : AreNamed x.schema.now (keywords (plain_instance x.instance.now)) x.named.now
  pub declarations : List Declaration
  pub resolved : AreResolvedIn x.schema.now x.declarations.now declarations

-- the declaration at this place counts
abbrev pub CountsAt : Schema → (List ℕ → Type 0) → List Declaration → ℕ → Type 0
CountsAt s InSet ds place = (place < length ds) × CountsAmong s InSet ds (get_or ds place no_declaration)

-- where the declaration counts, the parameter is this value by it
abbrev pub MeansCounting : Schema → (List ℕ → Type 0) → List Declaration → Tree → Value → Declaration → Type 0
MeansCounting s InSet ds t v d = CountsAmong s InSet ds d → MeansBy s d.form t v

-- the value of the parameter by a declaration was added, or the parameter has none by it
abbrev pub IsPushedBy : Schema → Form → Tree → List ℕ → List ℕ → Bool → Type 0
IsPushedBy s f t old new true = (v : Value) × MeansBy s f t v × (new ≡ old ++ value_code v)
IsPushedBy s f t old new false = (v : Value) → ¬ (MeansBy s f t v)

-- the value of the parameter of an attribute was added, or the parameter has none
abbrev pub IsPushedOf : Schema → Instance → Origin → Tree → List ℕ → List ℕ → Bool → Type 0
IsPushedOf s i o t old new true = (v : Value) × IsValueOf s i o t v × (new ≡ old ++ value_code v)
IsPushedOf s i o t old new false = (v : Value) → ¬ (IsValueOf s i o t v)
