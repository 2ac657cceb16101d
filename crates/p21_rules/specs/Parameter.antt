-- The parameter of an instance that stands for an attribute.
use Rattle.std.specs.Prelude.{◌≡◌, ℕ, Bool, List, [], ◌∷◌, Option, None, Some, if◌then◌else◌}
use Rattle.std.specs.List.{AllZip}
use Rattle.p21_express.specs.Schema.{Schema}
use Rattle.p21_express.specs.WellFormed.{Origin}
use Rattle.p21_tree.specs.Tree.{Tree, Trees, nil, cons}
use Rattle.p21_tree.specs.Grammar.{Entry}
use Rattle.p21_tree.specs.Sentence.{Instance}
use Rattle.p21_schema.specs.Declaration.{Declaration, Form, derived, explicit}
use Rattle.p21_schema.specs.Row.{same_origin}
use Rattle.p21_check.specs.Attributes.{AreAttributes}
use Rattle.p21_check.specs.EntitySet.{IsInSet, keywords}
use Rattle.p21_check.specs.Sets.{AnyIn}
use Rattle.p21_check.specs.Slot.{Counts}
use Rattle.p21_rules.specs.Named.{IsBelow}
use Rattle.p21_rules.specs.Value.{Value}
use Rattle.p21_rules.specs.Means.{Means}

-- of the parameters of these attributes, one by one, that of this one
abbrev pub parameter_of : List Origin → Trees → Origin → Option Tree
parameter_of [] ts o = None
parameter_of (p ∷ os) nil o = None
parameter_of (p ∷ os) (cons t ts) o = if same_origin p o then Some t else parameter_of os ts o

-- The parameter of an attribute stands in the first record that has the attribute.
pub data IsParameterIn (s : Schema) (complex : Bool) (o : Origin) : List Entry → Tree → Type 0 where
  here : {e : Entry} {es : List Entry} {os : List Origin} {t : Tree} → AreAttributes s complex e.keyword os → parameter_of os e.params o ≡ Some t → IsParameterIn s complex o (e ∷ es) t
  behind : {e : Entry} {es : List Entry} {os : List Origin} {t : Tree} → AreAttributes s complex e.keyword os → parameter_of os e.params o ≡ None → IsParameterIn s complex o es t → IsParameterIn s complex o (e ∷ es) t

-- the parameter is this value by a declaration: by its type, and by one in DERIVE it is none
abbrev pub MeansBy : Schema → Form → Tree → Value → Type 0
MeansBy s derived t v = ⊥
MeansBy s (explicit optional x) t v = Means s x t v

-- The parameter of an attribute in an instance is this value by each of the declarations of the attribute that count there, of which there is one.
pub record IsValueOf (s : Schema) (i : Instance) (o : Origin) (t : Tree) (v : Value) : Type 0 where
  pub declaration : Declaration
  pub counts : Counts s (IsInSet s i) o declaration
  pub each : (d : Declaration) → Counts s (IsInSet s i) o d → MeansBy s d.form t v

-- the value of an attribute in an instance
-- What its parameter is by each declaration of the attribute that counts there; there is one.
abbrev pub HasValue : Schema → Instance → Origin → Value → Type 0
HasValue s i o v = (t : Tree) × IsParameterIn s i.complex o i.records t × IsValueOf s i o t v

-- the values of some attributes in an instance, one by one
abbrev pub HasValues : Schema → Instance → List Origin → List Value → Type 0
HasValues s i os vs = AllZip (HasValue s i) os vs

-- a record of the instance names the entity, or one that has it as an ancestor
abbrev pub IsOf : Schema → Instance → List ℕ → Type 0
IsOf s i n = AnyIn (keywords i) (IsBelow s n)
