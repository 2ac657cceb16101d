-- The declarations of an attribute.
use Rattle.std.specs.Prelude.{◌≡◌, ℕ, Bool, true, false, List, [], ◌∷◌, ◌++◌, map, Option, Some, None}
use Rattle.std.specs.List.{AllZip}
use Rattle.p21_express.specs.Schema.{Schema, Entity, Attribute, Derived, Expr}
use Rattle.p21_express.specs.WellFormed.{Origin, DeclaresAgain, IsKnown}
use Rattle.p21_schema.specs.declared.declarations.Declaration.{Declaration as Coded}
use Rattle.p21_schema.specs.declared.declarations.Form.{Form as CodedForm}
use Rattle.p21_schema.specs.declared.declarations.Form.TheVariants as coded
use Rattle.p21_schema.specs.Place.{entity_name, IsEntityOf}
use Rattle.p21_schema.specs.Resolved.{resolved_expr}

-- what a declaration makes of an attribute: in DERIVE; or explicit, with or without OPTIONAL, of a type
pub data Form : Type 0 where
  derived : Form
  explicit : Bool → Expr → Form

-- a declaration by the name of the entity that it stands in
pub record Declaration : Type 0 where
  pub entity : List ℕ
  pub form : Form

-- an attribute as an entity writes it; `of` is the entity after SELF, where it is declared again
pub record Written : Type 0 where
  pub entity : List ℕ
  pub name : List ℕ
  pub of : Option (List ℕ)
  pub form : Form

abbrev pub written_explicit : List ℕ → Attribute → Written
written_explicit n a = record { entity = n; name = a.name; of = a.of; form = explicit a.optional a.texpr }

abbrev pub written_derived : List ℕ → Derived → Written
written_derived n d = record { entity = n; name = d.name; of = d.of; form = derived }

-- the explicit attributes that an entity writes, and those of DERIVE
abbrev pub explicit_in : Entity → List Written
explicit_in e = map (written_explicit e.name) e.attributes

abbrev pub derived_in : Entity → List Written
derived_in e = map (written_derived e.name) e.derived

-- what entities write, in the order of the text
-- The explicit attributes of each entity, then those of DERIVE.
abbrev pub written : List Entity → List Written
written [] = []
written (e ∷ es) = explicit_in e ++ derived_in e ++ written es

abbrev pub is_explicit : Form → Bool
is_explicit derived = false
is_explicit (explicit o e) = true

-- What an entity writes declares an explicit attribute: newly, in the entity and under the name that are the attribute's; or
-- again, explicit or in DERIVE, as SELF\of.name, where `of` and its ancestors newly declare that one attribute of the name.
pub data Declares (s : Schema) (o : Origin) (w : Written) : Type 0 where
  newly : (optional : Bool) (texpr : Expr) → w.of ≡ None → w.form ≡ explicit optional texpr → w.entity ≡ o.entity → w.name ≡ o.name → Declares s o w
  again : (of : List ℕ) → w.of ≡ Some of → w.name ≡ o.name → DeclaresAgain s w.entity (record { of = of; name = w.name; explicit = is_explicit w.form }) o.entity → Declares s o w

-- those of a list that are as wanted, in its order, each as its image
pub data Chosen {X Y : Type 0} (Wanted : X → Type 0) (image : X → Y) : List X → List Y → Type 0 where
  none : Chosen Wanted image [] []
  kept : {x : X} {xs : List X} {ys : List Y} → Wanted x → Chosen Wanted image xs ys → Chosen Wanted image (x ∷ xs) (image x ∷ ys)
  dropped : {x : X} {xs : List X} {ys : List Y} → ¬ (Wanted x) → Chosen Wanted image xs ys → Chosen Wanted image (x ∷ xs) ys

abbrev pub declaration : Written → Declaration
declaration w = record { entity = w.entity; form = w.form }

-- all declarations of an attribute, in the order of the text: the one that newly declares it, and each that declares it again
abbrev pub AreDeclarations : Schema → Origin → List Declaration → Type 0
AreDeclarations s o ds = Chosen (Declares s o) declaration (written s.entities) ds

-- the form with an entity or a type in the place of each name, which each name is
abbrev pub IsResolvedForm : Schema → CodedForm → Form → Type 0
IsResolvedForm s coded.Derived derived = Unit {0}
IsResolvedForm s (coded.Explicit o e) (explicit p x) = (o ≡ p) × ((resolved_expr (map (λ e. e.name) s.entities) (map (λ t. t.name) s.types) e ≡ Some x) × IsKnown s x)
IsResolvedForm s _ _ = ⊥

-- the declaration with the entity that it stands in, and with an entity or a type in the place of each name
pub record IsResolvedDeclaration (s : Schema) (d : Coded) (p : Declaration) : Type 0 where
  pub known : IsEntityOf s d.entity
  pub entity : entity_name s d.entity ≡ p.entity
  pub form : IsResolvedForm s d.form p.form

-- the same, declaration by declaration
abbrev pub AreResolvedIn : Schema → List Coded → List Declaration → Type 0
AreResolvedIn s ds ps = AllZip (IsResolvedDeclaration s) ds ps
