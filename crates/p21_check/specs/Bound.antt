-- Which declaration of an attribute binds an instance, by the entities that it is of.
use Rattle.std.specs.Prelude.{◌≡◌, ◌⊎◌, ℕ, List}
use Rattle.p21_express.specs.Schema.{Schema}
use Rattle.p21_express.specs.WellFormed.{IsIn, IsAncestor}
use Rattle.p21_schema.specs.Declaration.{Declaration, IsResolvedDeclaration}
use Rattle.p21_check.specs.declared.binding.Binding.{Binding}
use Rattle.p21_check.specs.declared.binding.Binding.TheVariants as binding
use Rattle.p21_check.specs.Sets.{AnyIn, Derives}

-- no declaration is by an entity of the set
abbrev pub IsNoneIn : (List ℕ → Type 0) → List Declaration → Type 0
IsNoneIn InSet ds = (d : Declaration) → IsIn ds d → ¬ (InSet d.entity)

-- the declaration is by an entity of the set, and each other that is by one is by an ancestor of its entity; none is in DERIVE
pub record IsLowest (s : Schema) (InSet : List ℕ → Type 0) (ds : List Declaration) (d : Declaration) : Type 0 where
  pub among : IsIn ds d
  pub by : InSet d.entity
  pub explicit : ¬ (AnyIn ds (Derives InSet))
  pub above : (other : Declaration) → IsIn ds other → InSet other.entity → (d ≡ other) ⊎ IsAncestor s d.entity other.entity

-- what binds an attribute that has these declarations
abbrev pub IsBound : Schema → (List ℕ → Type 0) → List Declaration → Binding → Type 0
IsBound s InSet ds binding.Derived = AnyIn ds (Derives InSet)
IsBound s InSet ds (binding.By c) = (d : Declaration) × (IsResolvedDeclaration s c.now d × IsLowest s InSet ds d)
IsBound s InSet ds binding.Free = IsNoneIn InSet ds
IsBound s InSet ds binding.Unsaid = ¬ (AnyIn ds (Derives InSet))
