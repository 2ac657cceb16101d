-- The instances of which something is kept in columns.
use Rattle.std.specs.Prelude.{◌≡◌, ℕ, zero, suc, ◌+◌, List, [], ◌∷◌, ◌++◌, None, All, length, map}
use Rattle.p21_express.specs.Schema.{Schema}
use Rattle.p21_schema.specs.declared.ids.EntityId.{EntityId}
use Rattle.p21_tree.specs.declared.instances.RawInstance.{RawInstance}
use Rattle.p21_check.specs.declared.referred.Reference.{Reference}
use Rattle.p21_check.specs.LocalFault.{IsLocalFault}
use Rattle.p21_counts.specs.Counts.{capped, complex_count, reference_count}
use Rattle.p21_join.specs.Model.{plain_instances}
use Rattle.p21_outline.specs.declared.columns.Columns.{Columns}
use Rattle.p21_outline.specs.declared.columns.Held.TheVariants as held
use Rattle.p21_outline.specs.declared.columns.Row.{Row}
use Rattle.p21_outline.specs.Rows.{HaveReferences, IsRow, row_instance}

-- the instances, in order
abbrev pub instances_in : Columns → List RawInstance
instances_in c = map (row_instance c.wholes.items) c.rows.items

-- No instance has a fault by itself against the schema, and what is kept of them is so by the schema.
pub record AreColumns (s : Schema) (c : Columns) : Type 0 where
  pub sound : All (λ i. IsLocalFault s i None) (plain_instances (instances_in c))
  pub rows : All (IsRow s c.wholes.items) c.rows.items
  pub references : HaveReferences s c.references.items 0 c.rows.items
  pub complex : length c.wholes.items ≡ complex_count (plain_instances (instances_in c))
  pub written : c.written ≡ capped (reference_count (plain_instances (instances_in c)))

-- A row comes after the others, with these references, after those of the others, and with these that are whole. So many more names
-- are written.
pub record AppendsRow (old : Columns) (row : Row) (references : List Reference) (wholes : List RawInstance) (written : ℕ) (new : Columns) : Type 0 where
  pub rows : new.rows.items ≡ old.rows.items ++ row ∷ []
  pub references_ : new.references.items ≡ old.references.items ++ references
  pub wholes_ : new.wholes.items ≡ old.wholes.items ++ wholes
  pub written_ : new.written ≡ capped (old.written + written)
  pub end : row.end ≡ length new.references.items

-- a simple instance that was let go comes after the others, with its entity and its references
abbrev pub AppendsSimple : Columns → ℕ → EntityId → List Reference → RawInstance → Columns → Type 0
AppendsSimple old written entity references gone new = (row : Row) × (row.held ≡ held.Simple entity.index) × (row.gone.value ≡ gone) × AppendsRow old row references [] written new

-- an instance that is whole comes after the others
abbrev pub AppendsWhole : Columns → ℕ → RawInstance → Columns → Type 0
AppendsWhole old written whole new = (row : Row) × (row.held ≡ held.Whole (length old.wholes.items)) × AppendsRow old row [] (whole ∷ []) written new

-- an instance comes after the others, and what is kept of it is so by the schema
pub record Adds (s : Schema) (old : Columns) (i : RawInstance) (new : Columns) : Type 0 where
  pub instances : instances_in new ≡ instances_in old ++ i ∷ []
  pub fits : AreColumns s old → AreColumns s new

-- what is kept of the instances of `more` comes after the others
pub record Joins (old more new : Columns) : Type 0 where
  pub instances : instances_in new ≡ instances_in old ++ instances_in more
  pub fits : (s : Schema) → AreColumns s old → AreColumns s more → AreColumns s new

-- what is kept is as it was
abbrev pub IsAsItWas : Columns → Columns → Type 0
IsAsItWas old new = (new.rows.items ≡ old.rows.items) × (new.references.items ≡ old.references.items) × (new.wholes.items ≡ old.wholes.items) × (new.written ≡ old.written)

-- where the references of the row at a place begin, where those of the first row begin at this place
abbrev pub start_at : ℕ → List Row → ℕ → ℕ
start_at start rows zero = start
start_at start [] (suc place) = start
start_at start (row ∷ rows) (suc place) = start_at row.end rows place
