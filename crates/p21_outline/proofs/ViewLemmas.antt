-- Rows by their places, and what is known of their instances.
use Rattle.std.proofs.Common.{◌≡◌, ℕ, ◌<◌, Some, None, true, true≢false, length, get_or, sym, ap, subst, ◌∙◌, arith, Bor}
use Rattle.std.specs.Prelude.{All}
use Rattle.std.proofs.lemmas.List.{get_or-map, get_or_default, length-map}
use Rattle.std.proofs.lemmas.List.Elements.{All-get_or}
use Rattle.p21_express.specs.Schema.{Schema}
use Rattle.p21_schema.specs.Ancestry.{entity_id}
use Rattle.p21_tree.specs.declared.instances.RawInstance.{RawInstance}
use Rattle.p21_tree.specs.Views.{plain_instance}
use Rattle.p21_check.specs.EntityOf.{IsKnownAs, IsSimpleEntity, IsSimpleOf}
use Rattle.p21_check.specs.declared.entity_of.Named.TheVariants as known
use Rattle.p21_check.specs.References.{named_in}
use Rattle.p21_join.specs.Model.{plain_instances}
use Rattle.p21_join.specs.Names.{HaveOwnNames, IsPosition}
use Rattle.p21_outline.specs.declared.columns.Columns.{Columns}
use Rattle.p21_outline.specs.declared.columns.Held.TheVariants as held
use Rattle.p21_outline.specs.declared.columns.Row.{Row}
use Rattle.p21_outline.specs.Rows.{IsHeld, IsRow, held_instance, row_instance}
use Rattle.p21_outline.specs.Columns.{instances_in}
use Rattle.p21_outline.proofs.NameLemmas.{some_named}

-- there is a row for each instance
pub row_within : (c : Columns) (k : ℕ) → k < length (instances_in c) → k < length c.rows.items
row_within c k less = let long = length-map c.rows.items (row_instance c.wholes.items) in omega arith

-- the row at a place, what it holds, and what that is by a schema
pub record RowAt (s : Schema) (c : Columns) (k : ℕ) (row : Row) : Type 0 where
  pub less : k < length c.rows.items
  pub there : row ≡ get_or c.rows.items k row
  pub rows : All (IsRow s c.wholes.items) c.rows.items

-- its instance stands at the same place
pub stands_there : (s : Schema) (c : Columns) (k : ℕ) (row : Row) → RowAt s c k row → (d : RawInstance) → get_or (instances_in c) k d ≡ row_instance c.wholes.items row
stands_there s c k row h d = get_or-map (row_instance c.wholes.items) c.rows.items k row d h.less ∙ ap (row_instance c.wholes.items) (sym h.there)

pub is_row : (s : Schema) (c : Columns) (k : ℕ) (row : Row) → RowAt s c k row → IsRow s c.wholes.items row
is_row s c k row h = subst (IsRow s c.wholes.items) (sym h.there) (All-get_or (IsRow s c.wholes.items) c.rows.items k row h.less h.rows)

-- of a simple instance
pub is_simple : (s : Schema) (c : Columns) (k : ℕ) (row : Row) (e : ℕ) → RowAt s c k row → row.held ≡ held.Simple e → IsSimpleOf s (plain_instance row.gone.value) (entity_id e)
is_simple s c k row e h is = subst (IsHeld s c.wholes.items row.gone.value) is (is_row s c k row h)

pub simple_instance : (s : Schema) (c : Columns) (k : ℕ) (row : Row) (e : ℕ) → RowAt s c k row → row.held ≡ held.Simple e → (d : RawInstance) → get_or (instances_in c) k d ≡ row.gone.value
simple_instance s c k row e h is d = stands_there s c k row h d ∙ ap (held_instance c.wholes.items row.gone.value) is

-- of a complex one
pub is_whole : (s : Schema) (c : Columns) (k : ℕ) (row : Row) (at : ℕ) → RowAt s c k row → row.held ≡ held.Whole at → (at < length c.wholes.items) × ((get_or c.wholes.items at row.gone.value).complex ≡ true)
is_whole s c k row at h is = subst (IsHeld s c.wholes.items row.gone.value) is (is_row s c k row h)

pub whole_instance : (s : Schema) (c : Columns) (k : ℕ) (row : Row) (at : ℕ) (i : RawInstance) → RowAt s c k row → row.held ≡ held.Whole at → i ≡ get_or c.wholes.items at i → (d : RawInstance) → get_or (instances_in c) k d ≡ i
whole_instance s c k row at i h is there d =
    let less = (is_whole s c k row at h is).0 in
    stands_there s c k row h d ∙ (ap (held_instance c.wholes.items row.gone.value) is ∙ (get_or_default c.wholes.items at row.gone.value i less ∙ sym there))

-- a complex instance has no one entity
pub no_entity : (s : Schema) (i : RawInstance) → i.complex ≡ true → IsSimpleEntity s (plain_instance i) None
no_entity s i complex e h = absurd (true≢false (sym complex ∙ h.simple))

pub whole_complex : (s : Schema) (c : Columns) (k : ℕ) (row : Row) (at : ℕ) (i : RawInstance) → RowAt s c k row → row.held ≡ held.Whole at → i ≡ get_or c.wholes.items at i → i.complex ≡ true
whole_complex s c k row at i h is there =
    let whole = is_whole s c k row at h is in
    ap (λ (x : RawInstance). x.complex) (there ∙ get_or_default c.wholes.items at i row.gone.value whole.0) ∙ whole.1

-- ---- the instance of a name

pub named_simple : (s : Schema) (c : Columns) (name k : ℕ) (row : Row) (e : ℕ) → HaveOwnNames (instances_in c) → IsPosition (instances_in c) name (Some k) → RowAt s c k row → row.held ≡ held.Simple e
    → IsKnownAs s (named_in (plain_instances (instances_in c)) name) (known.Simple (entity_id e))
named_simple s c name k row e own position h is =
    let i = row.gone.value in
    (plain_instance i, some_named (instances_in c) name k i own position (simple_instance s c k row e h is i), is_simple s c k row e h is)

pub named_whole : (s : Schema) (c : Columns) (name k : ℕ) (row : Row) (at : ℕ) (i : Bor RawInstance) → HaveOwnNames (instances_in c) → IsPosition (instances_in c) name (Some k) → RowAt s c k row → row.held ≡ held.Whole at
    → i.now ≡ get_or c.wholes.items at i.now → IsKnownAs s (named_in (plain_instances (instances_in c)) name) (known.Other i)
named_whole s c name k row at i own position h is there =
    (some_named (instances_in c) name k i.now own position (whole_instance s c k row at i.now h is there i.now), no_entity s i.now (whole_complex s c k row at i.now h is there))
