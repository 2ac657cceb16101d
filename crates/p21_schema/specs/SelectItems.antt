-- The items of SELECTs by their places.
use Rattle.std.specs.Prelude.{◌≡◌, ◌<◌, ◌↔◌, ℕ, List, [], length, get_or, Option, Some, None, slice_get}
use Rattle.p21_express.specs.WellFormed.{IsIn}
use Rattle.p21_schema.specs.declared.resolved.Target.{Target}
use Rattle.p21_schema.specs.declared.resolved.Target.TheVariants as target
use Rattle.p21_schema.specs.declared.resolved.Resolved.{Resolved}
use Rattle.p21_schema.specs.declared.resolved.Resolved.TheVariants as resolved
use Rattle.p21_schema.specs.declared.selects.Item.{Item}
use Rattle.p21_schema.specs.declared.selects.Item.TheVariants as item

-- what a type is by what stands under it
abbrev pub kind_under : Option Resolved → Item
kind_under (Some (resolved.Select v)) = item.Select
kind_under (Some (resolved.Items v)) = item.Other
kind_under (Some (resolved.Plain e)) = item.Other
kind_under None = item.Other

abbrev pub kind_of : List Resolved → Target → Item
kind_of unders (target.Entity e) = item.Entity
kind_of unders (target.Defined t) = kind_under (slice_get unders t.index)

abbrev pub place_of : Target → ℕ
place_of (target.Entity e) = e.index
place_of (target.Defined t) = t.index

-- the items of a SELECT
abbrev pub targets_of : Resolved → List Target
targets_of (resolved.Items v) = []
targets_of (resolved.Select v) = v.items
targets_of (resolved.Plain e) = []

-- one of the items is of this kind, and stands at this place
pub record IsItemAt (unders : List Resolved) (wanted : Item) (targets : List Target) (k : ℕ) : Type 0 where
  pub target : Target
  pub item : IsIn targets target
  pub kind : kind_of unders target ≡ wanted
  pub place : place_of target ≡ k

abbrev pub IsItemRow : List Resolved → Item → List Target → List ℕ → Type 0
IsItemRow unders wanted targets row = (k : ℕ) → IsIn row k ↔ IsItemAt unders wanted targets k

-- a row for each type, of its items of this kind
pub record IsItemGraph (unders : List Resolved) (wanted : Item) (graph : List (List ℕ)) : Type 0 where
  pub count : length graph ≡ length unders
  pub rows : (i : ℕ) (d : Resolved) → i < length unders → IsItemRow unders wanted (targets_of (get_or unders i d)) (get_or graph i [])
