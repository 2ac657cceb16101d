-- A row that is made, with marks for the attributes that stand in it.
use Rattle.std.specs.Prelude.{◌≡◌, ◌<◌, ◌≤◌, ℕ, nat_eq, List, Some, length, get_or}
use Rattle.std.specs.List.{list_any}
use Rattle.p21_express.specs.WellFormed.{IsIn, AreDistinct}
use Rattle.p21_schema.specs.declared.draft.Draft.{Draft}
use Rattle.p21_schema.specs.declared.ids.AttrId.{AttrId}
use Rattle.p21_schema.specs.RowTable.{same_id, row_of}

-- an attribute has the number of the row as its mark where it stands in the row, and no mark is greater
pub record AreMarks (marks : List ℕ) (number : ℕ) (row : List AttrId) : Type 0 where
  pub marked : (a : AttrId) → a.index < length marks → nat_eq (get_or marks a.index 0) number ≡ list_any (λ b. same_id b a) row
  pub known : (a : AttrId) → IsIn row a → a.index < length marks
  pub upto : (k : ℕ) → get_or marks k 0 ≤ number

abbrev pub IsDraft : Draft → Type 0
IsDraft d = AreMarks d.marks.items d.number d.ids.items

-- the row under this number is made of these attributes, of so many that may stand in it
pub record IsMade (size number : ℕ) (row : List AttrId) (d : Draft) : Type 0 where
  pub marks : AreMarks d.marks.items number row
  pub ids : d.ids.items ≡ row
  pub numbered : d.number ≡ number
  pub count : length d.marks.items ≡ size

-- where the row is one of an entity, it is the whole row of that, in which no attribute stands twice
abbrev pub IsWholeRow : List (List AttrId) → Draft → Type 0
IsWholeRow all d = (e : ℕ) → d.of ≡ Some e → (d.ids.items ≡ row_of all e) × AreDistinct (row_of all e)
