-- The entities that an instance is of.
use Rattle.std.specs.Prelude.{◌≡◌, ℕ, false, List, map}
use Rattle.p21_express.specs.Schema.{Schema}
use Rattle.p21_express.specs.WellFormed.{IsIn, IsEntity, IsAncestor}
use Rattle.p21_tree.specs.Sentence.{Instance}

-- the keywords of the records, in order
abbrev pub keywords : Instance → List (List ℕ)
keywords i = map (λ r. r.keyword) i.records

-- The entity set of an instance has the entities of its records, and of a simple instance also the ancestors of its entity. A
-- keyword that is no entity adds none.
pub data IsInSet (s : Schema) (i : Instance) (n : List ℕ) : Type 0 where
  named : IsIn (keywords i) n → IsEntity s n → IsInSet s i n
  ancestor : {k : List ℕ} → i.complex ≡ false → IsIn (keywords i) k → IsAncestor s k n → IsInSet s i n
