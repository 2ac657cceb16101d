-- What a SELECT reaches.
use Rattle.std.specs.Prelude.{◌≡◌, ℕ, List}
use Rattle.p21_express.specs.Schema.{Schema, Defined, select}
use Rattle.p21_express.specs.WellFormed.{IsIn, IsEntity, IsType, IsSelect, IsAncestor, IsInnerSelect}

-- the SELECT n has the item m
pub record IsItem (s : Schema) (n m : List ℕ) : Type 0 where
  pub type : Defined
  pub items : List (List ℕ)
  pub declared : IsIn s.types type
  pub name_is : type.name ≡ n
  pub under : type.under ≡ select items
  pub item : IsIn items m

-- A SELECT reaches its items, and what the SELECTs among them reach.
pub data SelectReaches (s : Schema) : List ℕ → List ℕ → Type 0 where
  item : {n m : List ℕ} → IsItem s n m → SelectReaches s n m
  through : {n b m : List ℕ} → IsInnerSelect s n b → SelectReaches s b m → SelectReaches s n m

-- the SELECT n reaches the defined or enumeration type m
pub record ReachesType (s : Schema) (n m : List ℕ) : Type 0 where
  pub type : IsType s m
  pub plain : ¬ (IsSelect s m)
  pub reached : SelectReaches s n m

-- the SELECT n reaches an entity
abbrev pub ReachesEntity : Schema → List ℕ → Type 0
ReachesEntity s n = (e : List ℕ) × (IsEntity s e × SelectReaches s n e)

-- the SELECT n reaches the entity e or an ancestor of it
pub data ReachesA (s : Schema) (n e : List ℕ) : Type 0 where
  itself : SelectReaches s n e → ReachesA s n e
  above : {a : List ℕ} → IsAncestor s e a → SelectReaches s n a → ReachesA s n e
