-- What a schema declares, as plain values: its vectors as lists, its names as bytes in upper case.
use Rattle.std.specs.Prelude.{ℕ, Bool, List, Option}
use Rattle.p21_express.specs.declared.declarations.Width.{Width}
use Rattle.p21_express.specs.declared.declarations.Bounds.{Bounds}

-- an aggregate without its element; of an ARRAY also whether an element may be left out, and of a LIST whether UNIQUE stands there
pub data Aggregate : Type 0 where
  array : Bounds → Bool → Aggregate
  list : Bounds → Bool → Aggregate
  set : Bounds → Aggregate
  bag : Bounds → Aggregate

pub data Expr : Type 0 where
  integer : Expr
  number : Expr
  boolean : Expr
  logical : Expr
  real : Expr
  text : Width → Expr
  binary : Width → Expr
  aggregate : Aggregate → Expr → Expr
  named : List ℕ → Expr

-- an explicit attribute; `of` is the entity after SELF, where it is declared again
pub record Attribute : Type 0 where
  pub name : List ℕ
  pub of : Option (List ℕ)
  pub optional : Bool
  pub texpr : Expr

-- an attribute of DERIVE
pub record Derived : Type 0 where
  pub name : List ℕ
  pub of : Option (List ℕ)

pub record Entity : Type 0 where
  pub name : List ℕ
  pub is_abstract : Bool
  pub supertypes : List (List ℕ)
  pub attributes : List Attribute
  pub derived : List Derived

-- what stands under a TYPE
pub data Underlying : Type 0 where
  items : List (List ℕ) → Underlying
  select : List (List ℕ) → Underlying
  plain : Expr → Underlying

pub record Defined : Type 0 where
  pub name : List ℕ
  pub under : Underlying

-- `distinct` is no declaration: it is the rule under which a schema is checked, that a SET or a LIST OF UNIQUE names no instance twice
pub record Schema : Type 0 where
  pub name : List ℕ
  pub entities : List Entity
  pub types : List Defined
  pub distinct : Bool
