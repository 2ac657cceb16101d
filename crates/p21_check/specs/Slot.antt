-- What parameter may be given for an attribute of an instance.
use Rattle.std.specs.Prelude.{◌≡◌, ℕ, true, List}
use Rattle.p21_express.specs.Schema.{Schema}
use Rattle.p21_express.specs.WellFormed.{IsIn, IsAncestor, Origin}
use Rattle.p21_tree.specs.Tree.{Tree}
use Rattle.p21_tree.specs.Tree as tree
use Rattle.p21_schema.specs.Declaration.{Declaration, Form, AreDeclarations}
use Rattle.p21_schema.specs.Declaration as form
use Rattle.p21_check.specs.Conforms.{Conforms}

-- a declaration of an attribute by an entity of a set
pub record DeclaresIn (s : Schema) (InSet : List ℕ → Type 0) (o : Origin) (d : Declaration) : Type 0 where
  pub all : List Declaration
  pub are : AreDeclarations s o all
  pub among : IsIn all d
  pub by : InSet d.entity

-- The attribute is derived: an entity of the set declares it in DERIVE.
-- Then no declaration counts.
pub record IsDerived (s : Schema) (InSet : List ℕ → Type 0) (o : Origin) : Type 0 where
  pub declaration : Declaration
  pub declares : DeclaresIn s InSet o declaration
  pub derives : declaration.form ≡ form.derived

-- Where the attribute is not derived, a declaration counts where no entity of the set that has its entity as an ancestor
-- declares the attribute again.
pub record Counts (s : Schema) (InSet : List ℕ → Type 0) (o : Origin) (d : Declaration) : Type 0 where
  pub declares : DeclaresIn s InSet o d
  pub not_derived : ¬ (IsDerived s InSet o)
  pub last : (other : Declaration) → DeclaresIn s InSet o other → ¬ (IsAncestor s other.entity d.entity)

abbrev pub IsOptional : Form → Type 0
IsOptional form.derived = ⊥
IsOptional (form.explicit optional e) = optional ≡ true

abbrev pub ConformsToForm : Schema → Tree → Form → Type 0
ConformsToForm s p form.derived = ⊥
ConformsToForm s p (form.explicit optional e) = Conforms s e p

-- A derived attribute is given as `*` alone. For another `$` stands where each declaration that counts is OPTIONAL, or a
-- parameter that conforms to each that counts.
pub data FitsSlot (s : Schema) (InSet : List ℕ → Type 0) (o : Origin) : Tree → Type 0 where
  derived : IsDerived s InSet o → FitsSlot s InSet o tree.derived
  absent : ¬ (IsDerived s InSet o) → ((d : Declaration) → Counts s InSet o d → IsOptional d.form) → FitsSlot s InSet o tree.absent
  given : {p : Tree} → ¬ (IsDerived s InSet o) → ((d : Declaration) → Counts s InSet o d → ConformsToForm s p d.form) → FitsSlot s InSet o p
