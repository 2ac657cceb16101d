-- The first fault of the references of a file's instances.
use Rattle.std.specs.Prelude.{◌≡◌, List, ◌∷◌, ◌++◌, Some, None, All}
use Rattle.p21_express.specs.Schema.{Schema}
use Rattle.p21_tree.specs.declared.faults.Fault.{Fault}
use Rattle.p21_tree.specs.Sentence.{Instance}
use Rattle.p21_check.specs.LocalFault.{IsLocalFault}
use Rattle.p21_check.specs.References.{IsReferenceFault, named_in}

-- none of these instances has a fault by itself
abbrev pub AreSound : Schema → List Instance → Type 0
AreSound s is = All (λ i. IsLocalFault s i None) is

-- each reference of these instances is answered, among all instances of the file, as it is wanted
abbrev pub AreAnswered : Schema → (all : List Instance) → List Instance → Type 0
AreAnswered s all is = All (λ i. IsReferenceFault s (named_in all) i None) is

-- The reference fault of the instances of a file is that of the first that has one, at its name.
pub record IsFirstReferenceFault (s : Schema) (all : List Instance) (f : Fault) : Type 0 where
  pub earlier : List Instance
  pub later : List Instance
  pub instance : Instance
  pub parts : all ≡ earlier ++ instance ∷ later
  pub answered : AreAnswered s all earlier
  pub is_fault : IsReferenceFault s (named_in all) instance (Some f.kind)
  pub place : f.at ≡ instance.at
