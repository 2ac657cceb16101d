-- What a model is: a list of instances.
use Rattle.std.specs.Prelude.{◌≡◌, ◌≢◌, ℕ, List, Option, Some, None, All, Contains, map}
use Rattle.std.specs.Borrow.{Bor}
use Rattle.p21_tree.specs.declared.instances.RawInstance.{RawInstance}
use Rattle.p21_tree.specs.Sentence.{Instance}
use Rattle.p21_tree.specs.Views.{plain_instance}
use Rattle.p21_join.specs.declared.model.Model.{Model}

-- the instances of a model, in file order
abbrev pub instances_of : Model → List RawInstance
instances_of m = m.instances.items

-- instances without where they lie in memory
abbrev pub plain_instances : List RawInstance → List Instance
plain_instances is = map plain_instance is

-- an instance of the list that has the name; none where no instance has it
abbrev pub Finds : List RawInstance → ℕ → Option (Bor RawInstance) → Type 0
Finds is name None = All (λ i. i.name ≢ name) is
Finds is name (Some i) = Contains is i.now × (i.now.name ≡ name)
