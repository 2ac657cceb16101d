-- Whether instances have a reference fault.
use Rattle.std.specs.Prelude.{ℕ, Bool, true, false, List, None, slice_index_or}
use Rattle.std.specs.List.{AllZip}
use Rattle.p21_express.specs.Schema.{Schema}
use Rattle.p21_tree.specs.Sentence.{Instance}
use Rattle.p21_check.specs.References.{IsReferenceFault, named_in}

-- whether an instance has a reference fault, among all instances of the file
abbrev pub IsFaultiness : Schema → List Instance → Instance → Bool → Type 0
IsFaultiness s all i true = ¬ (IsReferenceFault s (named_in all) i None)
IsFaultiness s all i false = IsReferenceFault s (named_in all) i None

-- the same of the instance at a place
abbrev pub IsFaultinessAt : Schema → List Instance → ℕ → Bool → Type 0
IsFaultinessAt s all place faulty = (d : Instance) → IsFaultiness s all (slice_index_or all place d) faulty

-- the same of each of the instances of the file, in order
abbrev pub AreFaultinesses : Schema → List Instance → List Bool → Type 0
AreFaultinesses s all faulty = AllZip (IsFaultiness s all) all faulty
