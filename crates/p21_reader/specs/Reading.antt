-- The reading of a file against a schema.
use Rattle.std.specs.Prelude.{ℕ, List, Result, Ok, Err}
use Rattle.p21_express.specs.Schema.{Schema}
use Rattle.p21_tree.specs.declared.faults.Fault.{Fault}
use Rattle.p21_tree.specs.Sentence.{Instance}
use Rattle.p21_refs.specs.FirstReferenceFault.{AreAnswered, IsFirstReferenceFault}
use Rattle.p21_reader.specs.LocalFault.{IsLocalFaultOfFile, HasNoLocalFault}

-- The reading of a file is its local fault; else its first reference fault; else its instances in their order.
pub data IsReading (s : Schema) (file : List ℕ) : Result (List Instance) Fault → Type 0 where
  local : {f : Fault} → IsLocalFaultOfFile s file f → IsReading s file (Err f)
  reference : {is : List Instance} {f : Fault} → HasNoLocalFault s file is → IsFirstReferenceFault s is f → IsReading s file (Err f)
  read : {is : List Instance} → HasNoLocalFault s file is → AreAnswered s is is → IsReading s file (Ok is)
