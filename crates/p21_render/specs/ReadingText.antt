-- The report text of a reading.
use Rattle.std.specs.Prelude.{◌≡◌, ℕ, List, ◌∷◌, ◌++◌, codes, Result, Ok, Err}
use Rattle.p21_express.specs.Schema.{Schema}
use Rattle.p21_tree.specs.Sentence.{Instance}
use Rattle.p21_tree.specs.declared.faults.Fault.{Fault}
use Rattle.p21_counts.specs.Counts.{IsCounts}
use Rattle.p21_render.specs.FaultLine.{fault_lines, fault_text}

-- The line `schema NAME`, and the counts of the instances.
pub record IsModelText (s : Schema) (is : List Instance) (text : List ℕ) : Type 0 where
  pub lines : List ℕ
  pub counted : IsCounts is lines
  pub spelled : text ≡ codes "schema " ++ (s.name ++ 10 ∷ lines)

-- The report of a model, or the line of a fault.
abbrev pub IsReadingText : Schema → Result (List Instance) Fault → List ℕ → Type 0
IsReadingText s (Ok is) text = IsModelText s is text
IsReadingText s (Err f) text = text ≡ fault_text f

-- The same with all faults: the report of a model, or the lines of the faults.
abbrev pub IsAllText : Schema → Result (List Instance) (List Fault) → List ℕ → Type 0
IsAllText s (Ok is) text = IsModelText s is text
IsAllText s (Err fs) text = text ≡ fault_lines fs
