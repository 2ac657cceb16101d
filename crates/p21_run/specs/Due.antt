-- What a run over a schema and a file writes.
use Rattle.std.specs.Prelude.{◌≡◌, ◌≤◌, ◌⊎◌, ℕ, Bool, true, false, List, Option, Result, Ok, Err, Some, length, take}
use Rattle.std.specs.Io.KnownBytes.{Keeps, Appends}
use Rattle.p21_express.specs.Schema.{Schema}
use Rattle.p21_express.specs.Reading as express
use Rattle.p21_express.specs.Answer.{HasNoReading}
use Rattle.p21_express.specs.SchemaFault.{IsSchemaFault}
use Rattle.p21_express.specs.declared.error.SchemaError.{SchemaError}
use Rattle.p21_tree.specs.Sentence.{Instance}
use Rattle.p21_tree.specs.declared.faults.Fault.{Fault}
use Rattle.p21_schema.specs.Rules.{with_rules}
use Rattle.p21_schema.specs.declared.rules.Rules.{Rules}
use Rattle.p21_reader.specs.AllFaults.{IsReadingWithAll}
use Rattle.p21_reader.specs.Reading.{IsReading}
use Rattle.p21_render.specs.ReadingText.{IsAllText, IsReadingText}
use Rattle.p21_render.specs.SchemaFaultLine.{schema_fault_text}
use Rattle.p21_run.specs.declared.outcome.Outcome.{Outcome}
use Rattle.p21_run.specs.declared.outcome.Outcome.TheVariants as outcome

-- A run over a file ends as its reading: with a model, or with a fault.
abbrev pub outcome_of : {F : Type 0} → Result (List Instance) F → Outcome
outcome_of (Ok is) = outcome.Complete
outcome_of (Err fault) = outcome.Faulty

-- the same by any answer that tells a model or a fault
abbrev pub IsOutcomeOf : {C F : Type 0} → Result C F → Outcome → Type 0
IsOutcomeOf (Ok told) o = o ≡ outcome.Complete
IsOutcomeOf (Err told) o = o ≡ outcome.Faulty

-- The text is the report of the file's reading against the schema, and the outcome is that of this reading.
pub record IsReportOf (s : Schema) (file : List ℕ) (o : Outcome) (text : List ℕ) : Type 0 where
  pub answer : Result (List Instance) Fault
  pub read : IsReading s file answer
  pub told : IsReadingText s answer text
  pub ends : o ≡ outcome_of answer

-- The same of its reading with all faults.
pub record IsFullReportOf (s : Schema) (file : List ℕ) (o : Outcome) (text : List ℕ) : Type 0 where
  pub answer : Result (List Instance) (List Fault)
  pub read : IsReadingWithAll s file answer
  pub told : IsAllText s answer text
  pub ends : o ≡ outcome_of answer

-- the report of a file, with all its faults where they are wanted, and else with the first alone
abbrev pub IsReport : (all : Bool) → Schema → List ℕ → Outcome → List ℕ → Type 0
IsReport true s file o text = IsFullReportOf s file o text
IsReport false s file o text = IsReportOf s file o text

-- The text is the line of the fault of a schema's text that declares no schema: of the first condition that it fails.
pub record IsRefusal (schema_text text : List ℕ) : Type 0 where
  pub declares_nothing : HasNoReading schema_text
  pub fault : SchemaError
  pub is_fault : IsSchemaFault schema_text fault
  pub told : schema_fault_text fault ≡ Some text

-- The text that is due with an outcome: the line of the schema's fault where it declares nothing, and otherwise the report of
-- the file against the schema that it declares, under these rules.
-- A schema's fault is of the first condition that its text fails. The outcome is that of a model or of a fault.
abbrev pub IsDue : (all : Bool) → Rules → List ℕ → List ℕ → Outcome → List ℕ → Type 0
IsDue all rules schema_text file outcome.SchemaRefused text = IsRefusal schema_text text
IsDue all rules schema_text file o text = (s : Schema) × express.IsReading schema_text s × IsReport all (with_rules s rules) file o text

-- The text that is due is written, and nothing else; nothing is written for lack of memory; where a reader or the writer failed,
-- or a bound was passed, a front of a text that is due is written, or nothing.
abbrev pub Writes : (all : Bool) → Rules → List ℕ → List ℕ → Outcome → Option (List ℕ) → Option (List ℕ) → Type 0
Writes all rules schema_text file outcome.Device old new = Keeps old new ⊎ ((o : Outcome) × (text : List ℕ) × (n : ℕ) × IsDue all rules schema_text file o text × Appends old new (take n text))
Writes all rules schema_text file outcome.Memory old new = Keeps old new
Writes all rules schema_text file o old new = (text : List ℕ) × IsDue all rules schema_text file o text × Appends old new text

-- the most calls of a reader or of the writer
abbrev pub most_calls : ℕ
most_calls = 16777216

-- the most bytes of a schema, and of a file
abbrev pub most_schema_bytes : ℕ
most_schema_bytes = 16777216

abbrev pub most_file_bytes : ℕ
most_file_bytes = 4294967296

-- a text that is due has at least as many bytes as there may be calls
abbrev pub IsLongText : (all : Bool) → Rules → List ℕ → List ℕ → Type 0
IsLongText all rules schema_text file = (o : Outcome) × (text : List ℕ) × IsDue all rules schema_text file o text × (most_calls ≤ length text)

-- an input has at least as many bytes as there may be calls, or a text that is due has
abbrev pub IsLong : (all : Bool) → Rules → List ℕ → List ℕ → Type 0
IsLong all rules schema_text file = (most_calls ≤ length schema_text) ⊎ ((most_calls ≤ length file) ⊎ IsLongText all rules schema_text file)
