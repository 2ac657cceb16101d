-- How a run over a schema and a file ends, whatever it answers.
use Rattle.std.specs.Prelude.{◌≡◌, ◌≤◌, ◌⊎◌, ℕ, Bool, true, false, List, [], Option, Some, IfSome, length, take}
use Rattle.std.specs.Io.KnownBytes.{Appends, IsAtEnd}
use Rattle.p21_express.specs.Reading.{IsReading}
use Rattle.p21_express.specs.Schema.{Schema}
use Rattle.p21_express.specs.declared.error.SchemaError.{SchemaError}
use Rattle.p21_schema.specs.Rules.{with_rules}
use Rattle.p21_schema.specs.declared.rules.Rules.{Rules}
use Rattle.p21_render.specs.SchemaFaultLine.{schema_fault_text}
use Rattle.p21_run.specs.Due.{IsRefusal, most_calls, most_file_bytes, most_schema_bytes}
use Rattle.p21_run.specs.declared.input.InputError.{InputError}
use Rattle.p21_run.specs.declared.input.InputError.TheVariants as error
use Rattle.p21_run.specs.declared.outcome.Outcome.{Outcome}
use Rattle.p21_run.specs.declared.outcome.Outcome.TheVariants.{Complete, Faulty, SchemaRefused, Device, Memory}

-- What a run states of its answer. It refuses a schema that a text declares; of a file it gives an answer, which is an outcome, a text that is due
-- for the report, and what its own writer holds before and after; or it gives up, for this cause, and leaves its own writer so.
pub record Statement (W : Type 0) : Type 1 where
  pub refuses : Schema → (schema_text : List ℕ) → Type 0
  pub answers : Schema → (schema_text file : List ℕ) → (old new : W) → Outcome → (text : List ℕ) → Type 0
  pub leaves : Schema → (schema_text file : List ℕ) → (old new : W) → InputError → Type 0

-- A reader or a writer before and after a run, and what it says of itself: whether it was ever marked, whether it ever failed, and the bytes
-- that are left to read, or that it took, where it tells them.
pub record Change (X : Type 0) : Type 0 where
  pub marked : X → Bool
  pub failed : X → Bool
  pub bytes : X → Option (List ℕ)
  pub old : X
  pub new : X

-- it is as it was
abbrev pub IsSame : {X : Type 0} → Change X → Type 0
IsSame c = c.new ≡ c.old

-- An input was read to its end: these are its bytes, no more than the limit, and it did not fail.
pub record IsRead {S : Type 0} (input : Change S) (most : ℕ) (bytes : List ℕ) : Type 0 where
  pub whole : IfSome (input.bytes input.old) (λ all. bytes ≡ all)
  pub bounded : length bytes ≤ most
  pub at_end : IsAtEnd (input.bytes input.new)
  pub unfailed : input.failed input.old ≡ false → ¬ (input.failed input.new ≡ true)

-- An input was not read. Then the outcome is Device, as always where it failed, or Memory. For Device it failed, was interrupted or has as many
-- bytes as there may be calls.
pub record IsUnread {S : Type 0} (input : Change S) (o : Outcome) : Type 0 where
  pub ends : (o ≡ Device) ⊎ (o ≡ Memory)
  pub failed : input.failed input.old ≡ false → input.failed input.new ≡ true → o ≡ Device
  pub cause : o ≡ Device → input.marked input.new ≡ false → IfSome (input.bytes input.old) (λ all. most_calls ≤ length all)

-- A text that is due is told: it is written whole, and the outcome is that with which it is due; or a front of it is written, and the outcome
-- is Device. Then the writer failed, was interrupted or took no byte, or the text has as many bytes as there may be calls.
-- A writer that is to take no byte is not touched.
pub data IsTold {K : Type 0} (out : Change K) (text : List ℕ) (due o : Outcome) : Type 0 where
  whole : o ≡ due → Appends (out.bytes out.old) (out.bytes out.new) text → out.failed out.new ≡ out.failed out.old → (text ≡ [] → IsSame out) → IsTold out text due o
  front : (n : ℕ) → o ≡ Device → Appends (out.bytes out.old) (out.bytes out.new) (take n text) → (out.marked out.new ≡ false → most_calls ≤ length text) → IsTold out text due o

-- the outcome where there is no answer, by its cause
abbrev pub outcome_without : InputError → Outcome
outcome_without error.Device = Device
outcome_without error.Memory = Memory

-- a file was checked, and no more than its faults kept it from being whole
abbrev pub IsOfFile : Outcome → Type 0
IsOfFile o = (o ≡ Complete) ⊎ (o ≡ Faulty)

-- A schema's text is refused, and this is the line of a fault: it declares no schema, or one that is refused, under these rules.
pub data IsRefused (Refuses : Schema → List ℕ → Type 0) (rules : Rules) (schema_text text : List ℕ) : Type 0 where
  of_text : IsRefusal schema_text text → IsRefused Refuses rules schema_text text
  of_schema : (s : Schema) → (fault : SchemaError) → IsReading schema_text s → Refuses (with_rules s rules) schema_text → schema_fault_text fault ≡ Some text → IsRefused Refuses rules schema_text text

-- The line of a schema's fault is told, and the schema refused; or there is no memory for it, and nothing is told.
pub data IsRefusalTold {K : Type 0} (told : Change K) (fault : SchemaError) (o : Outcome) : Type 0 where
  line : (text : List ℕ) → schema_fault_text fault ≡ Some text → IsTold told text SchemaRefused o → IsRefusalTold told fault o
  memory : o ≡ Memory → IsSame told → IsRefusalTold told fault o

-- A run stops before it has both inputs: the schema is not read; or it is refused, and the line of its fault told; or there is no memory; or the file
-- is not read. The file is touched only for a schema that is not refused, and but for the line nothing is told.
pub data IsStopped {S F K : Type 0} (Refuses : Schema → List ℕ → Type 0) (rules : Rules) (schema : Change S) (file : Change F) (told : Change K) (o : Outcome) : Type 0 where
  unread : IsUnread schema o → IsSame file → IsSame told → IsStopped Refuses rules schema file told o
  refused : (schema_text text : List ℕ) → IsRead schema most_schema_bytes schema_text → IsRefused Refuses rules schema_text text → IsTold told text SchemaRefused o → IsSame file → IsStopped Refuses rules schema file told o
  untold : (schema_text : List ℕ) → IsRead schema most_schema_bytes schema_text → o ≡ Memory → IsSame file → IsSame told → IsStopped Refuses rules schema file told o
  file_unread : (schema_text : List ℕ) (s : Schema) → IsRead schema most_schema_bytes schema_text → IsReading schema_text s → IsUnread file o → IsSame told → IsStopped Refuses rules schema file told o

-- A run has both inputs: they are read to their ends, and the schema is the one that the text declares, under these rules.
pub record IsBegun {S F : Type 0} (rules : Rules) (schema : Change S) (file : Change F) (s : Schema) (schema_text bytes : List ℕ) : Type 0 where
  pub schema_read : IsRead schema most_schema_bytes schema_text
  pub declared : Schema
  pub reading : IsReading schema_text declared
  pub under : s ≡ with_rules declared rules
  pub file_read : IsRead file most_file_bytes bytes

-- There is an answer to the file, and the text that is due is told; or there is none, and nothing is told.
pub data IsAnswered {K W : Type 0} (t : Statement W) (s : Schema) (schema_text file : List ℕ) (old new : W) (told : Change K) (o : Outcome) : Type 0 where
  answered : (due : Outcome) → (text : List ℕ) → t.answers s schema_text file old new due text → IsOfFile due → IsTold told text due o → IsAnswered t s schema_text file old new told o
  given_up : (cause : InputError) → t.leaves s schema_text file old new cause → o ≡ outcome_without cause → IsSame told → IsAnswered t s schema_text file old new told o

-- A run: it stops before it has both inputs, and its own writer is not touched; or it has them, and there is an answer or none.
pub data IsRun {S F K W : Type 0} (t : Statement W) (rules : Rules) (schema : Change S) (file : Change F) (old new : W) (told : Change K) (o : Outcome) : Type 0 where
  stopped : IsStopped t.refuses rules schema file told o → new ≡ old → IsRun t rules schema file old new told o
  begun : (s : Schema) (schema_text bytes : List ℕ) → IsBegun rules schema file s schema_text bytes → IsAnswered t s schema_text bytes old new told o → IsRun t rules schema file old new told o
