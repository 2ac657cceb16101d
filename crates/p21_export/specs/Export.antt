-- What an export writes.
use Rattle.std.specs.Prelude.{◌≡◌, ◌≤◌, ℕ, Bool, true, false, List, [], ◌++◌, Option, Ok, Err, length}
use Rattle.std.specs.Io.KnownBytes.{Appends}
use Rattle.p21_express.specs.Schema.{Schema}
use Rattle.p21_tree.specs.declared.faults.Fault.{Fault}
use Rattle.p21_tree.specs.Sentence.{Instance, Opening}
use Rattle.p21_tree.specs.Texts.{BeginsPreface}
use Rattle.p21_reader.specs.Reading.{IsReading}
use Rattle.p21_render.specs.FaultLine.{fault_text}
use Rattle.p21_run.specs.Due.{most_calls}
use Rattle.p21_run.specs.Run.{Statement}
use Rattle.p21_run.specs.declared.input.InputError.{InputError}
use Rattle.p21_run.specs.declared.input.InputError.TheVariants as error
use Rattle.p21_run.specs.declared.outcome.Outcome.{Outcome}
use Rattle.p21_run.specs.declared.outcome.Outcome.TheVariants as outcome
use Rattle.p21_json.specs.Header.{IsHeaderParts}
use Rattle.p21_json.specs.Lines.{AreLines, IsLineOf}

-- The text is the model of the file against the schema: the line of the file's header, and a line for each instance, in order.
pub record IsExport (s : Schema) (file text : List ℕ) : Type 0 where
  pub instances : List Instance
  pub read : IsReading s file (Ok instances)
  pub opening : Opening
  pub begins : BeginsPreface file opening
  pub first : List ℕ
  pub is_first : IsLineOf s (IsHeaderParts opening) first
  pub others : List ℕ
  pub are_others : AreLines s instances others
  pub parts : text ≡ first ++ others

-- The writer took the model of the file against this schema, and did not fail.
pub record IsWritten {K : Type 0} (failed : K → Bool) (taken : K → Option (List ℕ)) (s : Schema) (file : List ℕ) (old new : K) : Type 0 where
  pub text : List ℕ
  pub exported : IsExport s file text
  pub written : Appends (taken old) (taken new) text
  pub unfailed : failed new ≡ failed old

-- The lines of some instances in a row have as many bytes as there may be calls of the writer.
pub record HasLongLines (s : Schema) (is : List Instance) : Type 0 where
  pub before : List Instance
  pub part : List Instance
  pub behind : List Instance
  pub parts : is ≡ before ++ (part ++ behind)
  pub lines : List ℕ
  pub are_lines : AreLines s part lines
  pub long : most_calls ≤ length lines

-- The line of the file's header is so long, or the lines of some instances in a row.
pub data IsLong (s : Schema) (file : List ℕ) : Type 0 where
  header : (opening : Opening) → BeginsPreface file opening → (line : List ℕ) → IsLineOf s (IsHeaderParts opening) line → most_calls ≤ length line → IsLong s file
  instances : (is : List Instance) → IsReading s file (Ok is) → HasLongLines s is → IsLong s file

-- The writer did not take the whole model: for Device, as always where it failed, it failed, was interrupted or took no byte, or what it was to take
-- is long.
pub record IsLeft {K : Type 0} (failed marked : K → Bool) (s : Schema) (file : List ℕ) (old new : K) (cause : InputError) : Type 0 where
  pub failing : failed old ≡ false → failed new ≡ true → cause ≡ error.Device
  pub why : cause ≡ error.Device → marked new ≡ false → IsLong s file

-- The answer of an export: it is complete, the model is written, and nothing is told; or the line of the file's first fault is told, and nothing
-- written.
pub data IsAnswer {W : Type 0} (Exports : Schema → List ℕ → W → W → Type 0) (s : Schema) (file : List ℕ) (old new : W) (o : Outcome) (text : List ℕ) : Type 0 where
  complete : o ≡ outcome.Complete → text ≡ [] → Exports s file old new → IsAnswer Exports s file old new o text
  faulty : (fault : Fault) → IsReading s file (Err fault) → o ≡ outcome.Faulty → text ≡ fault_text fault → new ≡ old → IsAnswer Exports s file old new o text

-- An export gives up: for lack of memory before anything is written, or since the model could not be written.
pub data IsGivenUp {W : Type 0} (Leaves : Schema → List ℕ → W → W → InputError → Type 0) (s : Schema) (file : List ℕ) (old new : W) (cause : InputError) : Type 0 where
  before : cause ≡ error.Memory → new ≡ old → IsGivenUp Leaves s file old new cause
  within : Leaves s file old new cause → IsGivenUp Leaves s file old new cause

-- An export refuses no schema that a text declares. It answers with the model or the first fault of the file.
abbrev pub export_of : {W : Type 0} → (Schema → List ℕ → W → W → Type 0) → (Schema → List ℕ → W → W → InputError → Type 0) → Statement W
export_of Exports Leaves = record {
  refuses = λ s schema_text. ⊥;
  answers = λ s schema_text file old new o text. IsAnswer Exports s file old new o text;
  leaves = λ s schema_text file old new cause. IsGivenUp Leaves s file old new cause;
}
