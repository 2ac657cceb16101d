-- What holds of the instances of every file that is exported.
use Rattle.std.specs.Prelude.{◌<◌, ◌^◌, ℕ, List, Ok, length}
use Rattle.std.specs.List.{AllByRecursion}
use Rattle.p21_express.specs.Schema.{Schema}
use Rattle.p21_tree.specs.Sentence.{Instance}
use Rattle.p21_reader.specs.Reading.{IsReading}
use Rattle.p21_json.specs.Instances.{AreKnown}
use Rattle.p21_json.specs.Laws.{IsSound}

-- The instances of a file that was read have no fault by themselves, and their numbers, names and binaries are spelled as such.
abbrev pub AreSound : Schema → List ℕ → List Instance → Type 0
AreSound s file is = IsReading s file (Ok is) → length file < 2 ^ 62 → AllByRecursion (IsSound s) is

-- The records of the instances of a file that was read name entities of the schema.
abbrev pub AreAllKnown : Schema → List ℕ → List Instance → Type 0
AreAllKnown s file is = IsReading s file (Ok is) → AllByRecursion (λ i. AreKnown s i.records) is
