-- What a check states.
use Rattle.std.specs.Prelude.{◌≡◌, Bool, ⊤}
use Rattle.p21_run.specs.Due.{IsReport}
use Rattle.p21_run.specs.Run.{Statement}
use Rattle.p21_run.specs.declared.input.InputError.TheVariants.{Memory}

-- A check refuses no schema that a text declares. Its answer is the report of the file, with all its faults where they are wanted, and else with
-- the first alone. It gives up for lack of memory alone, and writes nothing of its own.
abbrev pub check : (all : Bool) → Statement (Unit {0})
check all = record {
  refuses = λ s schema_text. ⊥;
  answers = λ s schema_text file old new o text. IsReport all s file o text;
  leaves = λ s schema_text file old new cause. cause ≡ Memory;
}
