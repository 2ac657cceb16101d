-- The report text of a schema that is refused: one line.
use Rattle.std.specs.Prelude.{ℕ, List, [], ◌∷◌, ◌++◌, Option, Some, None, decimal, codes}
use Rattle.p21_express.specs.declared.error.SchemaError.{SchemaError}
use Rattle.p21_express.specs.declared.error.SchemaError.TheVariants as error

-- a line of `schema fault NUMBER KIND at PLACE`
abbrev pub schema_line : ℕ → List ℕ → ℕ → List ℕ
schema_line number name at = codes "schema fault " ++ (decimal number ++ (32 ∷ (name ++ (codes " at " ++ (decimal at ++ 10 ∷ [])))))

-- the line of each fault of a schema; lack of memory is none
abbrev pub schema_fault_text : SchemaError → Option (List ℕ)
schema_fault_text (error.Syntax at) = Some (schema_line 1 (codes "Syntax") at)
schema_fault_text (error.NotSupported at) = Some (schema_line 2 (codes "NotSupported") at)
schema_fault_text (error.Repeated at) = Some (schema_line 3 (codes "Repeated") at)
schema_fault_text (error.UnknownName at) = Some (schema_line 4 (codes "UnknownName") at)
schema_fault_text (error.Cycle at) = Some (schema_line 5 (codes "Cycle") at)
schema_fault_text (error.BadRedeclaration at) = Some (schema_line 6 (codes "BadRedeclaration") at)
schema_fault_text error.Memory = None
