-- What a refusal says, and the error that says the same.
use Rattle.std.specs.Prelude.{◌≡◌, ℕ, ◌≤◌}
use Rattle.p21_express.specs.declared.error.SchemaError.{SchemaError}
use Rattle.p21_express.specs.declared.error.SchemaError.TheVariants as errors
use Rattle.p21_express.specs.declared.refusal.Kind.{Kind}
use Rattle.p21_express.specs.declared.refusal.Kind.TheVariants as kind
use Rattle.p21_express.specs.declared.refusal.Refusal.{Refusal}
use Rattle.p21_express.specs.declared.refusal.Refusal.TheVariants as refusal
use Rattle.p21_express.specs.declared.misfit.Misfit.{Misfit}
use Rattle.p21_express.specs.declared.misfit.Misfit.TheVariants as misfit
use Rattle.p21_express.specs.declared.misfit.Unfit.{Unfit}
use Rattle.p21_express.specs.declared.misfit.Unfit.TheVariants as unfit
use Rattle.p21_express.specs.Schema.{Schema}
use Rattle.p21_express.specs.SchemaFault.{FailsRepeated, FailsNames, FailsSelects, FailsCycles, FailsRedeclared}

-- of what is wrong P holds, unless memory ran out
abbrev pub OnUnfit : Unfit → (Misfit → Type 0) → Type 0
OnUnfit (unfit.Found wrong left) P = P wrong
OnUnfit unfit.Memory P = Unit {0}

-- this is what is wrong, and P holds
abbrev pub Only : Misfit → Type 0 → Misfit → Type 0
Only wrong P found = (found ≡ wrong) × P

-- a name is unknown, and P holds; or a SELECT stands alone, and Q does
abbrev pub OfNames : Type 0 → Type 0 → Misfit → Type 0
OfNames P Q misfit.Repeated = ⊥
OfNames P Q misfit.UnknownName = P
OfNames P Q misfit.LoneSelect = Q
OfNames P Q misfit.Cycle = ⊥
OfNames P Q misfit.BadRedeclaration = ⊥

-- what is wrong with declarations is the first condition that they fail
abbrev pub IsMisfit : Schema → Misfit → Type 0
IsMisfit s misfit.Repeated = FailsRepeated s
IsMisfit s misfit.UnknownName = FailsNames s
IsMisfit s misfit.LoneSelect = FailsSelects s
IsMisfit s misfit.Cycle = FailsCycles s
IsMisfit s misfit.BadRedeclaration = FailsRedeclared s

-- ---- errors

abbrev pub form_error : Kind → ℕ → SchemaError
form_error kind.Syntax at = errors.Syntax at
form_error kind.NotSupported at = errors.NotSupported at

abbrev pub misfit_error : Misfit → ℕ → SchemaError
misfit_error misfit.Repeated at = errors.Repeated at
misfit_error misfit.UnknownName at = errors.UnknownName at
misfit_error misfit.LoneSelect at = errors.NotSupported at
misfit_error misfit.Cycle at = errors.Cycle at
misfit_error misfit.BadRedeclaration at = errors.BadRedeclaration at

-- the error says what the refusal says, at a place of at most n
abbrev pub IsRefusedAs : ℕ → Refusal → SchemaError → Type 0
IsRefusedAs n (refusal.Refused wrong left) e = (at : ℕ) × (e ≡ form_error wrong at) × (at ≤ n)
IsRefusedAs n refusal.Memory e = e ≡ errors.Memory

-- the same of declarations that do not fit together
abbrev pub IsUnfitAs : ℕ → Unfit → SchemaError → Type 0
IsUnfitAs n (unfit.Found wrong left) e = (at : ℕ) × (e ≡ misfit_error wrong at) × (at ≤ n)
IsUnfitAs n unfit.Memory e = e ≡ errors.Memory
