-- How a run begins and ends, step by step.
use Rattle.std.proofs.Common.{◌≡◌, ◌≤◌, inl, inr, ℕ, true, false, List, Some, Result, Ok, Err, length, refl, sym, subst, ◌∙◌}
use Rattle.std.specs.Prelude.{IfErr, IfSome}
use Rattle.p21_express.specs.Answer.{OnRefusal}
use Rattle.p21_express.specs.Schema.{Schema}
use Rattle.p21_express.specs.declared.error.SchemaError.{SchemaError}
use Rattle.p21_express.specs.declared.error.SchemaError.TheVariants as error
use Rattle.p21_schema.specs.declared.rules.Rules.{Rules}
use Rattle.p21_render.specs.SchemaFaultLine.{schema_fault_text}
use Rattle.p21_run.specs.Run.{Change, IsRead, IsRefusalTold, IsRefused, IsSame, IsStopped, IsTold, IsUnread, outcome_without}
use Rattle.p21_run.specs.Due.{most_calls, most_schema_bytes}
use Rattle.p21_run.specs.declared.input.InputError.{InputError}
use Rattle.p21_run.specs.declared.input.InputError.TheVariants as cause
use Rattle.p21_run.specs.declared.outcome.Outcome.{Outcome}
use Rattle.p21_run.specs.declared.outcome.Outcome.TheVariants as outcome

pub ok_err : {T E : Type 0} {x : T} {e : E} → ◌≡◌ {A = Result T E} (Ok x) (Err e) → ⊥
ok_err e = cc

pub on_err : {T E : Type 0} {P Q : E → Type 0} (r : Result T E) → ((e : E) → P e → Q e) → IfErr r P → IfErr r Q
on_err (Ok x) f holds = holds
on_err (Err e) f holds = f e holds

-- an error that has a line is of the text, and not for lack of memory
pub of_line : (e : SchemaError) (P : Type 0) (line : List ℕ) → OnRefusal e P → schema_fault_text e ≡ Some line → P
of_line (error.Syntax at) P line holds is = holds
of_line (error.NotSupported at) P line holds is = holds
of_line (error.Repeated at) P line holds is = holds
of_line (error.UnknownName at) P line holds is = holds
of_line (error.Cycle at) P line holds is = holds
of_line (error.BadRedeclaration at) P line holds is = holds
of_line error.Memory P line holds is = cc

-- the same of an equal text
pub told_of : {K : Type 0} {out : Change K} {a b : List ℕ} {due o : Outcome} → a ≡ b → IsTold out a due o → IsTold out b due o
told_of {K} {out} {a} {b} {due} {o} e told = subst (λ x. IsTold out x due o) e told

-- the line of a text that is refused is told
pub refused_run : {S F K : Type 0} {Refuses : Schema → List ℕ → Type 0} {rules : Rules} {schema : Change S} {file : Change F} {told : Change K} {a text : List ℕ} {e : SchemaError} {o : Outcome} → IsRead schema most_schema_bytes text → a ≡ text
    → IsRefusalTold told e o → ((line : List ℕ) → schema_fault_text e ≡ Some line → IsRefused Refuses rules a line) → IsSame file → IsStopped Refuses rules schema file told o
refused_run {S} {F} {K} {Refuses} {rules} {schema} {file} {told} {a} {text} read same (IsRefusalTold.line line is t) refused f = IsStopped.refused text line read (subst (λ x. IsRefused Refuses rules x line) same (refused line is)) t f
refused_run {S} {F} {K} {Refuses} {rules} {schema} {file} {told} {a} {text} read same (IsRefusalTold.memory memory t) refused f = IsStopped.untold text read memory f t

err_memory : {T : Type 0} → ◌≡◌ {A = Result T InputError} (Err cause.Memory) (Err cause.Device) → ⊥
err_memory e = cc

memory_device : outcome.Memory ≡ outcome.Device → ⊥
memory_device e = cc

-- an input was not read, for this cause
pub unread_of : {S : Type 0} {T : Type 0} {input : Change S} {o : Outcome} (e : InputError) → o ≡ outcome_without e → (input.failed input.old ≡ false → input.failed input.new ≡ true → ◌≡◌ {A = Result T InputError} (Err e) (Err cause.Device))
    → (◌≡◌ {A = Result T InputError} (Err e) (Err cause.Device) → input.marked input.new ≡ false → IfSome (input.bytes input.old) (λ all. most_calls ≤ length all)) → IsUnread input o
unread_of cause.Device is failed why = record { ends = inl is; failed = λ was fails. is; cause = λ d unmarked. why refl unmarked }
unread_of cause.Memory is failed why = record { ends = inr is; failed = λ was fails. absurd (err_memory (failed was fails)); cause = λ d unmarked. absurd (memory_device (sym is ∙ d)) }
