-- What is due, and what is written of it.
use Rattle.std.proofs.Common.{◌≡◌, ◌⊎◌, inl, inr, ℕ, Bool, true, false, List, Option, Some, Result, Ok, Err, refl, sym, subst}
use Rattle.std.specs.Prelude.{IfSome}
use Rattle.std.specs.Io.KnownBytes.{Appends}
use Rattle.p21_run.specs.declared.outcome.Outcome.{Outcome}
use Rattle.p21_run.specs.declared.outcome.Outcome.TheVariants as outcome
use Rattle.p21_express.specs.Schema.{Schema}
use Rattle.p21_schema.specs.Rules.{with_rules}
use Rattle.p21_schema.specs.declared.rules.Rules.{Rules}
use Rattle.p21_express.specs.Reading.{IsReading}
use Rattle.p21_tree.specs.Sentence.{Instance}
use Rattle.p21_run.specs.Due.{outcome_of, IsDue, IsReport, Writes}

-- a fact of what is there is one of what it is
pub of_some : {X : Type 0} (a : Option X) (x : X) (P : X → Type 0) → IfSome a P → a ≡ Some x → P x
of_some a x P holds is = subst (λ o. IfSome o P) is holds

-- a report ends with a model or with a fault

ended : {F : Type 0} (a : Result (List Instance) F) (o : Outcome) → o ≡ outcome_of a → (o ≡ outcome.Complete) ⊎ (o ≡ outcome.Faulty)
ended (Ok is) o e = inl e
ended (Err fault) o e = inr e

ends : (all : Bool) (s : Schema) (file text : List ℕ) (o : Outcome) → IsReport all s file o text → (o ≡ outcome.Complete) ⊎ (o ≡ outcome.Faulty)
ends true s file text o r = ended r.answer o r.ends
ends false s file text o r = ended r.answer o r.ends

never_refused : (outcome.SchemaRefused ≡ outcome.Complete) ⊎ (outcome.SchemaRefused ≡ outcome.Faulty) → ⊥
never_refused (inl e) = cc
never_refused (inr e) = cc

never_device : (outcome.Device ≡ outcome.Complete) ⊎ (outcome.Device ≡ outcome.Faulty) → ⊥
never_device (inl e) = cc
never_device (inr e) = cc

never_memory : (outcome.Memory ≡ outcome.Complete) ⊎ (outcome.Memory ≡ outcome.Faulty) → ⊥
never_memory (inl e) = cc
never_memory (inr e) = cc

-- a text that is due with some outcome was written whole
pub written : (all : Bool) (rules : Rules) (schema_text file text : List ℕ) (o : Outcome) (old new : Option (List ℕ)) → IsDue all rules schema_text file o text → Appends old new text → Writes all rules schema_text file o old new
written all rules schema_text file text outcome.Complete old new due appends = (text, due, appends)
written all rules schema_text file text outcome.Faulty old new due appends = (text, due, appends)
written all rules schema_text file text outcome.SchemaRefused old new due appends = (text, due, appends)
written all rules schema_text file text outcome.Device old new due appends = absurd (never_device (ends all (with_rules due.0 rules) file text outcome.Device due.2))
written all rules schema_text file text outcome.Memory old new due appends = absurd (never_memory (ends all (with_rules due.0 rules) file text outcome.Memory due.2))

-- the report of a file against the schema that the text declares is due
pub report_due : (all : Bool) (rules : Rules) (s : Schema) (schema_text file text : List ℕ) (o : Outcome) → IsReading schema_text s → IsReport all (with_rules s rules) file o text → IsDue all rules schema_text file o text
report_due all rules s schema_text file text outcome.Complete reading report = (s, reading, report)
report_due all rules s schema_text file text outcome.Faulty reading report = (s, reading, report)
report_due all rules s schema_text file text outcome.SchemaRefused reading report = absurd (never_refused (ends all (with_rules s rules) file text outcome.SchemaRefused report))
report_due all rules s schema_text file text outcome.Device reading report = (s, reading, report)
report_due all rules s schema_text file text outcome.Memory reading report = (s, reading, report)
