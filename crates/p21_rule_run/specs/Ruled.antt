-- The report of a file against a schema and the rules that are looked at.
use Rattle.std.specs.Prelude.{◌≡◌, ◌≢◌, ◌⊎◌, ◌++◌, ℕ, Bool, true, false, List, [], Ok, Err, take}
use Rattle.p21_express.specs.Schema.{Schema}
use Rattle.p21_tree.specs.Sentence.{Instance}
use Rattle.p21_tree.specs.declared.faults.Fault.{Fault}
use Rattle.p21_reader.specs.AllFaults.{IsReadingWithAll}
use Rattle.p21_reader.specs.Reading.{IsReading}
use Rattle.p21_render.specs.FaultLine.{fault_lines, fault_text}
use Rattle.p21_render.specs.ReadingText.{IsModelText}
use Rattle.p21_rule_text.specs.Rules.{AreRules, HasNoRules}
use Rattle.p21_rule_text.specs.declared.rules.Rules.{Rules}
use Rattle.p21_where_findings.specs.declared.findings.BrokenRule.{BrokenRule}
use Rattle.p21_where_findings.specs.declared.findings.WhereRule.{WhereRule}
use Rattle.p21_run.specs.Run.{Statement}
use Rattle.p21_run.specs.declared.input.InputError.TheVariants.{Memory}
use Rattle.p21_run.specs.declared.outcome.Outcome.{Outcome}
use Rattle.p21_run.specs.declared.outcome.Outcome.TheVariants as outcome
use Rattle.p21_rule_run.specs.FaultLine.{rule_fault_lines}
use Rattle.p21_rule_run.specs.BrokenLine.{rule_broken_lines, told_after}
use Rattle.p21_rule_run.specs.RuleFault.{AreRuleFaults, AreRulesIn}
use Rattle.p21_rule_run.specs.declared.rule_fault.RuleFault.{RuleFault}

-- the faults that a report tells: all, or the first alone
abbrev pub told : (all : Bool) → List RuleFault → List RuleFault
told true fs = fs
told false fs = take 1 fs

-- The report of a model: its counts where it keeps all rules, and else the lines of its faults, those of rules of WHERE after them. Which rules of
-- WHERE are broken is not said here.
pub data IsOfModel (all : Bool) (s : Schema) (rules : Rules) (is : List Instance) : Outcome → List ℕ → Type 0 where
  kept : {text : List ℕ} → AreRuleFaults s rules is [] → IsModelText s is text → IsOfModel all s rules is outcome.Complete text
  broken : {fs : List RuleFault} (ws : List WhereRule) {bs : List BrokenRule} {text : List ℕ} → AreRuleFaults s rules is fs → (fs ≢ []) ⊎ (bs ≢ []) → text ≡ rule_fault_lines s rules (told all fs) ++ rule_broken_lines ws (told_after all fs bs) → IsOfModel all s rules is outcome.Faulty text

-- The report of a file: the line of the fault of its reading, or the report of its model.
pub data IsFirstRuled (s : Schema) (rules : Rules) (file : List ℕ) : Outcome → List ℕ → Type 0 where
  faulty : {f : Fault} {text : List ℕ} → IsReading s file (Err f) → text ≡ fault_text f → IsFirstRuled s rules file outcome.Faulty text
  of_model : {is : List Instance} {o : Outcome} {text : List ℕ} → IsReading s file (Ok is) → IsOfModel false s rules is o text → IsFirstRuled s rules file o text

-- The same with the lines of all faults.
pub data IsFullyRuled (s : Schema) (rules : Rules) (file : List ℕ) : Outcome → List ℕ → Type 0 where
  faulty : {fs : List Fault} {text : List ℕ} → IsReadingWithAll s file (Err fs) → text ≡ fault_lines fs → IsFullyRuled s rules file outcome.Faulty text
  of_model : {is : List Instance} {o : Outcome} {text : List ℕ} → IsReadingWithAll s file (Ok is) → IsOfModel true s rules is o text → IsFullyRuled s rules file o text

-- the report with all faults where they are wanted, and else with the first alone
abbrev pub IsRuled : (all : Bool) → Schema → Rules → List ℕ → Outcome → List ℕ → Type 0
IsRuled true s rules file o text = IsFullyRuled s rules file o text
IsRuled false s rules file o text = IsFirstRuled s rules file o text

-- The report of a file against a schema by the rules of its text.
pub record IsReportBy (all : Bool) (s : Schema) (schema_text file : List ℕ) (o : Outcome) (text : List ℕ) : Type 0 where
  pub rules : Rules
  pub are_rules : AreRules s schema_text rules
  pub ruled : IsRuled all s rules file o text

-- the rules of a schema's text
abbrev pub TakesRules : Schema → List ℕ → Rules → Type 0
TakesRules s schema_text rules = AreRules s schema_text rules × AreRulesIn s rules

-- A check by the rules refuses a schema whose text has no rules against it. Its answer is the report of the file by these rules, with all faults
-- where they are wanted, and else with the first alone. It gives up for lack of memory alone, and writes nothing of its own.
abbrev pub rule_check : (all : Bool) → Statement (Unit {0})
rule_check all = record {
  refuses = λ s schema_text. HasNoRules s schema_text;
  answers = λ s schema_text file old new o text. IsReportBy all s schema_text file o text;
  leaves = λ s schema_text file old new cause. cause ≡ Memory;
}
