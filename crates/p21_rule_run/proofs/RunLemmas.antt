-- Reports of models, and of faults.
use Rattle.std.proofs.Common.{◌≡◌, ◌≢◌, ℕ, Bool, true, false, List, [], ◌∷◌, Result, Ok, Err, IfOk, inl, inr, length, refl, sym, ap, subst, ◌∙◌}
use Rattle.std.specs.Prelude.{◌==◌, MatchBool}
use Rattle.std.proofs.lemmas.Bool.{eqb-true, false≢true}
use Rattle.p21_express.specs.Schema.{Schema}
use Rattle.p21_tree.specs.Sentence.{Instance}
use Rattle.p21_render.specs.ReadingText.{IsModelText}
use Rattle.p21_rule_text.specs.declared.rules.Rules.{Rules}
use Rattle.p21_run.specs.Run.{Change, IsOfFile, IsTold}
use Rattle.p21_run.specs.declared.outcome.Outcome.{Outcome}
use Rattle.p21_run.specs.declared.outcome.Outcome.TheVariants as outcome
use Rattle.p21_rule_run.specs.declared.rule_fault.RuleFault.{RuleFault}
use Rattle.p21_rule_run.specs.RuleFault.{AreRuleFaults}
use Rattle.p21_rule_run.specs.Ruled.{IsFirstRuled, IsFullyRuled, IsOfModel, IsRuled}
use Rattle.p21_rule_run.specs.Ruled as ruled

pub on_ok : {T E : Type 0} {P Q : T → Type 0} (r : Result T E) → ((x : T) → P x → Q x) → IfOk r P → IfOk r Q
on_ok (Ok x) f h = f x h
on_ok (Err e) f h = tt

pub on_both : {T E : Type 0} {P Q R : T → Type 0} (r : Result T E) → ((x : T) → P x → Q x → R x) → IfOk r P → IfOk r Q → IfOk r R
on_both (Ok x) f h k = f x h k
on_both (Err e) f h k = tt

none_of : {X : Type 0} (xs : List X) → length xs ≡ 0 → xs ≡ []
none_of [] e = refl
none_of (x ∷ xs) e = absurd (cc)

pub is_none : {X : Type 0} (xs : List X) (empty : Bool) → empty ≡ (length xs == 0) → empty ≡ true → xs ≡ []
is_none xs empty e t = none_of xs (eqb-true (length xs) 0 (sym e ∙ t))

pub is_some : {X : Type 0} (xs : List X) (empty : Bool) → empty ≡ (length xs == 0) → empty ≡ false → xs ≢ []
is_some xs empty e f none = false≢true (sym f ∙ e ∙ ap (λ l. length l == 0) none)

pub of_kept : (all : Bool) (s : Schema) (rules : Rules) (is : List Instance) (fs : List RuleFault) (o : Outcome) (text : List ℕ) → AreRuleFaults s rules is fs → fs ≡ [] → o ≡ outcome.Complete → IsModelText s is text → IsOfModel all s rules is o text
of_kept all s rules is fs o text found none complete model = subst (λ (x : Outcome). IsOfModel all s rules is x text) (sym complete) (ruled.kept (subst (AreRuleFaults s rules is) none found) model)

-- what holds where nothing is broken, and where something is
pub kept_of : (P Q : Type 0) (b : Bool) → MatchBool b P Q → b ≡ true → P
kept_of P Q b m e = subst (λ x. MatchBool x P Q) e m

pub broken_of : (P Q : Type 0) (b : Bool) → MatchBool b P Q → b ≡ false → Q
broken_of P Q b m e = subst (λ x. MatchBool x P Q) e m

-- the report of a file is of one that is complete or faulty

model_of_file : (all : Bool) (s : Schema) (rules : Rules) (is : List Instance) (o : Outcome) (text : List ℕ) → IsOfModel all s rules is o text → IsOfFile o
model_of_file all s rules is o text (ruled.kept none counted) = inl refl
model_of_file all s rules is o text (ruled.broken ws found some lines) = inr refl

first_of_file : (s : Schema) (rules : Rules) (file : List ℕ) (o : Outcome) (text : List ℕ) → IsFirstRuled s rules file o text → IsOfFile o
first_of_file s rules file o text (IsFirstRuled.faulty of line) = inr refl
first_of_file s rules file o text (IsFirstRuled.of_model {is = is} of model) = model_of_file false s rules is o text model

fully_of_file : (s : Schema) (rules : Rules) (file : List ℕ) (o : Outcome) (text : List ℕ) → IsFullyRuled s rules file o text → IsOfFile o
fully_of_file s rules file o text (IsFullyRuled.faulty of lines) = inr refl
fully_of_file s rules file o text (IsFullyRuled.of_model {is = is} of model) = model_of_file true s rules is o text model

pub ruled_of_file : (all : Bool) (s : Schema) (rules : Rules) (file : List ℕ) (o : Outcome) (text : List ℕ) → IsRuled all s rules file o text → IsOfFile o
ruled_of_file true s rules file o text ruled = fully_of_file s rules file o text ruled
ruled_of_file false s rules file o text ruled = first_of_file s rules file o text ruled

-- what is told of a text is told of an equal one
pub told_of : {K : Type 0} {out : Change K} {a b : List ℕ} {due o : Outcome} → a ≡ b → IsTold out a due o → IsTold out b due o
told_of {K} {out} {a} {b} {due} {o} e told = subst (λ x. IsTold out x due o) e told
