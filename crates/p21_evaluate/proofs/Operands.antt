-- Operators whose operands may stand the other way round.
use Rattle.std.proofs.Common.{◌≡◌, ℕ, zero, suc, List, refl, ap, sym, ◌∙◌}
use Rattle.p21_values.specs.Ends.{Outcome, gives, not_computed, too_deep}
use Rattle.p21_values.specs.Logic.{and_of, or_of}
use Rattle.p21_values.specs.Operators.{binary_of, logical_of}
use Rattle.p21_values.specs.Plain.{Val, truth, bare}
use Rattle.p21_values.specs.declared.operators.BinaryOperator.{BinaryOperator}
use Rattle.p21_values.specs.declared.operators.BinaryOperator.TheVariants as binary
use Rattle.p21_values.specs.declared.truth.Truth.{Truth}
use Rattle.p21_values.specs.declared.truth.Truth.TheVariants.{False, Unknown, True}
use Rattle.p21_evaluate.specs.Combine.{combined_of}
use Rattle.p21_evaluate.specs.Ends.{and_then}
use Rattle.p21_evaluate.specs.Laws.{Commutes, IsCombined}
use Rattle.p21_evaluate.specs.Meaning.{Answers, meaning}
use Rattle.p21_evaluate.specs.declared.term.Combination.TheVariants as combination
use Rattle.p21_evaluate.specs.declared.term.Function.{Function}
use Rattle.p21_evaluate.specs.declared.term.Term.{Term}
use Rattle.p21_evaluate.specs.declared.term.Term.TheVariants as term

and_turned : (a b : Truth) → and_of a b ≡ and_of b a
and_turned False False = refl
and_turned False Unknown = refl
and_turned False True = refl
and_turned Unknown False = refl
and_turned Unknown Unknown = refl
and_turned Unknown True = refl
and_turned True False = refl
and_turned True Unknown = refl
and_turned True True = refl

or_turned : (a b : Truth) → or_of a b ≡ or_of b a
or_turned False False = refl
or_turned False Unknown = refl
or_turned False True = refl
or_turned Unknown False = refl
or_turned Unknown Unknown = refl
or_turned Unknown True = refl
or_turned True False = refl
or_turned True Unknown = refl
or_turned True True = refl

both_turned : (f : Val → Val → Outcome Val) → ((a b : Val) → f a b ≡ f b a) → (o p : Outcome Val) (v : Val) → and_then o (λ a. and_then p (λ b. f a b)) ≡ gives v → and_then p (λ a. and_then o (λ b. f a b)) ≡ gives v
both_turned f turned (gives a) (gives b) v h = turned b a ∙ h
both_turned f turned (gives a) not_computed v h = h
both_turned f turned (gives a) too_deep v h = h
both_turned f turned not_computed (gives b) v h = h
both_turned f turned too_deep (gives b) v h = h
both_turned f turned not_computed _ v h = absurd (cc)
both_turned f turned too_deep _ v h = absurd (cc)

commutes : (op : BinaryOperator) → ((e : ℕ → ℕ → Truth) (a b : Val) → binary_of e op a b ≡ binary_of e op b a) → Commutes op
commutes op turned zero w fs t u a b env v is is' h = absurd (cc)
commutes op turned (suc n) w fs t u a b env v is is' h =
    let go : Term → Outcome Val = λ x. meaning n w fs x env in
    let both : Term → Term → Outcome Val = λ x y. and_then (go x) (λ c. and_then (go y) (λ d. combined_of w.same (combination.Operator op) c d)) in
    let here : meaning (suc n) w fs t env ≡ both a b =
    ap (λ x. meaning (suc n) w fs x env) is.2 ∙ ap (λ x. both x is.1.value) is.3 ∙ ap (both a) is.4 in
    let there : meaning (suc n) w fs u env ≡ both b a =
    ap (λ x. meaning (suc n) w fs x env) is'.2 ∙ ap (λ x. both x is'.1.value) is'.3 ∙ ap (both b) is'.4 in
    there ∙ both_turned (λ c d. combined_of w.same (combination.Operator op) c d) (turned w.same) (go a) (go b) v (sym here ∙ h)

pub and_commutes : Commutes binary.And
and_commutes = commutes binary.And (λ e a b. ap (λ l. gives (truth l)) (and_turned (logical_of (bare a)) (logical_of (bare b))))

pub or_commutes : Commutes binary.Or
or_commutes = commutes binary.Or (λ e a b. ap (λ l. gives (truth l)) (or_turned (logical_of (bare a)) (logical_of (bare b))))
