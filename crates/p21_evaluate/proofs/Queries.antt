-- Queries that keep no element.
use Rattle.std.proofs.Common.{◌≡◌, ◌↔◌, ℕ, suc, pos, List, [], ◌∷◌, ◌++◌, length, refl, ap, sym, ◌∙◌, arith, Bool, true, false}
use Rattle.std.proofs.lemmas.Bool.Decides.{nat_tests}
use Rattle.std.specs.Ordering.{int_eq}
use Rattle.p21_values.specs.Logic.{truth_of}
use Rattle.p21_values.specs.Ends.{Outcome, gives, not_computed, too_deep}
use Rattle.p21_values.specs.Operators.{binary_of, unary_of}
use Rattle.p21_values.specs.Plain.{Val, Vals, none, more, several, whole, truth, listed}
use Rattle.p21_values.specs.declared.kind.Kind.{Kind}
use Rattle.p21_values.specs.declared.operators.BinaryOperator.TheVariants as binary
use Rattle.p21_values.specs.declared.operators.UnaryOperator.TheVariants as unary
use Rattle.p21_values.specs.declared.truth.Truth.{Truth}
use Rattle.p21_values.specs.declared.truth.Truth.TheVariants.{False, True}
use Rattle.p21_evaluate.specs.Combine.{combined_of}
use Rattle.p21_evaluate.specs.Ends.{and_then}
use Rattle.p21_evaluate.specs.Laws.{IsNone, IsTrueOfNone}
use Rattle.p21_evaluate.specs.Meaning.{Answers, is_true, keep_if, keeps_places, kept, meaning, query_of}
use Rattle.p21_evaluate.specs.declared.term.Combination.TheVariants as combination
use Rattle.p21_evaluate.specs.declared.term.Function.{Function}
use Rattle.p21_evaluate.specs.declared.term.Literal.TheVariants as literal
use Rattle.p21_evaluate.specs.declared.term.Term.{Term}
use Rattle.p21_evaluate.specs.declared.term.Term.TheVariants as term

given : Vals → Outcome Vals → Vals
given d (gives ws) = ws
given d not_computed = d
given d too_deep = d

keeps_none : (b : Bool) (v : Val) (ws : Vals) → gives (keep_if false b v ws) ≡ gives none → (b ≡ false) × (ws ≡ none)
unfolding given
keeps_none true v ws h = absurd (cc)
keeps_none false v ws h = (refl, ap (given ws) h)

-- what stands where nothing is kept
first_none : (o : Outcome Val) (p : Outcome Vals) (v : Val) → and_then o (λ answer. and_then p (λ ws. gives (keep_if false (is_true answer) v ws))) ≡ gives none → ((answer : Val) × (o ≡ gives answer) × (is_true answer ≡ false)) × (p ≡ gives none)
first_none (gives a) (gives ws) v h =
    let k = keeps_none (is_true a) v ws h in
    ((a, refl, k.0), ap gives k.1)
first_none (gives a) not_computed v h = absurd (cc)
first_none (gives a) too_deep v h = absurd (cc)
first_none not_computed p v h = absurd (cc)
first_none too_deep p v h = absurd (cc)

pub none_of_kept : (test : Val → Outcome Val) (vs : Vals) → kept false test vs ≡ gives none → IsTrueOfNone test vs
none_of_kept test none h = tt
none_of_kept test (more v vs) h =
    let f = first_none (test v) (kept false test vs) v h in
    (f.0, none_of_kept test vs f.1)

pub kept_of_none : (test : Val → Outcome Val) (vs : Vals) → IsTrueOfNone test vs → kept false test vs ≡ gives none
kept_of_none test none h = refl
kept_of_none test (more v vs) h =
    let rest = kept_of_none test vs h.1 in
    ap (λ o. and_then o (λ answer. and_then (kept false test vs) (λ ws. gives (keep_if false (is_true answer) v ws)))) h.0.1
    ∙ ap (λ o. and_then o (λ ws. gives (keep_if false (is_true h.0.0) v ws))) rest
    ∙ ap (λ b. gives (keep_if false b v none)) h.0.2

some_left : (n : ℕ) → int_eq (pos (suc n)) (pos 0) ≡ false
some_left n = grind (arith, nat_tests)

abbrev truth_in : Outcome Val → Truth
truth_in (gives (truth l)) = l
truth_in _ = False

-- the size is 0 of no elements alone
size_none : (e : ℕ → ℕ → Truth) (k : Kind) (o : Outcome Vals) → and_then (and_then (and_then o (λ ws. gives (several k ws))) (unary_of unary.SizeOf)) (λ n. binary_of e binary.Equal n (whole (pos 0))) ≡ gives (truth True) → o ≡ gives none
size_none e k (gives none) h = refl
size_none e k (gives (more v ws)) h =
    let f : truth_of (int_eq (pos (suc (length (listed ws)))) (pos 0)) ≡ True = ap truth_in h in
    let g : False ≡ True = sym (ap truth_of (some_left (length (listed ws)))) ∙ f in
    absurd (cc)
size_none e k not_computed h = absurd (cc)
size_none e k too_deep h = absurd (cc)

pub none_is_true : (n : ℕ) (w : Answers) (fs : List Function) (t over condition : Term) (env : List Val) (k : Kind) (vs : Vals) → keeps_places k ≡ false → IsNone t over condition → meaning n w fs over env ≡ gives (several k vs) → (meaning (suc (suc (suc n))) w fs t env ≡ gives (truth True)) ↔ IsTrueOfNone (λ x. meaning n w fs condition (env ++ x ∷ [])) vs
none_is_true n w fs t over condition env k vs flat is h =
    let test : Val → Outcome Val = λ x. meaning n w fs condition (env ++ x ∷ []) in
    let zeros : Outcome Val → Term → Outcome Val = λ o z. and_then o (λ v. and_then (meaning (suc (suc n)) w fs z env) (λ x. combined_of w.same (combination.Operator binary.Equal) v x)) in
    let sized : Outcome Val → Term → Term → Outcome Val = λ o c z. zeros (and_then (and_then o (query_of (λ x. meaning n w fs c (env ++ x ∷ [])))) (unary_of unary.SizeOf)) z in
    let zero_kept : Bool → Outcome Val = λ p. zeros (and_then (and_then (kept p test vs) (λ ws. gives (several k ws))) (unary_of unary.SizeOf)) (term.Literal (literal.Integer (pos 0))) in
    let all : meaning (suc (suc (suc n))) w fs t env ≡ zero_kept false =
    ap (λ u. meaning (suc (suc (suc n))) w fs u env) is.5
    ∙ ap (λ u. zeros (meaning (suc (suc n)) w fs u env) is.1.value) is.6
    ∙ ap (λ u. zeros (and_then (meaning (suc n) w fs u env) (unary_of unary.SizeOf)) is.1.value) is.8
    ∙ ap (λ u. sized (meaning n w fs u env) is.4.value is.1.value) is.9
    ∙ ap (λ o. sized o is.4.value is.1.value) h
    ∙ ap (λ u. sized (gives (several k vs)) u is.1.value) is.10
    ∙ ap (sized (gives (several k vs)) condition) is.7
    ∙ ap zero_kept flat in (
      (λ given. none_of_kept test vs (size_none w.same k (kept false test vs) (sym all ∙ given))),
      (λ empty. all ∙ ap (λ o. and_then (and_then (and_then o (λ ws. gives (several k ws))) (unary_of unary.SizeOf)) (λ m. binary_of w.same binary.Equal m (whole (pos 0)))) (kept_of_none test vs empty)),
    )
