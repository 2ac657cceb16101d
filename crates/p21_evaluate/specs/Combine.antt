-- What is made of two values.
use Rattle.std.specs.Prelude.{ℕ}
use Rattle.p21_values.specs.Ends.{Outcome, gives}
use Rattle.p21_values.specs.Operators.{binary_of, nvl_of}
use Rattle.p21_values.specs.Parts.{index_of}
use Rattle.p21_values.specs.Pattern.{like_of}
use Rattle.p21_values.specs.Plain.{Val}
use Rattle.p21_values.specs.declared.truth.Truth.{Truth}
use Rattle.p21_evaluate.specs.declared.term.Combination.{Combination}
use Rattle.p21_evaluate.specs.declared.term.Combination.TheVariants as combination

-- what is made of two values, by a comparison of instances for `=`
abbrev pub combined_of : (ℕ → ℕ → Truth) → Combination → Val → Val → Outcome Val
combined_of e (combination.Operator op) v w = binary_of e op v w
combined_of e combination.OrElse v w = gives (nvl_of v w)
combined_of e combination.Element v w = gives (index_of v w)
combined_of e combination.Like v w = gives (like_of v w)
