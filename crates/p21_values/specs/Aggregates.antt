-- What is asked of an aggregate.
use Rattle.std.specs.Prelude.{ℕ, ℤ, pos, negsuc, ◌+ℤ◌, ◌-ℤ◌, List, [], ◌∷◌, length}
use Rattle.p21_values.specs.Plain.{Val, Vals, nothing, truth, whole, number, text, bits, member, instance, typed, several, none, more, listed}
use Rattle.p21_values.specs.Arithmetic.{integer_of}
use Rattle.p21_values.specs.Ends.{Outcome, gives, not_computed}
use Rattle.p21_values.specs.Logic.{or_of}
use Rattle.p21_values.specs.Same.{same_of}
use Rattle.p21_values.specs.declared.truth.Truth.{Truth}
use Rattle.p21_values.specs.declared.truth.Truth.TheVariants.{False, Unknown}
use Rattle.p21_values.specs.declared.kind.Kind.{Kind}
use Rattle.p21_values.specs.declared.kind.Kind.TheVariants as kind

-- whether some value passes: UNKNOWN where none does and one may
abbrev pub any_of : (Val → Truth) → List Val → Truth
any_of p [] = False
any_of p (w ∷ ws) = or_of (p w) (any_of p ws)

-- whether `?` is sought
abbrev pub not_known : Val → Truth
not_known nothing = Unknown
not_known _ = False

-- IN: whether one of the elements is the same by a comparison of instances, UNKNOWN for `?`
abbrev pub in_of : (ℕ → ℕ → Truth) → Val → Val → Truth
in_of e v (several k ws) = or_of (not_known v) (any_of (same_of e v) (listed ws))
in_of e v _ = Unknown

-- SIZEOF
abbrev pub size_of : Val → Val
size_of (several k vs) = whole (pos (length (listed vs)))
size_of _ = nothing

-- the index of the first element: an array has its own, and others begin at 1
abbrev pub first_index : Kind → ℤ
first_index (kind.Array i) = i
first_index _ = pos 1

-- LOINDEX
abbrev pub low_index_of : Val → Val
low_index_of (several k vs) = whole (first_index k)
low_index_of _ = nothing

-- HIINDEX
abbrev pub high_index_of : Val → Outcome Val
high_index_of (several k vs) = integer_of (first_index k +ℤ (pos (length (listed vs)) -ℤ pos 1))
high_index_of _ = gives nothing
