-- Parts of values: elements, characters and bits.
use Rattle.std.specs.Prelude.{ℕ, ℤ, pos, ◌-ℤ◌, ◌-◌, List, Bool, int_lt, nat_lt, length, if◌then◌else◌, ◌||◌, slice_index_or, unsigned_abs}
use Rattle.p21_values.specs.Plain.{Val, Vals, nothing, truth, whole, number, text, bits, member, instance, typed, several, bare, listed, part}
use Rattle.p21_values.specs.Aggregates.{first_index}
use Rattle.p21_values.specs.declared.kind.Kind.{Kind}

-- the element at an index, where the first has a given index; `?` where there is none
abbrev pub element_at : List Val → ℤ → ℤ → Val
element_at vs first i = if int_lt i first then nothing else slice_index_or vs (unsigned_abs (i -ℤ first)) nothing

-- characters count from 1: whether the first or the last of a part is none, or the last is before the first
abbrev pub is_outside : ℕ → ℤ → ℤ → Bool
is_outside n i j = int_lt i (pos 1) || (int_lt j i || nat_lt n (unsigned_abs j))

-- a part of a text or a binary, from one character to another; `?` where it is none
abbrev pub text_part : List ℕ → ℤ → ℤ → Val
text_part t i j = if is_outside (length t) i j then nothing else text (part t (unsigned_abs i - 1) (unsigned_abs j))

abbrev pub bits_part : List ℕ → ℤ → ℤ → Val
bits_part t i j = if is_outside (length t) i j then nothing else bits (part t (unsigned_abs i - 1) (unsigned_abs j))

-- the part of a value between two places
abbrev pub part_between : Val → ℤ → ℤ → Val
part_between (text t) i j = text_part t i j
part_between (bits t) i j = bits_part t i j
part_between _ i j = nothing

-- `[i:j]` of a text or a binary
abbrev pub range_to : Val → ℤ → Val → Val
range_to v i (whole j) = part_between v i j
range_to v i _ = nothing

abbrev pub range_bare : Val → Val → Val → Val
range_bare v (whole i) w = range_to v i w
range_bare v _ w = nothing

-- `[i]` of an aggregate, a text or a binary
abbrev pub at_index : Val → ℤ → Val
at_index (several k vs) i = element_at (listed vs) (first_index k) i
at_index v i = part_between v i i

abbrev pub index_bare : Val → Val → Val
index_bare v (whole i) = at_index v i
index_bare v _ = nothing

-- defined types play no part
abbrev pub index_of : Val → Val → Val
index_of v i = index_bare (bare v) (bare i)

abbrev pub range_of : Val → Val → Val → Val
range_of v i j = range_bare (bare v) (bare i) (bare j)
