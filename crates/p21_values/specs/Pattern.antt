-- LIKE.
use Rattle.std.specs.Prelude.{ℕ, ◌+◌, ◌-◌, ◌≡◌, ◌≤◌, Bool, true, false, List, [], ◌∷◌, ◌++◌, ◌&&◌, ◌||◌, not, nat_eq, nat_lt, if◌then◌else◌, Option, Some, None, option_to_list, length, drop, slice_index_or}
use Rattle.p21_values.specs.Plain.{Val, truth, text, bare}
use Rattle.p21_values.specs.Logic.{truth_of}
use Rattle.p21_values.specs.declared.truth.Truth.{Truth}
use Rattle.p21_values.specs.declared.truth.Truth.TheVariants.{Unknown}
use Rattle.p21_values.specs.declared.pattern.Mark.{Mark}
use Rattle.p21_values.specs.declared.pattern.Mark.TheVariants as mark
use Rattle.p21_values.specs.declared.pattern.Reading.{Reading}
use Rattle.p21_values.specs.declared.pattern.Reading.TheVariants as reading

-- whether a code is between two others
abbrev pub between : ℕ → ℕ → ℕ → Bool
between low high c = not (nat_lt c low) && not (nat_lt high c)

abbrev pub is_letter : ℕ → Bool
is_letter c = between 65 90 c || between 97 122 c

-- whether a character passes a mark
abbrev pub differs : Bool → Bool → Bool
differs true b = not b
differs false b = b

abbrev pub passes : Mark → ℕ → Bool
passes (mark.Code d n) c = differs n (nat_eq c d)
passes (mark.Letter n) c = differs n (is_letter c)
passes (mark.Upper n) c = differs n (between 65 90 c)
passes (mark.Digit n) c = differs n (between 48 57 c)
passes mark.Any c = true
passes mark.Never c = false
passes mark.Run c = true
passes mark.Word c = not (nat_eq c 32)

-- a mark of one character, and then the rest
abbrev pub one_then : (ℕ → Bool) → (List ℕ → Bool) → List ℕ → Bool
one_then p rest [] = false
one_then p rest (c ∷ cs) = p c && rest cs

-- a mark of any number of characters, and then the rest
abbrev pub run_then : (ℕ → Bool) → (List ℕ → Bool) → List ℕ → Bool
run_then p rest [] = rest []
run_then p rest (c ∷ cs) = rest (c ∷ cs) || (p c && run_then p rest cs)

abbrev pub mark_then : Mark → (List ℕ → Bool) → List ℕ → Bool
mark_then mark.Run rest cs = run_then (passes mark.Run) rest cs
mark_then mark.Word rest cs = run_then (passes mark.Word) rest cs
mark_then m rest cs = one_then (passes m) rest cs

abbrev pub nothing_left : List ℕ → Bool
nothing_left [] = true
nothing_left (c ∷ cs) = false

-- whether a text is like the marks of a pattern
abbrev pub matches : List Mark → List ℕ → Bool
matches [] cs = nothing_left cs
matches (m ∷ ms) cs = mark_then m (matches ms) cs

-- the mark that a character of a pattern is
abbrev pub many : Bool → Mark → Mark
many true m = mark.Never
many false m = m

abbrev pub mark_of : Bool → ℕ → Mark
mark_of n c =
    if nat_eq c 64 then mark.Letter n
    else (if nat_eq c 94 then mark.Upper n
    else (if nat_eq c 35 then mark.Digit n
    else (if nat_eq c 63 then many n mark.Any
    else (if nat_eq c 42 then many n mark.Run
    else (if nat_eq c 38 then many n mark.Run
    else (if nat_eq c 36 then many n mark.Word
    else mark.Code c n))))))

-- `\` takes the next character as it is, and `!` negates the next mark
abbrev pub emitted : Reading → ℕ → Option Mark
emitted reading.Plain c = if nat_eq c 33 then None else (if nat_eq c 92 then None else Some (mark_of false c))
emitted reading.Negated c = if nat_eq c 92 then None else Some (mark_of true c)
emitted (reading.Escaped n) c = Some (mark.Code c n)

abbrev pub next_of : Reading → ℕ → Reading
next_of reading.Plain c = if nat_eq c 33 then reading.Negated else (if nat_eq c 92 then reading.Escaped false else reading.Plain)
next_of reading.Negated c = if nat_eq c 92 then reading.Escaped true else reading.Plain
next_of (reading.Escaped n) c = reading.Plain

-- a `\` at the end stands for itself
abbrev pub last_of : Reading → Option Mark
last_of reading.Plain = None
last_of reading.Negated = None
last_of (reading.Escaped n) = Some (mark.Code 92 n)

-- the marks of a pattern
abbrev pub marks_of : Reading → List ℕ → List Mark
marks_of r [] = option_to_list (last_of r)
marks_of r (c ∷ cs) = option_to_list (emitted r c) ++ marks_of (next_of r c) cs

-- whether a text is like a pattern
abbrev pub is_like : List ℕ → List ℕ → Bool
is_like t p = matches (marks_of reading.Plain p) t

-- LIKE of two values without defined types: UNKNOWN where one of them is no text
abbrev pub like_text : List ℕ → Val → Truth
like_text t (text p) = truth_of (is_like t p)
like_text t _ = Unknown

abbrev pub like_bare : Val → Val → Truth
like_bare (text t) w = like_text t w
like_bare _ w = Unknown

-- LIKE: defined types play no part
abbrev pub like_of : Val → Val → Val
like_of v w = truth (like_bare (bare v) (bare w))

-- whether the empty text is like a mark and others, where it is like those or not
abbrev pub ends_of : Mark → Bool → Bool
ends_of mark.Run b = b
ends_of mark.Word b = b
ends_of _ b = false

-- whether a text is like a mark and others: by its first character, whether what follows that is like the others, the text is, and what follows it
-- is like the mark and the others
abbrev pub leads_of : Mark → ℕ → Bool → Bool → Bool → Bool
leads_of mark.Run c rest whole after = whole || (passes mark.Run c && after)
leads_of mark.Word c rest whole after = whole || (passes mark.Word c && after)
leads_of m c rest whole after = passes m c && rest

-- the end of a text that has so many characters
abbrev pub end_of : List ℕ → ℕ → List ℕ
end_of t k = drop (length t - k) t

-- a row says of each length whether the end of the text with so many characters is like the marks
abbrev pub IsRow : List Mark → List ℕ → List Bool → Type 0
IsRow ms t row = (length row ≡ length t + 1) × ((k : ℕ) → k ≤ length t → slice_index_or row k false ≡ matches ms (end_of t k))
