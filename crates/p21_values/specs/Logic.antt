-- Logic with three values, by its tables.
use Rattle.std.specs.Prelude.{Bool, true, false, not, ◌&&◌}
use Rattle.p21_values.specs.declared.truth.Truth.{Truth}
use Rattle.p21_values.specs.declared.truth.Truth.TheVariants.{False, Unknown, True}

-- a test is TRUE or FALSE
abbrev pub truth_of : Bool → Truth
truth_of true = True
truth_of false = False

-- whether a truth is TRUE
abbrev pub is_true : Truth → Bool
is_true False = false
is_true Unknown = false
is_true True = true

-- whether a truth is UNKNOWN
abbrev pub is_unknown : Truth → Bool
is_unknown False = false
is_unknown Unknown = true
is_unknown True = false

-- whether two truths are the same; UNKNOWN is the same as UNKNOWN
abbrev pub truth_eq : Truth → Truth → Bool
truth_eq False b = not (is_unknown b) && not (is_true b)
truth_eq Unknown b = is_unknown b
truth_eq True b = is_true b

-- NOT of UNKNOWN is UNKNOWN
abbrev pub not_of : Truth → Truth
not_of False = True
not_of Unknown = Unknown
not_of True = False

-- AND is the least of the two
abbrev pub and_of : Truth → Truth → Truth
and_of False b = False
and_of Unknown False = False
and_of Unknown Unknown = Unknown
and_of Unknown True = Unknown
and_of True b = b

-- OR is the greatest of the two
abbrev pub or_of : Truth → Truth → Truth
or_of False b = b
or_of Unknown False = Unknown
or_of Unknown Unknown = Unknown
or_of Unknown True = True
or_of True b = True

-- XOR is UNKNOWN where one of the two is, and else whether they differ
abbrev pub xor_of : Truth → Truth → Truth
xor_of False b = b
xor_of Unknown b = Unknown
xor_of True b = not_of b
