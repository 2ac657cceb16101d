-- The values that the text of a schema spells.
use Rattle.p21_values.specs.Plain.{Val, nothing, truth, whole, number, text, bits, member}
use Rattle.p21_evaluate.specs.declared.term.Literal.{Literal}
use Rattle.p21_evaluate.specs.declared.term.Literal.TheVariants.{Indeterminate, Logical, Integer, Real, Text, Binary, Enumerated}

-- the value of a literal
abbrev pub literal_of : Literal → Val
literal_of Indeterminate = nothing
literal_of (Logical t) = truth t
literal_of (Integer n) = whole n
literal_of (Real x) = number x
literal_of (Text t) = text t.now
literal_of (Binary b) = bits b.now
literal_of (Enumerated i) = member i
