-- The bounds of an INVERSE attribute.
use Rattle.std.specs.Prelude.{ℕ, Bool, true, false, List, [], ◌∷◌, Option, Some, None, if◌then◌else◌, codes}
use Rattle.p21_express.specs.Word.{Word, is_symbol, begins_symbol}
use Rattle.p21_express.specs.Grammar.{width_of}
use Rattle.p21_express.specs.Reader.{◌>>=◌, if_name, symbol_at, up_to, word_at}
use Rattle.p21_rule_text.specs.declared.bounds.Bounds.{Bounds}

-- exactly one
abbrev pub one : Bounds
one = record { is_bag = false; low = 1; high = Some 1 }

-- any number
abbrev pub any : Bool → Bounds
any is_bag = record { is_bag = is_bag; low = 0; high = None }

-- the question mark, which bounds nothing
abbrev pub is_unbounded : List Word → Bool
is_unbounded [] = false
is_unbounded (w ∷ []) = is_symbol 63 w
is_unbounded (v ∷ w ∷ ws) = false

abbrev pub bounds_from : Bool → Option ℕ → Bool → Option ℕ → Option Bounds
bounds_from is_bag None unbounded high = None
bounds_from is_bag (Some low) true high = Some (record { is_bag = is_bag; low = low; high = None })
bounds_from is_bag (Some low) false None = None
bounds_from is_bag (Some low) false (Some high) = Some (record { is_bag = is_bag; low = low; high = Some high })

-- the bounds that some words give, each a whole number, the second perhaps a question mark; None where they are no numbers
abbrev pub bounds_of : Bool → List Word → List Word → Option Bounds
bounds_of is_bag low high = bounds_from is_bag (width_of low) (is_unbounded high) (width_of high)

-- '[' tokens ':' tokens ']'
unfoldable pub in_brackets_at : Bool → List Word → Option (Option Bounds × List Word)
in_brackets_at is_bag ws = do
  inner ← symbol_at 91 ws
  low ← up_to 58 inner
  high ← up_to 93 low.1
  Some (bounds_of is_bag low.0 high.0, high.1)

-- [ '[' tokens ':' tokens ']' ]: without them any number
unfoldable pub if_brackets_at : Bool → List Word → Option (Option Bounds × List Word)
if_brackets_at is_bag ws = if begins_symbol 91 ws then in_brackets_at is_bag ws else Some (Some (any is_bag), ws)

-- [ bounds ] OF
unfoldable pub collection_at : Bool → List Word → Option (Option Bounds × List Word)
collection_at is_bag ws = do
  b ← if_brackets_at is_bag ws
  rest ← word_at (codes "OF") b.1
  Some (b.0, rest)

-- [ ( SET | BAG ) [ bounds ] OF ]: without them exactly one
-- After SET or BAG without brackets any number; in brackets two numbers, the second perhaps `?`, or none where they are others.
unfoldable pub bounds_at : List Word → Option (Option Bounds × List Word)
bounds_at ws =
    if (if_name (codes "SET") ws).0 then collection_at false (if_name (codes "SET") ws).1
    else (if (if_name (codes "BAG") ws).0 then collection_at true (if_name (codes "BAG") ws).1 else Some (Some one, ws))
