-- The values that rules compare, without how they are spelled.
use Rattle.std.specs.Prelude.{ℕ, Bool, true, false, List, [], ◌∷◌}

mutual
  -- a number by its digits from the first to the last that is not 0, after `-` where it is negative, and by the power of ten of that last digit, which
  -- is the first number less the second, of which one is 0; a string by its characters in UTF-8, or by what is written; an item of an enumeration by its
  -- name, an instance by its number, a binary by its bits; an ARRAY or a LIST by the values of its elements, and so a SET or a BAG; or such a value of a
  -- type, by the type's name
  pub data Value : Type 0 where
    number : List ℕ → ℕ → ℕ → Value
    text : List ℕ → Value
    spelled : List ℕ → Value
    item : List ℕ → Value
    instance : ℕ → Value
    binary : List ℕ → Value
    list : Values → Value
    bag : Values → Value
    typed : List ℕ → Value → Value

  -- the values of elements, one after the other
  pub data Values : Type 0 where
    nil : Values
    cons : Value → Values → Values

-- a list of values as the values of elements
abbrev pub listed : List Value → Values
listed [] = nil
listed (v ∷ vs) = cons v (listed vs)

-- the values of elements whose order counts, or does not, as one value
abbrev pub gathered : Bool → Values → Value
gathered true vs = list vs
gathered false vs = bag vs
