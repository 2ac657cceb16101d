-- How values are written one after the other, so that different ones differ: no value's bytes begin with those of another.
use Rattle.std.specs.Prelude.{ℕ, ◌+◌, ◌/◌, ◌%◌, ◌^◌, nat_lt, List, [], ◌∷◌, ◌++◌, if◌then◌else◌}
use Rattle.p21_rules.specs.Value.{Value, Values, number, text, spelled, item, instance, binary, list, bag, typed, nil, cons}

-- a number below 2^24 by three bytes
abbrev pub triple : ℕ → List ℕ
triple n = n / 65536 ∷ n / 256 % 256 ∷ n % 256 ∷ []

-- a number below 2^64
abbrev pub number_code : ℕ → List ℕ
number_code n = triple (n / 2 ^ 48) ++ (triple (n / 2 ^ 24 % 2 ^ 24) ++ triple (n % 2 ^ 24))

-- a byte, or any number below 2^24
unfoldable pub scalar_code : ℕ → List ℕ
scalar_code c = if nat_lt c 128 then (c + 1) ∷ [] else 200 ∷ triple c

-- bytes, and their end
abbrev pub bytes_code : List ℕ → List ℕ
bytes_code [] = 0 ∷ []
bytes_code (b ∷ bs) = scalar_code b ++ bytes_code bs

abbrev mutual
  -- Bytes that differ where values do, and no value's begin with those of another.
  pub value_code : Value → List ℕ
  value_code (number ds up down) = 1 ∷ (bytes_code ds ++ (number_code up ++ number_code down))
  value_code (text s) = 2 ∷ bytes_code s
  value_code (item s) = 3 ∷ bytes_code s
  value_code (instance n) = 4 ∷ number_code n
  value_code (typed k v) = 5 ∷ (bytes_code k ++ value_code v)
  value_code (binary bs) = 6 ∷ bytes_code bs
  value_code (list vs) = 7 ∷ elements_code vs
  value_code (bag vs) = 8 ∷ elements_code vs
  value_code (spelled s) = 9 ∷ bytes_code s

  -- the values of the elements of a list, and their end
  pub elements_code : Values → List ℕ
  elements_code nil = 0 ∷ []
  elements_code (cons v vs) = value_code v ++ elements_code vs

abbrev pub values_code : List Value → List ℕ
values_code [] = []
values_code (v ∷ vs) = value_code v ++ values_code vs

-- values under the rule of this number
abbrev pub key_code : ℕ → List Value → List ℕ
key_code rule vs = number_code rule ++ values_code vs
