-- A value, without where it lies in memory.
use Rattle.std.specs.Prelude.{ℕ, ℤ, List, [], ◌∷◌, ◌-◌, drop, take}
use Rattle.std.specs.Float.{Float}
use Rattle.p21_values.specs.declared.truth.Truth.{Truth}
use Rattle.p21_values.specs.declared.kind.Kind.{Kind}
use Rattle.p21_values.specs.declared.kind.Item.{Item}
use Rattle.p21_values.specs.declared.characters.Characters.{Characters}
use Rattle.p21_values.specs.declared.characters.Characters.TheVariants.{Bytes, Codes}
use Rattle.p21_values.specs.declared.value.Value.{Value, Indeterminate, Logical, Integer, Real, Text, Binary, Enumerated, Instance, Typed', Aggregate', Made', Row_of-Value, end_of-Value, more_of-Value}

-- a value: `?`, a truth, a number, characters, bits, an item, an instance of the file, a value of a defined type, an aggregate, or an instance that an
-- expression makes, of an entity and with values of its explicit attributes
mutual
  pub data Val : Type 0 where
    nothing : Val
    truth : Truth → Val
    whole : ℤ → Val
    number : Float → Val
    text : List ℕ → Val
    bits : List ℕ → Val
    member : Item → Val
    instance : ℕ → Val
    typed : ℕ → Val → Val
    several : Kind → Vals → Val
    made : ℕ → Vals → Val

  pub data Vals : Type 0 where
    none : Vals
    more : Val → Vals → Vals

-- the codes of characters
abbrev pub codes : Characters → List ℕ
codes (Bytes b) = b.now
codes (Codes r) = r.value.items

-- the plain value of a value
abbrev mutual
  pub plain : Value → Val
  plain Indeterminate = nothing
  plain (Logical t) = truth t
  plain (Integer n) = whole n
  plain (Real x) = number x
  plain (Text c) = text (codes c)
  plain (Binary c) = bits (codes c)
  plain (Enumerated i) = member i
  plain (Instance e) = instance e
  plain (Typed' t p v) = typed t (plain v)
  plain (Aggregate' k p s vs) = several k (plains vs)
  plain (Made' e p s vs) = made e (plains vs)

  pub plains : {m : _} → Row_of-Value m → Vals
  plains end_of-Value = none
  plains (more_of-Value v rest) = more (plain v) (plains rest)

-- the plain values of a slice
abbrev pub plain_all : List Value → Vals
plain_all [] = none
plain_all (v ∷ vs) = more (plain v) (plain_all vs)

-- a value without the defined types that it is of
abbrev pub bare : Val → Val
bare (typed t v) = bare v
bare v = v

-- the values of an aggregate, as a list
abbrev pub listed : Vals → List Val
listed none = []
listed (more v vs) = v ∷ listed vs

-- the codes from one place up to another
abbrev pub part : List ℕ → ℕ → ℕ → List ℕ
part t from to = take (to - from) (drop from t)
