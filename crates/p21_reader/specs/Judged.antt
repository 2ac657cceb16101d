-- What the code says of pieces, without where it lies in memory.
use Rattle.std.specs.Prelude.{List, map, Option}
use Rattle.p21_express.specs.Schema.{Schema}
use Rattle.p21_schema.specs.declared.ids.EntityId.{EntityId}
use Rattle.p21_tree.specs.Views.{plain_instance}
use Rattle.p21_check.specs.EntityOf.{IsSimpleEntity}
use Rattle.p21_reader.specs.Values.{Value, grammar, whole}
use Rattle.p21_reader.specs.declared.judged.Judged.{Judged}
use Rattle.p21_reader.specs.declared.judged.Judged.TheVariants as judged
use Rattle.p21_reader.specs.declared.judged.Judgement.{Judgement}

-- the value that is meant
abbrev pub value_of : Judged → Value
value_of (judged.Grammar f) = grammar f
value_of (judged.Whole i own) = whole (record { instance = plain_instance i; own = own })

-- the values that are meant, in order
abbrev pub values_of : List Judgement → List Value
values_of js = map (λ j. value_of j.judged) js

-- the entities beside them
abbrev pub entities_of : List Judgement → List (Option EntityId)
entities_of js = map (λ j. j.entity) js

-- it is the entity of the instance, if there is one
abbrev pub IsEntityOfValue : Schema → Value → Option EntityId → Type 0
IsEntityOfValue s (grammar f) own = Unit {0}
IsEntityOfValue s (whole w) own = IsSimpleEntity s w.instance own

-- the entity beside an instance is its own
abbrev pub HasOwnEntity : Schema → Judgement → Type 0
HasOwnEntity s j = IsEntityOfValue s (value_of j.judged) j.entity
