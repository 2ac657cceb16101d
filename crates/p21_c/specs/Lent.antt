-- What C holds of a schema or a model.
use base.Fml.{Fml}
use denote.RattleType.{RattleType}
use denote.RawPtr.{Ptr}
use Rattle.std.specs.Ptr.{if_non_null, points_to, static_ref_at}

-- what C lends for a call: where the pointer is not null, a value that no one writes or frees meanwhile
abbrev pub lent : (R : RattleType) → Ptr → R.Denot → Fml
lent R p x = if_non_null p (static_ref_at R p x)

-- what C gives up: where the pointer is not null, a value that no one else uses
abbrev pub given : (R : RattleType) → Ptr → R.Denot → Fml
given R p x = if_non_null p (points_to R p x)
