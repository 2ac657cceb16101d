-- Flags of the types of a schema that are of BOOLEAN or LOGICAL.
use Rattle.std.specs.Prelude.{◌≡◌, ◌<◌, ◌↔◌, ℕ, Bool, false, true, not, List, length, get_or}
use Rattle.std.specs.List.{count_by}
use Rattle.p21_express.specs.Schema.{Schema, Expr, Underlying, items, select, plain, integer, number, boolean, logical, real, text, binary, aggregate, named}
use Rattle.p21_schema.specs.Place.{no_type}
use Rattle.p21_json.specs.Logical.{TakesLogical}

-- a type of this name has a flag
pub record HasFlag (s : Schema) (flags : List Bool) (n : List ℕ) : Type 0 where
  pub place : ℕ
  pub below : place < length s.types
  pub named : (get_or s.types place no_type).name ≡ n
  pub flagged : get_or flags place false ≡ true

-- BOOLEAN or LOGICAL, a type that has a flag, or an aggregate of such
abbrev pub IsFlagged : Schema → List Bool → Expr → Type 0
IsFlagged s flags boolean = Unit {0}
IsFlagged s flags logical = Unit {0}
IsFlagged s flags (aggregate a e) = IsFlagged s flags e
IsFlagged s flags (named n) = HasFlag s flags n
IsFlagged s flags integer = ⊥
IsFlagged s flags number = ⊥
IsFlagged s flags real = ⊥
IsFlagged s flags (text w) = ⊥
IsFlagged s flags (binary w) = ⊥

abbrev pub IsFlaggedUnder : Schema → List Bool → Underlying → Type 0
IsFlaggedUnder s flags (plain e) = IsFlagged s flags e
IsFlaggedUnder s flags (items ns) = ⊥
IsFlaggedUnder s flags (select ns) = ⊥

-- each type with a flag is of BOOLEAN or LOGICAL
abbrev pub AreSound : Schema → List Bool → Type 0
AreSound s flags = (i : ℕ) → i < length s.types → get_or flags i false ≡ true → TakesLogical s (named (get_or s.types i no_type).name)

-- each type has a flag where what stands under it is of types that have
abbrev pub IsClosed : Schema → List Bool → Type 0
IsClosed s flags = (i : ℕ) → i < length s.types → IsFlaggedUnder s flags (get_or s.types i no_type).under → get_or flags i false ≡ true

-- how many have no flag
abbrev pub missing : List Bool → ℕ
missing flags = count_by not flags

-- a flag for each type, of just those of BOOLEAN or LOGICAL
pub record AreLogical (s : Schema) (flags : List Bool) : Type 0 where
  pub count : length flags ≡ length s.types
  pub each : (i : ℕ) → i < length s.types → (get_or flags i false ≡ true) ↔ TakesLogical s (named (get_or s.types i no_type).name)
