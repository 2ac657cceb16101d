-- What the checks have met.
use Rattle.std.specs.Prelude.{ℕ, List, Option, Some, None, MatchOption, IsNone}
use Rattle.std.specs.Borrow.{Bor}
use Rattle.std.specs.BTreeMap.{BTreeMap, get}
use Rattle.std.specs.List.{AllByRecursion}
use Rattle.p21_express.specs.Schema.{Schema, Entity, Defined, Expr, integer, number, boolean, logical, real, text, binary, aggregate, named}
use Rattle.p21_express.specs.WellFormed.{IsIn, AreDistinct, IsEntity, IsKnown}
use Rattle.p21_express.specs.SchemaFault.{AreKnownUnder, IsNoLoneSelect}
use Rattle.p21_express.specs.Index.{key_cmp}

-- Something is found at last exactly where it was before or P fails.
abbrev pub Finds : {X : Type 0} → Option X → Option X → Type 0 → Type 0
Finds before after P = MatchOption after (IsNone before × P) (λ x. IsNone before → ¬ P)

-- the map has these names
abbrev pub HasNames : BTreeMap (Bor (List ℕ)) ℕ → List (List ℕ) → Type 0
HasNames places ns = (n : Bor (List ℕ)) → MatchOption (get key_cmp places n) (¬ (IsIn ns n.now)) (λ place. IsIn ns n.now)

-- These names were met, and something is found exactly where it was before or one of them is repeated.
pub record HasMet {X : Type 0} (before after : Option X) (places : BTreeMap (Bor (List ℕ)) ℕ) (ns : List (List ℕ)) : Type 0 where
  pub names : HasNames places ns
  pub found : Finds before after (AreDistinct ns)

-- the name that is all of a type
abbrev pub lone_name : Expr → Option (List ℕ)
lone_name (named n) = Some n
lone_name integer = None
lone_name number = None
lone_name boolean = None
lone_name logical = None
lone_name real = None
lone_name (text w) = None
lone_name (binary w) = None
lone_name (aggregate a e) = None

-- each name that an entity uses is declared as what it is used for
abbrev pub HasKnownNames : Schema → Entity → Type 0
HasKnownNames s e = AllByRecursion (IsEntity s) e.supertypes × AllByRecursion (λ a. IsKnown s a.texpr) e.attributes

-- each name that a type uses is declared as what it is used for
abbrev pub HasKnownUnder : Schema → Defined → Type 0
HasKnownUnder s t = AreKnownUnder s t.under

-- no SELECT stands alone under a type
abbrev pub HasNoSelectUnder : Schema → Defined → Type 0
HasNoSelectUnder s t = IsNoLoneSelect s t.under
