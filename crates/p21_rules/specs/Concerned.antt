-- Which rules concern an instance.
use Rattle.std.specs.Prelude.{◌≡◌, ◌+◌, ℕ, List, [], ◌∷◌, Some, Vec, All, length, slice_get}
use Rattle.p21_check.specs.EntitySet.{keywords}
use Rattle.p21_check.specs.Sets.{AnyIn}
use Rattle.p21_express.specs.Schema.{Schema}
use Rattle.p21_schema.specs.Place.{IsEntityOf, entity_name}
use Rattle.p21_schema.specs.declared.ids.EntityId.{EntityId}
use Rattle.p21_tree.specs.Sentence.{Instance}
use Rattle.p21_rules.specs.declared.concerned.Concerns.{Concerns}
use Rattle.p21_rules.specs.declared.concerned.Subject.{Subject}
use Rattle.p21_rules.specs.Named.{AreNamed, IsBelow}

-- one of the names is the entity's, or that of one that has it as an ancestor
abbrev pub AnyBelow : Schema → List (List ℕ) → EntityId → Type 0
AnyBelow s ks w = AnyIn ks (IsBelow s (entity_name s w))

-- An instance whose records have these names is of the entities of these numbers and of no other, where they are counted from this number on.
pub data AreConcerned (s : Schema) (ks : List (List ℕ)) : ℕ → List EntityId → List ℕ → Type 0 where
  none : {k : ℕ} → AreConcerned s ks k [] []
  listed : {k : ℕ} {w : EntityId} {ws : List EntityId} {ns : List ℕ} → AnyBelow s ks w → AreConcerned s ks (k + 1) ws ns → AreConcerned s ks k (w ∷ ws) (k ∷ ns)
  passed : {k : ℕ} {w : EntityId} {ws : List EntityId} {ns : List ℕ} → ¬ (AnyBelow s ks w) → AreConcerned s ks (k + 1) ws ns → AreConcerned s ks k (w ∷ ws) ns

-- the numbers stand for each entity of the schema, at its place
pub record IsTable {A : Type 0} (s : Schema) (ws : List EntityId) (table : List (Vec ℕ A)) : Type 0 where
  pub long : length table ≡ length s.entities
  pub each : (e : EntityId) (ns : Vec ℕ A) → slice_get table e.index ≡ Some ns → AreConcerned s (entity_name s e ∷ []) 0 ws ns.items

-- they are those of rules of entities of this schema
pub record AreConcernsOf (s : Schema) (c : Concerns) : Type 0 where
  pub known_ : All (IsEntityOf s) c.wanted.items
  pub table : IsTable s c.wanted.items c.numbers.items

-- the entities that the records of the instance name, and the numbers of the rules that concern it
pub record IsSubject (s : Schema) (ws : List EntityId) (i : Instance) (x : Subject) : Type 0 where
  pub named : AreNamed s (keywords i) x.named.now
  pub numbers : AreConcerned s (keywords i) 0 ws x.numbers.now
