-- The names of a schema that a text declares.
use Rattle.std.proofs.Common.{◌⊎◌, ℕ, Bool, List, [], ◌∷◌, ◌++◌, Option, Some, None, inl, inr}
use Rattle.std.specs.List.{AllByRecursion}
use Rattle.p21_text.specs.Spelling.{IsName, IsUpper}
use Rattle.p21_text.specs.Spelling as spelling
use Rattle.p21_express.specs.Schema.{Schema, Entity, Attribute, Derived, Defined, Underlying, Expr, Aggregate}
use Rattle.p21_express.specs.WellFormed.{new_explicit, with_new}
use Rattle.p21_express.specs.Word.{Word, name, integer, string, symbol}
use Rattle.p21_express.specs.Words.{UpperWords, Front, IsNamePart}
use Rattle.p21_express.specs.Grammar.{Many, UpTo, Ends, IfName, Group, IfGroup, BoundsAre, IfBounds, AggregateIs, SimpleIs, ExprIs, NextName, NamesAre, Naming, NamingIs, NextNaming, AttributesAre, DerivedIs, DerivesAre, RulesEnd, SupertypeIs, SubtypeIs, EntityIs, UnderIs, TypeEnds, TypeIs, Declaration, DeclarationIs, SchemaIs, joined, attributes_of, entities_of}
use Rattle.p21_express.specs.Grammar as grammar
use Rattle.p21_express.specs.Reading.{IsReading}
use Rattle.p21_express.specs.declared.declarations.Bounds.{Bounds}
use Rattle.p21_json.specs.Keys.{HasNames}

-- ---- words

-- a word that is a name is spelled as one
abbrev IsGood : Word → Type 0
IsGood (name n) = IsName n
IsGood (integer v) = Unit {0}
IsGood string = Unit {0}
IsGood (symbol b) = Unit {0}

abbrev AreGood : List Word → Type 0
AreGood ws = AllByRecursion IsGood ws

abbrev IsGoodFront : Option Word → Type 0
IsGoodFront None = Unit {0}
IsGoodFront (Some w) = IsGood w

part : (b : ℕ) → IsNamePart b → IsUpper b ⊎ spelling.IsDigit b
part b (inl l) = inl (inl l)
part b (inr (inl d)) = inr d
part b (inr (inr e)) = inl (inr e)

parts : (bs : List ℕ) → AllByRecursion IsNamePart bs → AllByRecursion (λ c. IsUpper c ⊎ spelling.IsDigit c) bs
parts [] h = tt
parts (b ∷ bs) h = (part b h.0, parts bs h.1)

good_front : {text rest : List ℕ} {w : Option Word} → Front text w rest → IsGoodFront w
good_front (Front.white h) = tt
good_front (Front.line_remark b e a l) = tt
good_front (Front.remark c) = tt
good_front (Front.name {parts = ps} h e a g) = (inl h, parts ps a)
good_front (Front.integer d h e a g) = tt
good_front (Front.string h) = tt
good_front (Front.quoted b e a) = tt
good_front (Front.symbol h) = tt

good_words : {text : List ℕ} {ws : List Word} → UpperWords text ws → AreGood ws
good_words UpperWords.none = tt
good_words (UpperWords.pass f u) = good_words u
good_words (UpperWords.word f u) = (good_front f, good_words u)

-- ---- what stands after is good too

up_to : {stop d : ℕ} {ws tokens rest : List Word} → UpTo stop d ws tokens rest → AreGood ws → AreGood rest
up_to UpTo.stops g = g.1
up_to (UpTo.opens e u) g = up_to u g.1
up_to (UpTo.closes e u) g = up_to u g.1
up_to (UpTo.outside a b c u) g = up_to u g.1
up_to (UpTo.inside a b u) g = up_to u g.1

ends : {again : Option (List ℕ)} {last : List ℕ} {d : ℕ} {ws rest : List Word} → Ends again last d ws rest → AreGood ws → AreGood rest
ends Ends.ends g = g.1
ends (Ends.closes e) g = ends e g.1
ends (Ends.opens a b e) g = ends e g.1
ends (Ends.passes a b e) g = ends e g.1

if_name : {n : List ℕ} {ws rest : List Word} {b : Bool} → IfName n ws b rest → AreGood ws → AreGood rest
if_name IfName.there g = g.1
if_name (IfName.absent e) g = g

group : {ws tokens rest : List Word} → Group ws tokens rest → AreGood ws → AreGood rest
group (Group.made u) g = up_to u g.1

if_group : {ws tokens rest : List Word} → IfGroup ws tokens rest → AreGood ws → AreGood rest
if_group (IfGroup.there h) g = group h g
if_group (IfGroup.absent e) g = g

bounds : {ws rest : List Word} {b : Bounds} → BoundsAre ws b rest → AreGood ws → AreGood rest
bounds (BoundsAre.made u v) g = up_to v (up_to u g.1)

if_bounds : {ws rest : List Word} {b : Bounds} → IfBounds ws b rest → AreGood ws → AreGood rest
if_bounds (IfBounds.there h) g = bounds h g
if_bounds (IfBounds.absent e) g = g

aggregate : {ws rest : List Word} {a : Aggregate} → AggregateIs ws a rest → AreGood ws → AreGood rest
aggregate (AggregateIs.array e b o u) g = if_name u (if_name o (bounds b g.1).1)
aggregate (AggregateIs.list e b u) g = if_name u (if_bounds b g.1).1
aggregate (AggregateIs.set e b) g = (if_bounds b g.1).1
aggregate (AggregateIs.bag e b) g = (if_bounds b g.1).1

simple : {ws rest : List Word} {e : Expr} → SimpleIs ws e rest → AreGood ws → AreGood rest
simple (SimpleIs.is_integer e) g = g.1
simple (SimpleIs.is_number e) g = g.1
simple (SimpleIs.is_boolean e) g = g.1
simple (SimpleIs.is_logical e) g = g.1
simple (SimpleIs.is_real e h) g = if_group h g.1
simple (SimpleIs.is_text e h f) g = if_name f (if_group h g.1)
simple (SimpleIs.is_binary e h f) g = if_name f (if_group h g.1)
simple (SimpleIs.is_named e) g = g.1

expr : {left : ℕ} {ws rest : List Word} {e : Expr} → ExprIs left ws e rest → AreGood ws → AreGood rest
expr (ExprIs.simple h) g = simple h g
expr (ExprIs.nested a h) g = expr h (aggregate a g)

-- things one after the other, of each of which P holds
many : {X : Type 0} {stops : List Word → Bool} {Item : List Word → X → List Word → Type 0} (P : X → Type 0) → ((ws rest : List Word) (x : X) → Item ws x rest → AreGood ws → P x × AreGood rest) → (ws rest : List Word) (xs : List X) → Many stops Item ws xs rest → AreGood ws → AllByRecursion P xs × AreGood rest
many P each _ _ _ (Many.none e) g = (tt, g)
many P each _ _ _ (Many.more e h m) g =
    let one = each _ _ _ h g in
    let more = many P each _ _ _ m one.1 in ((one.0, more.0), more.1)

next_name : {ws rest : List Word} {n : List ℕ} → NextName ws n rest → AreGood ws → Unit {0} × AreGood rest
next_name NextName.made g = (tt, g.1.1)

names : {ws rest : List Word} {ns : List (List ℕ)} → NamesAre ws ns rest → AreGood ws → AreGood rest
names (NamesAre.made m) g = (many (λ _. Unit {0}) (λ a b c h k. next_name h k) _ _ _ m g.1.1).1.1

-- ---- entities

naming : {ws rest : List Word} {x : Naming} → NamingIs ws x rest → AreGood ws → IsName x.name × AreGood rest
naming (NamingIs.new e) g = (g.0, g.1)
naming (NamingIs.again e) g = (g.1.1.1.1.0, g.1.1.1.1.1)

next_naming : {ws rest : List Word} {x : Naming} → NextNaming ws x rest → AreGood ws → IsName x.name × AreGood rest
next_naming (NextNaming.made h) g = naming h g.1

abbrev AreNamed : List Attribute → Type 0
AreNamed as' = AllByRecursion (λ (a : Attribute). IsName a.name) as'

all_named : (xs : List Naming) (o : Bool) (e : Expr) → AllByRecursion (λ (x : Naming). IsName x.name) xs → AreNamed (attributes_of xs o e)
all_named [] o e h = tt
all_named (x ∷ xs) o e h = (h.0, all_named xs o e h.1)

attributes : {ws rest : List Word} {as' : List Attribute} → AttributesAre ws as' rest → AreGood ws → AreNamed as' × AreGood rest
attributes (AttributesAre.made {xs = xs} {optional = o} {e = t} h m f e) g =
    let first = naming h g in
    let others = many (λ (x : Naming). IsName x.name) (λ a b c h k. next_naming h k) _ _ _ m first.1 in ((first.0, all_named xs o t others.0), (expr e (if_name f others.1.1)).1)

derived : {ws rest : List Word} {d : Derived} → DerivedIs ws d rest → AreGood ws → Unit {0} × AreGood rest
derived (DerivedIs.made h u) g = (tt, up_to u (naming h g).1.1)

derives : {ws rest : List Word} {ds : List Derived} → DerivesAre ws ds rest → AreGood ws → AreGood rest
derives (DerivesAre.there m) g = (many (λ _. Unit {0}) (λ a b c h k. derived h k) _ _ _ m g.1).1
derives (DerivesAre.absent e) g = g

rules_end : {ws rest : List Word} → RulesEnd ws rest → AreGood ws → AreGood rest
rules_end RulesEnd.none g = g.1
rules_end (RulesEnd.some e h) g = ends h g.1

supertype : {ws rest : List Word} {b : Bool} → SupertypeIs ws b rest → AreGood ws → AreGood rest
supertype (SupertypeIs.abstract_of h) g = group h g.1.1.1
supertype (SupertypeIs.abstract_alone e) g = g.1.1
supertype (SupertypeIs.supertype_of h) g = group h g.1.1
supertype (SupertypeIs.absent a b) g = g

subtype : {ws rest : List Word} {ns : List (List ℕ)} → SubtypeIs ws ns rest → AreGood ws → AreGood rest
subtype (SubtypeIs.there h) g = names h g.1.1
subtype (SubtypeIs.absent e) g = g

with_named : (of : Option (List ℕ)) (n : List ℕ) (ns : List (List ℕ)) → IsName n → AllByRecursion IsName ns → AllByRecursion IsName (with_new of n ns)
with_named None n ns h k = (h, k)
with_named (Some e) n ns h k = k

named_new : (as' : List Attribute) → AreNamed as' → AllByRecursion IsName (new_explicit as')
named_new [] h = tt
named_new (a ∷ as') h = with_named a.of a.name (new_explicit as') h.0 (named_new as' h.1)

both_named : (as' bs : List Attribute) → AreNamed as' → AreNamed bs → AreNamed (as' ++ bs)
both_named [] bs h k = k
both_named (a ∷ as') bs h k = (h.0, both_named as' bs h.1 k)

joined_named : (ass : List (List Attribute)) → AllByRecursion AreNamed ass → AreNamed (joined ass)
joined_named [] h = tt
joined_named (as' ∷ ass) h = both_named as' (joined ass) h.0 (joined_named ass h.1)

abbrev IsCalled : Entity → Type 0
IsCalled e = IsName e.name × AllByRecursion IsName (new_explicit e.attributes)

entity : {ws rest : List Word} {e : Entity} → EntityIs ws e rest → AreGood ws → IsCalled e × AreGood rest
entity (EntityIs.made {attributes = ass} s t m d r) g =
    let of_attributes = many AreNamed (λ a b c h k. attributes h k) _ _ _ m (subtype t (supertype s g.1)).1 in
    ((g.0, named_new (joined ass) (joined_named ass of_attributes.0)), (rules_end r (derives d of_attributes.1)).1)

-- ---- types and the schema

under : {ws rest : List Word} {u : Underlying} → UnderIs ws u rest → AreGood ws → AreGood rest
under (UnderIs.enumeration e h) g = names h g.1.1
under (UnderIs.select e h) g = names h g.1
under (UnderIs.plain e h) g = expr h g

type_ends : {ws rest : List Word} → TypeEnds ws rest → AreGood ws → AreGood rest
type_ends TypeEnds.none g = g.1
type_ends (TypeEnds.some h) g = ends h g.1

type' : {ws rest : List Word} {t : Defined} → TypeIs ws t rest → AreGood ws → AreGood rest
type' (TypeIs.made u e) g = (type_ends e (under u g.1.1).1).1

abbrev IsCalledIn : Declaration → Type 0
IsCalledIn (grammar.an_entity e) = IsCalled e
IsCalledIn (grammar.a_type t) = Unit {0}
IsCalledIn grammar.skipped = Unit {0}

declaration : {ws rest : List Word} {d : Declaration} → DeclarationIs ws d rest → AreGood ws → IsCalledIn d × AreGood rest
declaration (DeclarationIs.entity e h) g = entity h g.1
declaration (DeclarationIs.type e h) g = (tt, type' h g.1)
declaration (DeclarationIs.function e h) g = (tt, (ends h g.1).1)
declaration (DeclarationIs.procedure e h) g = (tt, (ends h g.1).1)
declaration (DeclarationIs.rule e h) g = (tt, (ends h g.1).1)
declaration (DeclarationIs.constant e h) g = (tt, (ends h g.1).1)

all_called : (ds : List Declaration) → AllByRecursion IsCalledIn ds → AllByRecursion IsCalled (entities_of ds)
all_called [] h = tt
all_called (grammar.an_entity e ∷ ds) h = (h.0, all_called ds h.1)
all_called (grammar.a_type t ∷ ds) h = all_called ds h.1
all_called (grammar.skipped ∷ ds) h = all_called ds h.1

schema : {ws : List Word} {s : Schema} → SchemaIs ws s → AreGood ws → HasNames s
schema (SchemaIs.made {ds = ds} m) g = all_called ds (many IsCalledIn (λ a b c h k. declaration h k) _ _ _ m g.1.1.1).0

-- the names of what a text declares are names
pub read_names : (text : List ℕ) (s : Schema) → IsReading text s → HasNames s
read_names text s r = schema r.is_schema (good_words r.are_words)
