-- The grammar of a schema: some words are such a thing, and others stand after it. A word is the grammar's
-- exactly at a place where a rule names it; anywhere else it is a name.
use Rattle.std.specs.Prelude.{◌≡◌, ℕ, suc, Bool, true, false, List, [], ◌∷◌, ◌++◌, Option, Some, None, if◌then◌else◌, ◌||◌, codes, ℤ, pos, neg_ℤ}
use Rattle.p21_express.specs.declared.declarations.Bounds.{Bounds}
use Rattle.p21_express.specs.declared.keywords.TypeWord.TheVariants as types
use Rattle.p21_express.specs.declared.keywords.SimpleWord.TheVariants as simples
use Rattle.p21_express.specs.declared.keywords.AggregateWord.TheVariants as aggregates
use Rattle.p21_express.specs.declared.keywords.UnderWord.TheVariants as unders
use Rattle.p21_express.specs.declared.keywords.DeclWord.TheVariants as decls
use Rattle.p21_express.specs.Word.{Word, name, integer, string, symbol, is_name, is_symbol, is_opening, is_closing, begins_name, begins_symbol}
use Rattle.p21_express.specs.Keywords.{type_word_of, under_word_of, decl_word_of, is_rules_word}
use Rattle.p21_express.specs.Schema.{Schema, Entity, Attribute, Derived, Defined, Underlying, Expr, Aggregate}
use Rattle.p21_express.specs.Schema as schema

-- Things one after the other, up to where the words go on as `stops` says.
pub data Many {X : Type 0} (stops : List Word → Bool) (Item : List Word → X → List Word → Type 0) : List Word → List X → List Word → Type 0 where
  none : {ws : List Word} → stops ws ≡ true → Many stops Item ws [] ws
  more : {ws mid rest : List Word} {x : X} {xs : List X} → stops ws ≡ false → Item ws x mid → Many stops Item mid xs rest → Many stops Item ws (x ∷ xs) rest

-- ---- words that are skipped

-- The words up to the first `stop` outside brackets, of which so many are open, and those after it. Round and square
-- brackets are counted together; one that closes none of them does not fit.
pub data UpTo (stop : ℕ) : ℕ → List Word → List Word → List Word → Type 0 where
  stops : {rest : List Word} → UpTo stop 0 (symbol stop ∷ rest) [] rest
  opens : {depth : ℕ} {w : Word} {ws tokens rest : List Word} → is_opening w ≡ true → UpTo stop (suc depth) ws tokens rest → UpTo stop depth (w ∷ ws) (w ∷ tokens) rest
  closes : {depth : ℕ} {w : Word} {ws tokens rest : List Word} → is_closing w ≡ true → UpTo stop depth ws tokens rest → UpTo stop (suc depth) (w ∷ ws) (w ∷ tokens) rest
  outside : {w : Word} {ws tokens rest : List Word} → is_opening w ≡ false → is_closing w ≡ false → is_symbol stop w ≡ false → UpTo stop 0 ws tokens rest → UpTo stop 0 (w ∷ ws) (w ∷ tokens) rest
  inside : {depth : ℕ} {w : Word} {ws tokens rest : List Word} → is_opening w ≡ false → is_closing w ≡ false → UpTo stop (suc depth) ws tokens rest → UpTo stop (suc depth) (w ∷ ws) (w ∷ tokens) rest

-- the word opens one more of what is skipped, where there is such a word
abbrev pub is_again : Option (List ℕ) → Word → Bool
is_again None w = false
is_again (Some n) w = is_name n w

-- The words after the name that ends what is skipped. So many more of its kind are open.
pub data Ends (again : Option (List ℕ)) (last : List ℕ) : ℕ → List Word → List Word → Type 0 where
  ends : {rest : List Word} → Ends again last 0 (name last ∷ rest) rest
  closes : {depth : ℕ} {ws rest : List Word} → Ends again last depth ws rest → Ends again last (suc depth) (name last ∷ ws) rest
  opens : {depth : ℕ} {w : Word} {ws rest : List Word} → is_name last w ≡ false → is_again again w ≡ true → Ends again last (suc depth) ws rest → Ends again last depth (w ∷ ws) rest
  passes : {depth : ℕ} {w : Word} {ws rest : List Word} → is_name last w ≡ false → is_again again w ≡ false → Ends again last depth ws rest → Ends again last depth (w ∷ ws) rest

-- ---- types

-- [ name ]: whether the name stands there
pub data IfName (n : List ℕ) : List Word → Bool → List Word → Type 0 where
  there : {rest : List Word} → IfName n (name n ∷ rest) true rest
  absent : {ws : List Word} → begins_name n ws ≡ false → IfName n ws false ws

-- group = '(' tokens ')'
pub data Group : List Word → List Word → List Word → Type 0 where
  made : {ws tokens rest : List Word} → UpTo 41 0 ws tokens rest → Group (symbol 40 ∷ ws) tokens rest

-- [ group ]
pub data IfGroup : List Word → List Word → List Word → Type 0 where
  there : {ws tokens rest : List Word} → Group ws tokens rest → IfGroup ws tokens rest
  absent : {ws : List Word} → begins_symbol 40 ws ≡ false → IfGroup ws [] ws

-- the value of a word that is an integer
abbrev pub value_of : Word → Option ℕ
value_of (integer v) = v
value_of (name n) = None
value_of string = None
value_of (symbol b) = None

-- the width that a group gives: one integer
abbrev pub width_of : List Word → Option ℕ
width_of [] = None
width_of (w ∷ []) = value_of w
width_of (v ∷ w ∷ ws) = None

abbrev pub bound_from : Option ℕ → Bool → Option ℤ
bound_from None minus = None
bound_from (Some n) true = Some (neg_ℤ (pos n))
bound_from (Some n) false = Some (pos n)

-- the bound that some words give: one integer, perhaps after one sign
abbrev pub bound_of : List Word → Option ℤ
bound_of [] = None
bound_of (w ∷ []) = bound_from (value_of w) false
bound_of (sign ∷ w ∷ []) = if is_symbol 43 sign then bound_from (value_of w) false else (if is_symbol 45 sign then bound_from (value_of w) true else None)
bound_of (u ∷ v ∷ w ∷ ws) = None

-- bounds = '[' tokens ':' tokens ']'
pub data BoundsAre : List Word → Bounds → List Word → Type 0 where
  made : {ws low mid high rest : List Word} → UpTo 58 0 ws low mid → UpTo 93 0 mid high rest → BoundsAre (symbol 91 ∷ ws) (record { low = bound_of low; high = bound_of high }) rest

-- [ bounds ]: without them an aggregate has 0 elements or more
pub data IfBounds : List Word → Bounds → List Word → Type 0 where
  there : {ws rest : List Word} {b : Bounds} → BoundsAre ws b rest → IfBounds ws b rest
  absent : {ws : List Word} → begins_symbol 91 ws ≡ false → IfBounds ws (record { low = Some (pos 0); high = None }) ws

-- ARRAY bounds OF [ OPTIONAL ] [ UNIQUE ] | LIST [ bounds ] OF [ UNIQUE ] | ( SET | BAG ) [ bounds ] OF
pub data AggregateIs : List Word → Aggregate → List Word → Type 0 where
  array : {n : List ℕ} {ws mid next rest : List Word} {b : Bounds} {optional unique : Bool} → type_word_of n ≡ types.Aggregate aggregates.Array → BoundsAre ws b (name (codes "OF") ∷ mid) → IfName (codes "OPTIONAL") mid optional next → IfName (codes "UNIQUE") next unique rest → AggregateIs (name n ∷ ws) (schema.array b optional) rest
  list : {n : List ℕ} {ws mid rest : List Word} {b : Bounds} {unique : Bool} → type_word_of n ≡ types.Aggregate aggregates.List → IfBounds ws b (name (codes "OF") ∷ mid) → IfName (codes "UNIQUE") mid unique rest → AggregateIs (name n ∷ ws) (schema.list b unique) rest
  set : {n : List ℕ} {ws rest : List Word} {b : Bounds} → type_word_of n ≡ types.Aggregate aggregates.Set → IfBounds ws b (name (codes "OF") ∷ rest) → AggregateIs (name n ∷ ws) (schema.set b) rest
  bag : {n : List ℕ} {ws rest : List Word} {b : Bounds} → type_word_of n ≡ types.Aggregate aggregates.Bag → IfBounds ws b (name (codes "OF") ∷ rest) → AggregateIs (name n ∷ ws) (schema.bag b) rest

-- INTEGER | NUMBER | BOOLEAN | LOGICAL | REAL [ group ] | ( STRING | BINARY ) [ group ] [ FIXED ] | id
pub data SimpleIs : List Word → Expr → List Word → Type 0 where
  is_integer : {n : List ℕ} {rest : List Word} → type_word_of n ≡ types.Simple simples.Integer → SimpleIs (name n ∷ rest) schema.integer rest
  is_number : {n : List ℕ} {rest : List Word} → type_word_of n ≡ types.Simple simples.Number → SimpleIs (name n ∷ rest) schema.number rest
  is_boolean : {n : List ℕ} {rest : List Word} → type_word_of n ≡ types.Simple simples.Boolean → SimpleIs (name n ∷ rest) schema.boolean rest
  is_logical : {n : List ℕ} {rest : List Word} → type_word_of n ≡ types.Simple simples.Logical → SimpleIs (name n ∷ rest) schema.logical rest
  is_real : {n : List ℕ} {ws tokens rest : List Word} → type_word_of n ≡ types.Simple simples.Real → IfGroup ws tokens rest → SimpleIs (name n ∷ ws) schema.real rest
  is_text : {n : List ℕ} {ws tokens mid rest : List Word} {fixed : Bool} → type_word_of n ≡ types.Simple simples.Text → IfGroup ws tokens mid → IfName (codes "FIXED") mid fixed rest → SimpleIs (name n ∷ ws) (schema.text (record { count = width_of tokens; fixed = fixed })) rest
  is_binary : {n : List ℕ} {ws tokens mid rest : List Word} {fixed : Bool} → type_word_of n ≡ types.Simple simples.Binary → IfGroup ws tokens mid → IfName (codes "FIXED") mid fixed rest → SimpleIs (name n ∷ ws) (schema.binary (record { count = width_of tokens; fixed = fixed })) rest
  is_named : {n : List ℕ} {rest : List Word} → type_word_of n ≡ types.Simple simples.Named → SimpleIs (name n ∷ rest) (schema.named n) rest

-- texpr, where so many more aggregates may be nested
pub data ExprIs : ℕ → List Word → Expr → List Word → Type 0 where
  simple : {left : ℕ} {ws rest : List Word} {e : Expr} → SimpleIs ws e rest → ExprIs left ws e rest
  nested : {left : ℕ} {ws mid rest : List Word} {a : Aggregate} {e : Expr} → AggregateIs ws a mid → ExprIs left mid e rest → ExprIs (suc left) ws (schema.aggregate a e) rest

-- the most aggregates that may be nested
abbrev pub deepest : ℕ
deepest = 64

-- ---- lists of names

-- ',' id
pub data NextName : List Word → List ℕ → List Word → Type 0 where
  made : {n : List ℕ} {rest : List Word} → NextName (symbol 44 ∷ name n ∷ rest) n rest

-- '(' id { ',' id } ')'
pub data NamesAre : List Word → List (List ℕ) → List Word → Type 0 where
  made : {n : List ℕ} {ns : List (List ℕ)} {ws rest : List Word} → Many (begins_symbol 41) NextName ws ns (symbol 41 ∷ rest) → NamesAre (symbol 40 ∷ name n ∷ ws) (n ∷ ns) rest

-- ---- entities

-- an attribute's name, and the entity after SELF where it is declared again
pub record Naming : Type 0 where
  pub name : List ℕ
  pub of : Option (List ℕ)

-- attr = id | SELF '\' id '.' id; no RENAMED stands after the second form
pub data NamingIs : List Word → Naming → List Word → Type 0 where
  new : {n : List ℕ} {rest : List Word} → is_name (codes "SELF") (name n) ≡ false → NamingIs (name n ∷ rest) (record { name = n; of = None }) rest
  again : {n e : List ℕ} {rest : List Word} → begins_name (codes "RENAMED") rest ≡ false → NamingIs (name (codes "SELF") ∷ symbol 92 ∷ name e ∷ symbol 46 ∷ name n ∷ rest) (record { name = n; of = Some e }) rest

-- ',' attr
pub data NextNaming : List Word → Naming → List Word → Type 0 where
  made : {x : Naming} {ws rest : List Word} → NamingIs ws x rest → NextNaming (symbol 44 ∷ ws) x rest

-- an attribute that is declared under a name
abbrev pub attribute_of : Bool → Expr → Naming → Attribute
attribute_of optional texpr x = record { name = x.name; of = x.of; optional = optional; texpr = texpr }

-- attributes that are declared together
abbrev pub attributes_of : List Naming → Bool → Expr → List Attribute
attributes_of [] optional texpr = []
attributes_of (x ∷ xs) optional texpr = attribute_of optional texpr x ∷ attributes_of xs optional texpr

-- attr { ',' attr } ':' [ OPTIONAL ] texpr ';'
pub data AttributesAre : List Word → List Attribute → List Word → Type 0 where
  made : {x : Naming} {xs : List Naming} {ws others type exact rest : List Word} {optional : Bool} {e : Expr} → NamingIs ws x others → Many (begins_symbol 58) NextNaming others xs (symbol 58 ∷ type) → IfName (codes "OPTIONAL") type optional exact → ExprIs deepest exact e (symbol 59 ∷ rest) → AttributesAre ws (attributes_of (x ∷ xs) optional e) rest

-- attr ':' tokens ';'
pub data DerivedIs : List Word → Derived → List Word → Type 0 where
  made : {x : Naming} {ws tokens value rest : List Word} → NamingIs ws x (symbol 58 ∷ value) → UpTo 59 0 value tokens rest → DerivedIs ws (record { name = x.name; of = x.of }) rest

-- the words go on with the rules of an entity or with its end
abbrev pub begins_rules : List Word → Bool
begins_rules [] = false
begins_rules (name n ∷ ws) = is_rules_word n || is_name (codes "END_ENTITY") (name n)
begins_rules (_ ∷ ws) = false

-- the words go on with what stands after the explicit attributes of an entity
abbrev pub ends_attributes : List Word → Bool
ends_attributes ws = begins_name (codes "DERIVE") ws || begins_rules ws

-- [ DERIVE { attr ':' tokens ';' } ]
pub data DerivesAre : List Word → List Derived → List Word → Type 0 where
  there : {ws rest : List Word} {ds : List Derived} → Many begins_rules DerivedIs ws ds rest → DerivesAre (name (codes "DERIVE") ∷ ws) ds rest
  absent : {ws : List Word} → begins_name (codes "DERIVE") ws ≡ false → DerivesAre ws [] ws

-- [ ( INVERSE | UNIQUE | WHERE ) tokens ] END_ENTITY
pub data RulesEnd : List Word → List Word → Type 0 where
  none : {rest : List Word} → RulesEnd (name (codes "END_ENTITY") ∷ rest) rest
  some : {n : List ℕ} {ws rest : List Word} → is_rules_word n ≡ true → Ends None (codes "END_ENTITY") 0 ws rest → RulesEnd (name n ∷ ws) rest

-- [ ABSTRACT SUPERTYPE [ OF group ] | SUPERTYPE OF group ]: whether ABSTRACT stands there
pub data SupertypeIs : List Word → Bool → List Word → Type 0 where
  abstract_of : {ws tokens rest : List Word} → Group ws tokens rest → SupertypeIs (name (codes "ABSTRACT") ∷ name (codes "SUPERTYPE") ∷ name (codes "OF") ∷ ws) true rest
  abstract_alone : {ws : List Word} → begins_name (codes "OF") ws ≡ false → SupertypeIs (name (codes "ABSTRACT") ∷ name (codes "SUPERTYPE") ∷ ws) true ws
  supertype_of : {ws tokens rest : List Word} → Group ws tokens rest → SupertypeIs (name (codes "SUPERTYPE") ∷ name (codes "OF") ∷ ws) false rest
  absent : {ws : List Word} → begins_name (codes "ABSTRACT") ws ≡ false → begins_name (codes "SUPERTYPE") ws ≡ false → SupertypeIs ws false ws

-- [ SUBTYPE OF '(' id { ',' id } ')' ]
pub data SubtypeIs : List Word → List (List ℕ) → List Word → Type 0 where
  there : {ws rest : List Word} {ns : List (List ℕ)} → NamesAre ws ns rest → SubtypeIs (name (codes "SUBTYPE") ∷ name (codes "OF") ∷ ws) ns rest
  absent : {ws : List Word} → begins_name (codes "SUBTYPE") ws ≡ false → SubtypeIs ws [] ws

-- one list of all
abbrev pub joined : List (List Attribute) → List Attribute
joined [] = []
joined (xs ∷ xss) = xs ++ joined xss

-- an entity after the word ENTITY
pub data EntityIs : List Word → Entity → List Word → Type 0 where
  made : {n : List ℕ} {ws subtype body derive rules rest : List Word} {abstract : Bool} {supertypes : List (List ℕ)} {attributes : List (List Attribute)} {derived : List Derived} → SupertypeIs ws abstract subtype → SubtypeIs subtype supertypes (symbol 59 ∷ body) → Many ends_attributes AttributesAre body attributes derive → DerivesAre derive derived rules → RulesEnd rules (symbol 59 ∷ rest)
      → EntityIs (name n ∷ ws) (record { name = n; is_abstract = abstract; supertypes = supertypes; attributes = joined attributes; derived = derived }) rest

-- ---- types with a name

-- under = ENUMERATION OF '(' id { ',' id } ')' | SELECT '(' id { ',' id } ')' | texpr
pub data UnderIs : List Word → Underlying → List Word → Type 0 where
  enumeration : {n : List ℕ} {ns : List (List ℕ)} {ws rest : List Word} → under_word_of n ≡ unders.Enumeration → NamesAre ws ns rest → UnderIs (name n ∷ name (codes "OF") ∷ ws) (schema.items ns) rest
  select : {n : List ℕ} {ns : List (List ℕ)} {ws rest : List Word} → under_word_of n ≡ unders.Select → NamesAre ws ns rest → UnderIs (name n ∷ ws) (schema.select ns) rest
  plain : {n : List ℕ} {ws rest : List Word} {e : Expr} → under_word_of n ≡ unders.Plain → ExprIs deepest (name n ∷ ws) e rest → UnderIs (name n ∷ ws) (schema.plain e) rest

-- [ WHERE tokens ] END_TYPE
pub data TypeEnds : List Word → List Word → Type 0 where
  none : {rest : List Word} → TypeEnds (name (codes "END_TYPE") ∷ rest) rest
  some : {ws rest : List Word} → Ends None (codes "END_TYPE") 0 ws rest → TypeEnds (name (codes "WHERE") ∷ ws) rest

-- a type after the word TYPE
pub data TypeIs : List Word → Defined → List Word → Type 0 where
  made : {n : List ℕ} {ws mid rest : List Word} {u : Underlying} → UnderIs ws u (symbol 59 ∷ mid) → TypeEnds mid (symbol 59 ∷ rest) → TypeIs (name n ∷ symbol 61 ∷ ws) (record { name = n; under = u }) rest

-- ---- the schema

pub data Declaration : Type 0 where
  an_entity : Entity → Declaration
  a_type : Defined → Declaration
  skipped : Declaration

-- decl = entity | type | skipped
pub data DeclarationIs : List Word → Declaration → List Word → Type 0 where
  entity : {n : List ℕ} {ws rest : List Word} {e : Entity} → decl_word_of n ≡ decls.Entity → EntityIs ws e rest → DeclarationIs (name n ∷ ws) (an_entity e) rest
  type : {n : List ℕ} {ws rest : List Word} {t : Defined} → decl_word_of n ≡ decls.Type → TypeIs ws t rest → DeclarationIs (name n ∷ ws) (a_type t) rest
  function : {n : List ℕ} {ws rest : List Word} → decl_word_of n ≡ decls.Function → Ends (Some (codes "FUNCTION")) (codes "END_FUNCTION") 0 ws (symbol 59 ∷ rest) → DeclarationIs (name n ∷ ws) skipped rest
  procedure : {n : List ℕ} {ws rest : List Word} → decl_word_of n ≡ decls.Procedure → Ends (Some (codes "PROCEDURE")) (codes "END_PROCEDURE") 0 ws (symbol 59 ∷ rest) → DeclarationIs (name n ∷ ws) skipped rest
  rule : {n : List ℕ} {ws rest : List Word} → decl_word_of n ≡ decls.Rule → Ends None (codes "END_RULE") 0 ws (symbol 59 ∷ rest) → DeclarationIs (name n ∷ ws) skipped rest
  constant : {n : List ℕ} {ws rest : List Word} → decl_word_of n ≡ decls.Constant → Ends None (codes "END_CONSTANT") 0 ws (symbol 59 ∷ rest) → DeclarationIs (name n ∷ ws) skipped rest

abbrev pub entities_of : List Declaration → List Entity
entities_of [] = []
entities_of (an_entity e ∷ ds) = e ∷ entities_of ds
entities_of (a_type t ∷ ds) = entities_of ds
entities_of (skipped ∷ ds) = entities_of ds

abbrev pub types_of : List Declaration → List Defined
types_of [] = []
types_of (an_entity e ∷ ds) = types_of ds
types_of (a_type t ∷ ds) = t ∷ types_of ds
types_of (skipped ∷ ds) = types_of ds

-- schema = SCHEMA id ';' { decl } END_SCHEMA ';', and no words after it. A text sets no rule.
pub data SchemaIs : List Word → Schema → Type 0 where
  made : {n : List ℕ} {ws : List Word} {ds : List Declaration} → Many (begins_name (codes "END_SCHEMA")) DeclarationIs ws ds (name (codes "END_SCHEMA") ∷ symbol 59 ∷ []) → SchemaIs (name (codes "SCHEMA") ∷ name n ∷ symbol 59 ∷ ws) (record { name = n; entities = entities_of ds; types = types_of ds; distinct = false })
