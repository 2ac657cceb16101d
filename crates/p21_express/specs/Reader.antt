-- Reading words one after the other: what is read first, and the words after it, or nothing.
use Rattle.std.specs.Prelude.{◌≡◌, ℕ, zero, suc, Bool, true, false, List, [], ◌∷◌, ◌-◌, map, length, take, Option, Some, None, Result, Ok, Err, if◌then◌else◌, codes, pos, option_map}
use Rattle.p21_express.specs.declared.word.Word as source
use Rattle.p21_express.specs.declared.word.Word.TheVariants as words
use Rattle.p21_express.specs.declared.refusal.Refusal.{Refusal}
use Rattle.p21_express.specs.declared.refusal.Refusal.TheVariants as refusal
use Rattle.p21_express.specs.Word.{Word, name, integer, string, symbol, is_name, is_symbol, is_opening, is_closing, begins_name, begins_symbol}
use Rattle.p21_express.specs.declared.declarations.Bounds.{Bounds}
use Rattle.p21_express.specs.declared.keywords.TypeWord.{TypeWord}
use Rattle.p21_express.specs.declared.keywords.TypeWord.TheVariants as types
use Rattle.p21_express.specs.declared.keywords.SimpleWord.{SimpleWord}
use Rattle.p21_express.specs.declared.keywords.SimpleWord.TheVariants as simples
use Rattle.p21_express.specs.declared.keywords.AggregateWord.{AggregateWord}
use Rattle.p21_express.specs.declared.keywords.AggregateWord.TheVariants as aggregates
use Rattle.p21_express.specs.declared.keywords.UnderWord.{UnderWord}
use Rattle.p21_express.specs.declared.keywords.UnderWord.TheVariants as unders
use Rattle.p21_express.specs.declared.keywords.DeclWord.{DeclWord}
use Rattle.p21_express.specs.declared.keywords.DeclWord.TheVariants as decls
use Rattle.p21_express.specs.Keywords.{type_word_of, under_word_of, decl_word_of, is_rules_word}
use Rattle.p21_express.specs.Schema.{Schema, Entity, Attribute, Derived, Defined, Underlying, Expr, Aggregate}
use Rattle.p21_express.specs.Schema as schema
use Rattle.p21_express.specs.Grammar.{Naming, Declaration, an_entity, a_type, skipped, is_again, width_of, bound_of, deepest, attributes_of, joined, entities_of, types_of, begins_rules, ends_attributes}
use Rattle.std.specs.Borrow.{Bor}
use Rattle.std.specs.Str.{bytes_eq}
use Rattle.p21_express.specs.declared.declarations.Width.{Width}

abbrev pub word_of : source.Word → Word
word_of (words.Name s) = name s.now
word_of (words.Integer v) = integer (option_map (λ n. n.value) v)
word_of words.Text = string
word_of (words.Symbol b) = symbol b

abbrev pub words_of : List source.Word → List Word
words_of ws = map word_of ws

infixl 10 ◌>>=◌
abbrev pub ◌>>=◌ : {A B : Type 0} → Option A → (A → Option B) → Option B
None >>= f = None
(Some x) >>= f = f x

-- What a function returned, seen by view, is what reading gives, unless memory ran out.
abbrev pub Fails : {Y : Type 0} → Refusal → Option Y → Type 0
Fails refusal.Memory read = Unit {0}
Fails (refusal.Refused kind left) read = read ≡ None

abbrev pub Gives : {X Y : Type 0} → (X → Y) → Result X Refusal → Option Y → Type 0
Gives view (Ok x) read = read ≡ Some (view x)
Gives view (Err e) read = Fails e read

-- ---- words

abbrev pub name_at : List Word → Option (List ℕ × List Word)
name_at [] = None
name_at (name n ∷ ws) = Some (n, ws)
name_at (integer v ∷ ws) = None
name_at (string ∷ ws) = None
name_at (symbol b ∷ ws) = None

abbrev pub word_at : List ℕ → List Word → Option (List Word)
word_at n [] = None
word_at n (w ∷ ws) = if is_name n w then Some ws else None

abbrev pub symbol_at : ℕ → List Word → Option (List Word)
symbol_at c [] = None
symbol_at c (w ∷ ws) = if is_symbol c w then Some ws else None

-- past a word that opens a bracket, is the stop, or closes a bracket
abbrev pub stop_by : Bool → ℕ → Bool → Bool → List Word → (ℕ → Option (List Word)) → Option (List Word)
stop_by true depth stop closing ws again = again (suc depth)
stop_by false zero true closing ws again = Some ws
stop_by false zero false true ws again = None
stop_by false zero false false ws again = again 0
stop_by false (suc depth) stop true ws again = again depth
stop_by false (suc depth) stop false ws again = again (suc depth)

-- the words after the first `stop` outside brackets
unfoldable pub behind_stop : ℕ → ℕ → List Word → Option (List Word)
behind_stop stop depth [] = None
behind_stop stop depth (w ∷ ws) = stop_by (is_opening w) depth (is_symbol stop w) (is_closing w) ws (λ k. behind_stop stop k ws)

-- the words up to the first `stop` outside brackets, and those after it
unfoldable pub up_to : ℕ → List Word → Option (List Word × List Word)
up_to stop ws = do
  rest ← behind_stop stop 0 ws
  Some (take (length ws - length rest - 1) ws, rest)

-- past a word that is the last, or opens one more
abbrev pub ends_by : Bool → Bool → ℕ → List Word → (ℕ → Option (List Word)) → Option (List Word)
ends_by true opens zero ws again = Some ws
ends_by true opens (suc depth) ws again = again depth
ends_by false true depth ws again = again (suc depth)
ends_by false false depth ws again = again depth

-- the words after the name that ends what is skipped
unfoldable pub ends_at : Option (List ℕ) → List ℕ → ℕ → List Word → Option (List Word)
ends_at again last depth [] = None
ends_at again last depth (w ∷ ws) = ends_by (is_name last w) (is_again again w) depth ws (λ k. ends_at again last k ws)

abbrev pub again_of : Option (Bor (List ℕ)) → Option (List ℕ)
again_of again = option_map (λ n. n.now) again

abbrev pub if_name : List ℕ → List Word → Bool × List Word
if_name n [] = (false, [])
if_name n (w ∷ ws) = if is_name n w then (true, ws) else (false, w ∷ ws)

unfoldable pub group_at : List Word → Option (List Word × List Word)
group_at ws = do
  inner ← symbol_at 40 ws
  up_to 41 inner

unfoldable pub if_group : List Word → Option (List Word × List Word)
if_group ws = if begins_symbol 40 ws then group_at ws else Some ([], ws)

-- ---- many

-- no more where the words stop, and else one more and what `again` reads
abbrev pub many_by : {X : Type 0} → Bool → List Word → Option (X × List Word) → (List Word → Option (List X × List Word)) → Option (List X × List Word)
many_by true ws first again = Some ([], ws)
many_by false ws first again = first >>= λ x. again x.1 >>= λ xs. Some (x.0 ∷ xs.0, xs.1)

-- things one after the other, at most n - 1 of them
unfoldable pub many : {X : Type 0} → (List Word → Bool) → (List Word → Option (X × List Word)) → ℕ → List Word → Option (List X × List Word)
many stops item zero ws = None
many stops item (suc n) ws = many_by (stops ws) ws (item ws) (many stops item n)

abbrev pub many_at : {X : Type 0} → (List Word → Bool) → (List Word → Option (X × List Word)) → List Word → Option (List X × List Word)
many_at stops item ws = many stops item (suc (length ws)) ws

-- ---- types

unfoldable pub bounds_at : List Word → Option (Bounds × List Word)
bounds_at ws = do
  inner ← symbol_at 91 ws
  low ← up_to 58 inner
  high ← up_to 93 low.1
  Some (record { low = bound_of low.0; high = bound_of high.0 }, high.1)

unfoldable pub if_bounds : List Word → Option (Bounds × List Word)
if_bounds ws = if begins_symbol 91 ws then bounds_at ws else Some (record { low = Some (pos 0); high = None }, ws)

unfoldable pub array_at : List Word → Option (Aggregate × List Word)
array_at ws = do
  b ← bounds_at ws
  mid ← word_at (codes "OF") b.1
  Some (schema.array b.0 (if_name (codes "OPTIONAL") mid).0, (if_name (codes "UNIQUE") (if_name (codes "OPTIONAL") mid).1).1)

unfoldable pub list_at : List Word → Option (Aggregate × List Word)
list_at ws = do
  b ← if_bounds ws
  mid ← word_at (codes "OF") b.1
  Some (schema.list b.0 (if_name (codes "UNIQUE") mid).0, (if_name (codes "UNIQUE") mid).1)

unfoldable pub set_at : List Word → Option (Aggregate × List Word)
set_at ws = do
  b ← if_bounds ws
  rest ← word_at (codes "OF") b.1
  Some (schema.set b.0, rest)

unfoldable pub bag_at : List Word → Option (Aggregate × List Word)
bag_at ws = do
  b ← if_bounds ws
  rest ← word_at (codes "OF") b.1
  Some (schema.bag b.0, rest)

-- an aggregate after its word
abbrev pub aggregate_at : AggregateWord → List Word → Option (Aggregate × List Word)
aggregate_at aggregates.Array ws = array_at ws
aggregate_at aggregates.List ws = list_at ws
aggregate_at aggregates.Set ws = set_at ws
aggregate_at aggregates.Bag ws = bag_at ws

unfoldable pub width_at : List Word → Option (Width × List Word)
width_at ws = do
  g ← if_group ws
  Some (record { count = width_of g.0; fixed = (if_name (codes "FIXED") g.1).0 }, (if_name (codes "FIXED") g.1).1)

unfoldable pub real_at : List Word → Option (Expr × List Word)
real_at ws = do
  g ← if_group ws
  Some (schema.real, g.1)

unfoldable pub text_at : List Word → Option (Expr × List Word)
text_at ws = do
  w ← width_at ws
  Some (schema.text w.0, w.1)

unfoldable pub binary_at : List Word → Option (Expr × List Word)
binary_at ws = do
  w ← width_at ws
  Some (schema.binary w.0, w.1)

-- a type that is no aggregate, after its word
abbrev pub simple_at : List ℕ → SimpleWord → List Word → Option (Expr × List Word)
simple_at n simples.Integer ws = Some (schema.integer, ws)
simple_at n simples.Number ws = Some (schema.number, ws)
simple_at n simples.Boolean ws = Some (schema.boolean, ws)
simple_at n simples.Logical ws = Some (schema.logical, ws)
simple_at n simples.Real ws = real_at ws
simple_at n simples.Text ws = text_at ws
simple_at n simples.Binary ws = binary_at ws
simple_at n simples.Named ws = Some (schema.named n, ws)

-- a type after its first word, where no aggregate may be nested
abbrev pub flat_at : List ℕ → TypeWord → List Word → Option (Expr × List Word)
flat_at n (types.Simple w) ws = simple_at n w ws
flat_at n (types.Aggregate w) ws = None

-- a type after its first word, where one more may be nested, whose element `item` reads
abbrev pub nested_at : (List Word → Option (Expr × List Word)) → List ℕ → TypeWord → List Word → Option (Expr × List Word)
nested_at item n (types.Simple w) ws = simple_at n w ws
nested_at item n (types.Aggregate w) ws = do
  a ← aggregate_at w ws
  e ← item a.1
  Some (schema.aggregate a.0 e.0, e.1)

unfoldable pub expr_at : ℕ → List Word → Option (Expr × List Word)
expr_at zero ws = do
  n ← name_at ws
  flat_at n.0 (type_word_of n.0) n.1
expr_at (suc left) ws = do
  n ← name_at ws
  nested_at (expr_at left) n.0 (type_word_of n.0) n.1

-- ---- lists of names

unfoldable pub next_name : List Word → Option (List ℕ × List Word)
next_name ws = do
  n ← symbol_at 44 ws
  name_at n

-- id { ',' id } ')'
unfoldable pub names_inside : List Word → Option (List (List ℕ) × List Word)
names_inside ws = do
  n ← name_at ws
  ns ← many_at (begins_symbol 41) next_name n.1
  rest ← symbol_at 41 ns.1
  Some (n.0 ∷ ns.0, rest)

unfoldable pub names_at : List Word → Option (List (List ℕ) × List Word)
names_at ws = do
  inside ← symbol_at 40 ws
  names_inside inside

-- ---- entities

-- after SELF
unfoldable pub again_at : List Word → Option (Naming × List Word)
again_at ws = do
  e ← symbol_at 92 ws
  of ← name_at e
  n ← symbol_at 46 of.1
  m ← name_at n
  if begins_name (codes "RENAMED") m.1 then None else Some (record { name = m.0; of = Some of.0 }, m.1)

unfoldable pub naming_at : List Word → Option (Naming × List Word)
naming_at ws = do
  n ← name_at ws
  if bytes_eq n.0 (codes "SELF") then again_at n.1 else Some (record { name = n.0; of = None }, n.1)

unfoldable pub next_naming : List Word → Option (Naming × List Word)
next_naming ws = do
  n ← symbol_at 44 ws
  naming_at n

unfoldable pub namings_at : List Word → Option (List Naming × List Word)
namings_at ws = do
  x ← naming_at ws
  xs ← many_at (begins_symbol 58) next_naming x.1
  rest ← symbol_at 58 xs.1
  Some (x.0 ∷ xs.0, rest)

unfoldable pub attributes_at : List Word → Option (List Attribute × List Word)
attributes_at ws = do
  xs ← namings_at ws
  e ← expr_at deepest (if_name (codes "OPTIONAL") xs.1).1
  rest ← symbol_at 59 e.1
  Some (attributes_of xs.0 (if_name (codes "OPTIONAL") xs.1).0 e.0, rest)

-- ';' and all explicit attributes of an entity
unfoldable pub all_attributes_at : List Word → Option (List Attribute × List Word)
all_attributes_at ws = do
  body ← symbol_at 59 ws
  xs ← many_at ends_attributes attributes_at body
  Some (joined xs.0, xs.1)

unfoldable pub derived_at : List Word → Option (Derived × List Word)
derived_at ws = do
  x ← naming_at ws
  value ← symbol_at 58 x.1
  rest ← behind_stop 59 0 value
  Some (record { name = x.0.name; of = x.0.of }, rest)

-- DERIVE and its attributes
unfoldable pub all_derived_at : List Word → Option (List Derived × List Word)
all_derived_at ws = do
  first ← word_at (codes "DERIVE") ws
  many_at begins_rules derived_at first

unfoldable pub derives_at : List Word → Option (List Derived × List Word)
derives_at ws = if begins_name (codes "DERIVE") ws then all_derived_at ws else Some ([], ws)

unfoldable pub rules_end : List Word → Option (List Word)
rules_end ws = do
  n ← name_at ws
  if bytes_eq n.0 (codes "END_ENTITY") then Some n.1 else (if is_rules_word n.0 then ends_at None (codes "END_ENTITY") 0 n.1 else None)

-- OF group
unfoldable pub of_group : List Word → Option (List Word)
of_group ws = do
  g ← word_at (codes "OF") ws
  rest ← group_at g
  Some rest.1

-- after ABSTRACT
unfoldable pub abstract_at : List Word → Option (List Word)
abstract_at ws = do
  s ← word_at (codes "SUPERTYPE") ws
  if begins_name (codes "OF") s then of_group s else Some s

unfoldable pub supertype_at : List Word → Option (Bool × List Word)
supertype_at ws =
    if (if_name (codes "ABSTRACT") ws).0 then (abstract_at (if_name (codes "ABSTRACT") ws).1 >>= λ rest. Some (true, rest))
    else (if (if_name (codes "SUPERTYPE") ws).0 then (of_group (if_name (codes "SUPERTYPE") ws).1 >>= λ rest. Some (false, rest)) else Some (false, ws))

unfoldable pub subtype_at : List Word → Option (List (List ℕ) × List Word)
subtype_at ws = if (if_name (codes "SUBTYPE") ws).0 then (word_at (codes "OF") (if_name (codes "SUBTYPE") ws).1 >>= names_at) else Some ([], ws)

unfoldable pub entity_at : List Word → Option (Entity × List Word)
entity_at ws = do
  n ← name_at ws
  a ← supertype_at n.1
  s ← subtype_at a.1
  xs ← all_attributes_at s.1
  ds ← derives_at xs.1
  rules ← rules_end ds.1
  rest ← symbol_at 59 rules
  Some (record { name = n.0; is_abstract = a.0; supertypes = s.0; attributes = xs.0; derived = ds.0 }, rest)

-- ---- types with a name

unfoldable pub enumeration_at : List Word → Option (Underlying × List Word)
enumeration_at ws = do
  of ← word_at (codes "OF") ws
  ns ← names_at of
  Some (schema.items ns.0, ns.1)

unfoldable pub select_at : List Word → Option (Underlying × List Word)
select_at ws = do
  ns ← names_at ws
  Some (schema.select ns.0, ns.1)

unfoldable pub plain_at : List Word → Option (Underlying × List Word)
plain_at ws = do
  e ← expr_at deepest ws
  Some (schema.plain e.0, e.1)

-- what stands under a TYPE, by its first word
abbrev pub under_by : UnderWord → List Word → List Word → Option (Underlying × List Word)
under_by unders.Enumeration ws rest = enumeration_at rest
under_by unders.Select ws rest = select_at rest
under_by unders.Unsupported ws rest = None
under_by unders.Plain ws rest = plain_at ws

unfoldable pub under_at : List Word → Option (Underlying × List Word)
under_at ws = do
  n ← name_at ws
  under_by (under_word_of n.0) ws n.1

unfoldable pub type_ends : List Word → Option (List Word)
type_ends ws = if (if_name (codes "WHERE") ws).0 then ends_at None (codes "END_TYPE") 0 (if_name (codes "WHERE") ws).1 else word_at (codes "END_TYPE") ws

unfoldable pub type_at : List Word → Option (Defined × List Word)
type_at ws = do
  n ← name_at ws
  under ← symbol_at 61 n.1
  u ← under_at under
  end ← symbol_at 59 u.1
  semicolon ← type_ends end
  rest ← symbol_at 59 semicolon
  Some (record { name = n.0; under = u.0 }, rest)

-- ---- the schema

unfoldable pub skipped_at : Option (List ℕ) → List ℕ → List Word → Option (Declaration × List Word)
skipped_at again last ws = do
  end ← ends_at again last 0 ws
  rest ← symbol_at 59 end
  Some (skipped, rest)

-- a declaration after its first word
abbrev pub declaration_by : DeclWord → List Word → Option (Declaration × List Word)
declaration_by decls.Entity ws = entity_at ws >>= λ e. Some (an_entity e.0, e.1)
declaration_by decls.Type ws = type_at ws >>= λ t. Some (a_type t.0, t.1)
declaration_by decls.Function ws = skipped_at (Some (codes "FUNCTION")) (codes "END_FUNCTION") ws
declaration_by decls.Procedure ws = skipped_at (Some (codes "PROCEDURE")) (codes "END_PROCEDURE") ws
declaration_by decls.Rule ws = skipped_at None (codes "END_RULE") ws
declaration_by decls.Constant ws = skipped_at None (codes "END_CONSTANT") ws
declaration_by decls.Unsupported ws = None
declaration_by decls.Unknown ws = None

unfoldable pub declaration_at : List Word → Option (Declaration × List Word)
declaration_at ws = do
  n ← name_at ws
  declaration_by (decl_word_of n.0) n.1

-- nothing more
abbrev pub ended : List Word → Option Schema → Option Schema
ended [] s = s
ended (w ∷ ws) s = None

-- ';' and all declarations: the entities and the types among them
unfoldable pub declarations_at : List Word → Option ((List Entity × List Defined) × List Word)
declarations_at ws = do
  body ← symbol_at 59 ws
  ds ← many_at (begins_name (codes "END_SCHEMA")) declaration_at body
  Some ((entities_of ds.0, types_of ds.0), ds.1)

unfoldable pub schema_at : List Word → Option Schema
schema_at ws = do
  first ← word_at (codes "SCHEMA") ws
  n ← name_at first
  ds ← declarations_at n.1
  end ← word_at (codes "END_SCHEMA") ds.1
  rest ← symbol_at 59 end
  ended rest (Some (record { name = n.0; entities = ds.0.0; types = ds.0.1; distinct = false }))

-- what is read of words that reach the end of their text
abbrev pub if_whole : Bool → Option Schema → Option Schema
if_whole true s = s
if_whole false s = None
