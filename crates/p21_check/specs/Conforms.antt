-- What parameter conforms to a type.
use Rattle.std.specs.Prelude.{◌≡◌, ◌⊎◌, ◌≤◌, ℕ, ℤ, pos, ◌≤ℤ◌, ◌+ℤ◌, Bool, true, false, suc, List, length, Option, Some, None, IfSome, codes}
use Rattle.p21_text.specs.Items.{Item, ItemsOf}
use Rattle.p21_text.specs.Spelling.{bits_of}
use Rattle.p21_tree.specs.Tree.{Tree, Trees, nil, cons}
use Rattle.p21_tree.specs.Tree as tree
use Rattle.p21_express.specs.declared.declarations.Width.{Width}
use Rattle.p21_express.specs.declared.declarations.Bounds.{Bounds}
use Rattle.p21_express.specs.Schema.{Schema, Defined, Expr, Aggregate, array, list, set, bag}
use Rattle.p21_express.specs.Schema as type
use Rattle.p21_express.specs.WellFormed.{IsIn, IsEntity, IsSelect}
use Rattle.p21_schema.specs.Select.{ReachesType, ReachesEntity}

-- so many: exactly the width's number where FIXED stands after it, and otherwise at most that number
abbrev pub IsAllowed : Bool → ℕ → ℕ → Type 0
IsAllowed true width n = n ≡ width
IsAllowed false width n = n ≤ width

-- a string as long as the width allows, counted in characters; a width that is no number is not checked
abbrev pub IsString : Width → List ℕ → Type 0
IsString w v = IfSome w.count (λ width. (characters : List Item) × (ItemsOf v characters × IsAllowed w.fixed width (length characters)))

-- a binary as long as the width allows, counted in bits
abbrev pub IsBinary : Width → List ℕ → Type 0
IsBinary w v = IfSome w.count (λ width. IsAllowed w.fixed width (bits_of v))

-- a number that is not below the low bound and not above the high one; a bound that is no number is not checked
abbrev pub IsWithin : Bounds → ℕ → Type 0
IsWithin b n = IfSome b.low (λ low. low ≤ℤ pos n) × IfSome b.high (λ high. pos n ≤ℤ high)

-- the number of elements between two indices, both counted; where one of them is no number none is asked for
abbrev pub IsSpan : Option ℤ → Option ℤ → ℕ → Type 0
IsSpan (Some low) (Some high) n = low +ℤ pos n ≡ high +ℤ pos 1
IsSpan None high n = Unit {0}
IsSpan (Some low) None n = Unit {0}

-- the number of elements that an aggregate has
abbrev pub AreCounted : Aggregate → ℕ → Type 0
AreCounted (array b o) n = IsSpan b.low b.high n
AreCounted (list b u) n = IsWithin b n
AreCounted (set b) n = IsWithin b n
AreCounted (bag b) n = IsWithin b n

-- an element of the aggregate may be left out
abbrev pub may_be_absent : Aggregate → Bool
may_be_absent (array b o) = o
may_be_absent (list b u) = false
may_be_absent (set b) = false
may_be_absent (bag b) = false

abbrev pub tree_count : Trees → ℕ
tree_count nil = 0
tree_count (cons t ts) = suc (tree_count ts)

-- .T. and .F.
abbrev pub IsBoolean : List ℕ → Type 0
IsBoolean v = (v ≡ codes "T") ⊎ (v ≡ codes "F")

-- .T., .F. and .U.
abbrev pub IsLogical : List ℕ → Type 0
IsLogical v = IsBoolean v ⊎ (v ≡ codes "U")

mutual
  -- What parameter conforms to a type: one line for each row of the table of types.
  pub data Conforms (s : Schema) : Expr → Tree → Type 0 where
    integer : {v : List ℕ} → Conforms s type.integer (tree.int v)
    real : {v : List ℕ} → Conforms s type.real (tree.real v)
    number_integer : {v : List ℕ} → Conforms s type.number (tree.int v)
    number_real : {v : List ℕ} → Conforms s type.number (tree.real v)
    boolean : {v : List ℕ} → IsBoolean v → Conforms s type.boolean (tree.enumeration v)
    logical : {v : List ℕ} → IsLogical v → Conforms s type.logical (tree.enumeration v)
    string : {w : Width} {v : List ℕ} → IsString w v → Conforms s (type.text w) (tree.str v)
    binary : {w : Width} {v : List ℕ} → IsBinary w v → Conforms s (type.binary w) (tree.binary v)
    aggregate : {a : Aggregate} {e : Expr} {ts : Trees} → AreCounted a (tree_count ts) → AreElements s (may_be_absent a) e ts → Conforms s (type.aggregate a e) (tree.items ts)
    enumeration : {n v : List ℕ} {names : List (List ℕ)} (t : Defined) → IsIn s.types t → t.name ≡ n → t.under ≡ type.items names → IsIn names v → Conforms s (type.named n) (tree.enumeration v)
    defined : {n : List ℕ} {e : Expr} {p : Tree} (t : Defined) → IsIn s.types t → t.name ≡ n → t.under ≡ type.plain e → Conforms s e p → Conforms s (type.named n) p
    entity : {n : List ℕ} {r : ℕ} → IsEntity s n → Conforms s (type.named n) (tree.reference r)
    select_entity : {n : List ℕ} {r : ℕ} → IsSelect s n → ReachesEntity s n → Conforms s (type.named n) (tree.reference r)
    select_type : {n k : List ℕ} {p : Tree} → IsSelect s n → ReachesType s n k → Conforms s (type.named k) p → Conforms s (type.named n) (tree.typed k p)

  -- each element conforms to the type; `$` may stand for one where elements may be left out
  pub data AreElements (s : Schema) : Bool → Expr → Trees → Type 0 where
    none : {o : Bool} {e : Expr} → AreElements s o e nil
    more : {o : Bool} {e : Expr} {t : Tree} {ts : Trees} → Conforms s e t → AreElements s o e ts → AreElements s o e (cons t ts)
    left_out : {e : Expr} {ts : Trees} → AreElements s true e ts → AreElements s true e (cons tree.absent ts)
