-- Lists that name an instance twice where no two elements may be equal.
use Rattle.std.specs.Prelude.{◌≡◌, ◌⊎◌, ℕ, Bool, true, false, List, [], ◌∷◌, Option, Some, None}
use Rattle.p21_tree.specs.Tree.{Tree, Trees, absent, derived, int, real, str, enumeration, binary, reference, items, typed, nil, cons}
use Rattle.p21_express.specs.Schema.{Schema, Defined, Expr, Aggregate, array, list, set, bag}
use Rattle.p21_express.specs.Schema as type
use Rattle.p21_express.specs.WellFormed.{IsIn, IsSelect, Origin}
use Rattle.p21_schema.specs.Declaration.{Declaration, Form}
use Rattle.p21_schema.specs.Declaration as form
use Rattle.p21_schema.specs.Select.{ReachesType}
use Rattle.p21_check.specs.Slot.{Counts}

-- a SET or a LIST OF UNIQUE
abbrev pub is_of_unique : Aggregate → Bool
is_of_unique (array b o) = false
is_of_unique (list b u) = u
is_of_unique (set b) = true
is_of_unique (bag b) = false

-- the instance name that an element is
abbrev pub name_in : Tree → Option ℕ
name_in absent = None
name_in derived = None
name_in (int s) = None
name_in (real s) = None
name_in (str s) = None
name_in (enumeration s) = None
name_in (binary s) = None
name_in (reference n) = Some n
name_in (items ts) = None
name_in (typed k t) = None

abbrev pub with_name : Option ℕ → List ℕ → List ℕ
with_name None ns = ns
with_name (Some n) ns = n ∷ ns

-- the instance names among some elements, in order; other elements are not compared
abbrev pub names_among : Trees → List ℕ
names_among nil = []
names_among (cons t ts) = with_name (name_in t) (names_among ts)

-- one of the names stands there again after itself
abbrev pub HasTwice : List ℕ → Type 0
HasTwice [] = ⊥
HasTwice (n ∷ ns) = IsIn ns n ⊎ HasTwice ns

mutual
  -- A list in a parameter, at any depth, stands for a SET or a LIST OF UNIQUE of its type, and has one instance name twice. A
  -- typed parameter is of the type that is its keyword.
  pub data Repeats (s : Schema) : Expr → Tree → Type 0 where
    names : {a : Aggregate} {e : Expr} {ts : Trees} → is_of_unique a ≡ true → HasTwice (names_among ts) → Repeats s (type.aggregate a e) (items ts)
    element : {a : Aggregate} {e : Expr} {ts : Trees} → RepeatsAmong s e ts → Repeats s (type.aggregate a e) (items ts)
    defined : {n : List ℕ} {e : Expr} {p : Tree} (t : Defined) → IsIn s.types t → t.name ≡ n → t.under ≡ type.plain e → Repeats s e p → Repeats s (type.named n) p
    typed_as : {n k : List ℕ} {p : Tree} → IsSelect s n → ReachesType s n k → Repeats s (type.named k) p → Repeats s (type.named n) (typed k p)

  -- the same of one of some elements that are all of one type
  pub data RepeatsAmong (s : Schema) : Expr → Trees → Type 0 where
    here : {e : Expr} {t : Tree} {ts : Trees} → Repeats s e t → RepeatsAmong s e (cons t ts)
    behind : {e : Expr} {t : Tree} {ts : Trees} → RepeatsAmong s e ts → RepeatsAmong s e (cons t ts)

-- the same by a form: by one in DERIVE there is none
abbrev pub RepeatsByForm : Schema → Tree → Form → Type 0
RepeatsByForm s p form.derived = ⊥
RepeatsByForm s p (form.explicit optional e) = Repeats s e p

-- the same for an attribute, by one of its declarations that count
pub record RepeatsInSlot (s : Schema) (InSet : List ℕ → Type 0) (o : Origin) (p : Tree) : Type 0 where
  pub declaration : Declaration
  pub counts : Counts s InSet o declaration
  pub repeats : RepeatsByForm s p declaration.form
