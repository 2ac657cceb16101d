-- What conforms to a word alone, a string or a binary.
use Rattle.std.proofs.Common.{◌≡◌, ◌⊎◌, ◌↔◌, inl, inr, ℕ, List, sym, subst}
use Rattle.p21_tree.specs.Tree.{Tree}
use Rattle.p21_tree.specs.Tree as tree
use Rattle.p21_express.specs.declared.declarations.Width.{Width}
use Rattle.p21_express.specs.Schema.{Schema}
use Rattle.p21_express.specs.Schema as type
use Rattle.p21_check.specs.Conforms.{Conforms, IsBoolean, IsLogical, IsString, IsBinary}
use Rattle.p21_check.specs.Conforms as conforms

-- one way and back, through a third
pub both : {A B C : Type 0} → A ↔ B → B ↔ C → A ↔ C
both f g = (λ a. g.0 (f.0 a), λ c. f.1 (g.1 c))

boolean_name : {s : Schema} {v : List ℕ} → Conforms s type.boolean (tree.enumeration v) → IsBoolean v
boolean_name (conforms.boolean h) = h

logical_name : {s : Schema} {v : List ℕ} → Conforms s type.logical (tree.enumeration v) → IsLogical v
logical_name (conforms.logical h) = h

string_width : {s : Schema} {w : Width} {v : List ℕ} → Conforms s (type.text w) (tree.str v) → IsString w v
string_width (conforms.string h) = h

binary_width : {s : Schema} {w : Width} {v : List ℕ} → Conforms s (type.binary w) (tree.binary v) → IsBinary w v
binary_width (conforms.binary h) = h

pub boolean_by : (s : Schema) {t : Tree} {v : List ℕ} → t ≡ tree.enumeration v → IsBoolean v ↔ Conforms s type.boolean t
boolean_by s {t} {v} e = subst (λ x. IsBoolean v ↔ Conforms s type.boolean x) (sym e) (conforms.boolean, boolean_name)

pub logical_by : (s : Schema) {t : Tree} {v : List ℕ} → t ≡ tree.enumeration v → IsLogical v ↔ Conforms s type.logical t
logical_by s {t} {v} e = subst (λ x. IsLogical v ↔ Conforms s type.logical x) (sym e) (conforms.logical, logical_name)

pub string_by : (s : Schema) (w : Width) {t : Tree} {v : List ℕ} → t ≡ tree.str v → IsString w v ↔ Conforms s (type.text w) t
string_by s w {t} {v} e = subst (λ x. IsString w v ↔ Conforms s (type.text w) x) (sym e) (conforms.string, string_width)

pub binary_by : (s : Schema) (w : Width) {t : Tree} {v : List ℕ} → t ≡ tree.binary v → IsBinary w v ↔ Conforms s (type.binary w) t
binary_by s w {t} {v} e = subst (λ x. IsBinary w v ↔ Conforms s (type.binary w) x) (sym e) (conforms.binary, binary_width)

-- a number is an integer or a real
pub number_integer : {s : Schema} {t : Tree} → Conforms s type.integer t → Conforms s type.number t
number_integer conforms.integer = conforms.number_integer

pub number_real : {s : Schema} {t : Tree} → Conforms s type.real t → Conforms s type.number t
number_real conforms.real = conforms.number_real

pub number_parts : {s : Schema} {t : Tree} → Conforms s type.number t → Conforms s type.integer t ⊎ Conforms s type.real t
number_parts conforms.number_integer = inl conforms.integer
number_parts conforms.number_real = inr conforms.real
