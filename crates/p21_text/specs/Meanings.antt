-- What the code says of the item at the front of a body.
use Rattle.std.specs.Prelude.{◌≡◌, ℕ, ◌%◌, Bool, true, if◌then◌else◌, List, [], ◌∷◌, ◌++◌, length, slice_index, ◌<◌, option_to_list, option_map}
use Rattle.std.specs.List.{AllByRecursion}
use Rattle.p21_text.specs.Items.{Item, IsItems, scalar, page}
use Rattle.p21_text.specs.ItemShapes.{hex_byte}
use Rattle.p21_text.specs.Values.{units, items_at, part_after}
use Rattle.p21_text.specs.declared.meaning.StrItem.{StrItem}
use Rattle.p21_text.specs.declared.meaning.StrItem.TheVariants as item
use Rattle.p21_text.specs.declared.meaning.Progress.{Progress}
use Rattle.p21_text.specs.declared.meaning.Meaning.{Meaning}
use Rattle.p21_text.specs.declared.meaning.Meaning.TheVariants as meaning

-- the item of the code
abbrev pub item_of : StrItem → Item
item_of (item.Scalar c) = scalar c
item_of (item.Page l n) = page l n

-- digits to the base 16
abbrev pub AreHex : List ℕ → Type 0
AreHex digits = AllByRecursion (λ b. hex_byte b ≡ true) digits

-- digits in whole groups of four or of eight
pub record AreGroups (wide : Bool) (digits : List ℕ) : Type 0 where
  pub hex : AreHex digits
  pub whole : length digits % (if wide then 8 else 4) ≡ 0

-- these items, and this part after them
abbrev pub Means : Meaning → ℕ → List Item → ℕ → Type 0
Means meaning.Nothing part items next = (items ≡ []) × (next ≡ part)
Means (meaning.Part p) part items next = (items ≡ []) × (next ≡ p)
Means (meaning.Item x) part items next = (items ≡ item_of x ∷ []) × (next ≡ part)
Means (meaning.Run digits wide) part items next = (items ≡ units wide digits.now) × (next ≡ part) × AreGroups wide digits.now

abbrev pub IsMeaningOf : ℕ → List ℕ → Meaning → Type 0
IsMeaningOf part text r = Means r part (items_at part text) (part_after part text)

-- the items that a row gives at once and by its digits, and the part after it
pub record Proceeds (p : Progress) (items : List Item) (next : ℕ) : Type 0 where
  pub items_are : items ≡ option_to_list (option_map item_of p.item) ++ units p.wide p.digits.now
  pub part_is : p.part ≡ next
  pub groups : AreGroups p.wide p.digits.now

-- each element is a byte
abbrev pub AreBytes : List ℕ → Type 0
AreBytes text = (k : ℕ) → slice_index text k < 256

-- the rest of a body has items, under this part
abbrev pub IsReadable : ℕ → List ℕ → Type 0
IsReadable part text = ∥ ((items : List Item) × IsItems part text items) ∥₁
