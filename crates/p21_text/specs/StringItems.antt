-- What an iterator over the items of a string has still to give.
use Rattle.std.specs.Prelude.{List, ◌++◌, length}
use Rattle.p21_text.specs.Items.{Item}
use Rattle.p21_text.specs.Values.{units, read}
use Rattle.p21_text.specs.declared.str_items.StrItems.{StrItems}

-- the items that the iterator has not given yet
abbrev pub items_left : StrItems → List Item
items_left s = units s.wide s.digits.now ++ read (length s.rest.now) s.part s.rest.now
