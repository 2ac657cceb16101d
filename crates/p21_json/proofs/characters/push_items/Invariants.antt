use Rattle.std.proofs.Common.{◌≡◌, ◌++◌, length, string_bytes}
use Rattle.p21_text.specs.StringItems.{items_left}
use Rattle.p21_json.specs.Characters.{text_of_items}
use Rattle.p21_json.proofs.characters.push_items.Given as goal

abbrev pub invariant-loop-item : goal.invariant-loop-item
invariant-loop-item l = string_bytes l.text ++ text_of_items (items_left l.items) ≡ string_bytes l.initial.text ++ text_of_items (items_left l.initial.items)

abbrev pub decreases-loop-item : goal.decreases-loop-item
decreases-loop-item l = length (items_left l.items)
