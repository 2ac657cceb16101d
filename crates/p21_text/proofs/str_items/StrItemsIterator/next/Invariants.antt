use Rattle.std.proofs.Common.{◌≡◌, length}
use Rattle.p21_text.specs.StringItems.{items_left}
use Rattle.p21_text.proofs.str_items.StrItemsIterator.next.Given as goal

abbrev pub invariant-loop-self : goal.invariant-loop-self
invariant-loop-self l = items_left l.initial.self ≡ items_left l.self

abbrev pub decreases-loop-self : goal.decreases-loop-self
decreases-loop-self l = length l.self.rest.now
