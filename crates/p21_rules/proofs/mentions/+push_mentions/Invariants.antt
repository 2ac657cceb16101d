use Rattle.std.proofs.Common.{◌≡◌, ◌++◌, drop}
use Rattle.p21_tree.specs.Plain.{plain_all}
use Rattle.p21_rules.specs.Mentions.{all_mentions}
use Rattle.p21_rules.proofs.mentions.+push_mentions.Given as goal

abbrev pub decreases-push_mentions : goal.decreases-push_mentions
decreases-push_mentions l = goal.size-push_mentions l

-- with the names in the items that are left, those in all are added
abbrev pub invariant-loop-item : goal.invariant-loop-item
invariant-loop-item l = l.names.items ++ all_mentions (plain_all (drop l.item-index l.item-items)) ≡ l.initial.names.items ++ all_mentions (plain_all l.item-items)
