use Rattle.std.proofs.Common.{◌≡◌, drop}
use Rattle.p21_text.specs.StringItems.{items_left}
use Rattle.p21_check.specs.SchemaName.{spelled}
use Rattle.p21_check.proofs.schema_name.spells.Given as goal

-- what is left to compare decides
abbrev pub invariant-loop-byte : goal.invariant-loop-byte
invariant-loop-byte l = spelled (items_left l.initial.items) l.name ≡ spelled (items_left l.items) (drop l.byte-index l.name)
