use Rattle.std.proofs.Common.{take}
use Rattle.p21_check.specs.Sets.{keywords_of}
use Rattle.p21_rules.specs.Named.{AreNamed}
use Rattle.p21_rules.proofs.entities.name_entities.Given as goal

abbrev pub invariant-loop-record : goal.invariant-loop-record
invariant-loop-record l = AreNamed l.schema (keywords_of (take l.record-index l.records)) l.named.items
