use Rattle.std.proofs.Common.{string_bytes}
use Rattle.p21_rows.proofs.RowLemmas.{NamedUpTo}
use Rattle.p21_rows.proofs.instances.entity_names.Given as goal

abbrev pub invariant-loop-position : goal.invariant-loop-position
invariant-loop-position l = NamedUpTo l.records (string_bytes l.names) l.position
