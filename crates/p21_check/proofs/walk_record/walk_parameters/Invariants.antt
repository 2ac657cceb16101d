use Rattle.std.proofs.Common.{◌+◌, ◌≤◌, false, List, length}
use Rattle.std.specs.declared.alloc.Global.{Global}
use Rattle.p21_express.specs.WellFormed.{Origin}
use Rattle.p21_schema.specs.Place.{entity_name}
use Rattle.p21_check.specs.Attributes.{AreAttributes}
use Rattle.p21_check.specs.WalkRecord.{SetOf, WalksParameters}
use Rattle.p21_check.proofs.walk_record.walk_parameters.Given as goal

-- the parameters before this one were passed
abbrev pub invariant-loop-position : goal.invariant-loop-position
invariant-loop-position l = record {
  reached : l.position ≤ l.count;
  within : l.place ≤ length l.text;
  counts : l.written + l.at ≤ l.place;
  walks : (g : Global) (os : List Origin) → AreAttributes l.schema false (entity_name l.schema l.own) os → WalksParameters l.schema (SetOf l.schema l.own) os l.position l.text l.at l.fn.into.items l.into.items (record { after = l.place; written = l.written });
}
