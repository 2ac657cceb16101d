use Rattle.std.proofs.Common.{map, take}
use Rattle.p21_tree.specs.Views.{plain_instance, plain_record}
use Rattle.p21_json.specs.Instances.{AreRecordsParts}
use Rattle.p21_json.specs.Written.{AddsSome}
use Rattle.p21_json.proofs.line.Line.records.Given as goal

abbrev pub invariant-loop-record : goal.invariant-loop-record
invariant-loop-record l = AddsSome l.terms l.initial.self.out l.self.out (AreRecordsParts l.terms (plain_instance l.instance) (map plain_record (take l.record-index l.records)))
