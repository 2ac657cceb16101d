use Rattle.std.proofs.Common.{◌≡◌, List, [], drop, length, take}
use Rattle.p21_express.specs.WellFormed.{Origin}
use Rattle.p21_tree.specs.Plain.{plain_all}
use Rattle.p21_tree.specs.Views.{plain_instance}
use Rattle.p21_json.specs.Rows.{AreAttributesOf}
use Rattle.p21_json.specs.Instances.{members_parts}
use Rattle.p21_json.proofs.WrittenLemmas.{Underway}
use Rattle.p21_json.proofs.line.Line.members.Given as goal

abbrev pub invariant-loop-position : goal.invariant-loop-position
invariant-loop-position l =
    (os : List Origin) → AreAttributesOf l.terms l.instance.complex l.entity os → l.count ≡ length os
    → Underway l.terms l.initial.self.out l.self.out (members_parts (plain_instance l.instance) [] os (plain_all l.params)) (members_parts (plain_instance l.instance) (take l.position os) (drop l.position os) (plain_all (drop l.position l.params)))
