use Rattle.std.proofs.Common.{[], List}
use Rattle.p21_express.specs.WellFormed.{Origin}
use Rattle.p21_json.specs.Keys.{keys_behind}
use Rattle.p21_json.specs.Rows.{AreAttributesOf}
use Rattle.p21_query.specs.Called.{IsNotCalled}
use Rattle.p21_query.proofs.FirstLemmas.{Passed}
use Rattle.p21_query.proofs.attributes.attribute_named.Given as goal

-- none that was passed has the name
abbrev pub invariant-loop-position : goal.invariant-loop-position
invariant-loop-position l = (os : List Origin) → AreAttributesOf l.terms l.complex l.entity os → Passed (IsNotCalled l.name) (keys_behind [] os) 0 l.position
