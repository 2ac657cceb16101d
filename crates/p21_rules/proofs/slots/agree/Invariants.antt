use Rattle.std.proofs.Common.{◌≡◌, ◌↔◌, List, drop, get_or}
use Rattle.p21_schema.specs.Declaration.{Declaration, AreResolvedIn}
use Rattle.p21_check.specs.Sets.{EachIn}
use Rattle.p21_tree.specs.Plain.{plain}
use Rattle.p21_rules.specs.Code.{value_code}
use Rattle.p21_rules.specs.Slots.{MeansCounting, no_declaration, set_of}
use Rattle.p21_rules.specs.Value.{Value}
use Rattle.p21_rules.proofs.slots.agree.Given as goal

-- each declaration agrees where each of those that are left does
abbrev pub invariant-loop-place : goal.invariant-loop-place
invariant-loop-place l =
    let s = l.fn.slot.schema.now in
    (ds : List Declaration) → (v : Value) → AreResolvedIn s l.fn.slot.declarations.now ds → l.fn.own ≡ value_code v → MeansCounting s (set_of l.fn.slot) ds (plain l.fn.param) v (get_or ds l.fn.known no_declaration)
    → EachIn (drop l.place ds) (MeansCounting s (set_of l.fn.slot) ds (plain l.fn.param) v) ↔ EachIn ds (MeansCounting s (set_of l.fn.slot) ds (plain l.fn.param) v)
