use Rattle.std.proofs.Common.{◌↔◌, ◌<◌, ℕ, false, get_or, length, sym, subst, IsTrue, arith}
use Rattle.p21_schema.specs.Place.{entity_name}
use Rattle.p21_check.specs.Instances.{IsSubtypeRecord}
use Rattle.p21_check.specs.Sets.{AnyIn}
use Rattle.p21_check.proofs.supertypes.has_subtype_by.Goals as goal

pub returns-then-place-above : goal.returns-then-place-above
returns-then-place-above c =
    let s = c.args.schema.now in
    let e = c.args.entity in
    let is = c.place-place.ensures in
    let marked = AnyIn c.args.records.now (IsSubtypeRecord s (entity_name s e)) in
    let less : e.index < length c.args.above.now = omega arith in
    subst (λ (i : ℕ). IsTrue (get_or c.args.above.now i false) ↔ marked) (sym is) (c.requires.marked e c.requires.entity less)
