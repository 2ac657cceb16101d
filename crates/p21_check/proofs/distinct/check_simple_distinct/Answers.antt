use Rattle.std.proofs.Common.{◌≡◌, List, Some, None, true, false, length, ap, refl, sym, subst, ◌∙◌, arith}
use Rattle.p21_tree.specs.Plain.{plain_all}
use Rattle.p21_tree.specs.Views.{plain_record}
use Rattle.p21_tree.specs.declared.params.Param.{Param}
use Rattle.p21_check.specs.Attributes.{AreAttributes}
use Rattle.p21_check.specs.EntitySet.{IsInSet}
use Rattle.p21_check.specs.Instances.{simple_instance, IsFirstRepeating}
use Rattle.p21_check.specs.Sets.{HasEntity}
use Rattle.p21_check.specs.declared.entity_set.EntitySet.TheVariants as set
use Rattle.p21_check.proofs.DistinctLemmas.{repeated_at, repeating_at, repeating_along, simple_distinct, unruled}
use Rattle.p21_check.proofs.InstanceLemmas.{simple_set}
use Rattle.p21_check.proofs.distinct.check_simple_distinct.Goals as goal

pub first_repeating-requires-clause-count : goal.first_repeating-requires-clause-count
first_repeating-requires-clause-count c = let r = c.requires.count in (r.0, (r.1.0, ap length c.as_slice.ensures ∙ r.1.1))

pub returns-then-not-distinct : goal.returns-then-not-distinct
returns-then-not-distinct c = λ name at q b. unruled c.args.schema.now (simple_instance name at (plain_record c.args.entry.now)) q b (sym c.distinct.ensures ∙ c.if-not-distinct.true)

pub returns-in-Some : goal.returns-in-Some
returns-in-Some c = λ name at.
    let s = c.args.schema.now in
    let e = plain_record c.args.entry.now in
    let i = simple_instance name at e in
    let id = c.args.entity in
    let ruled : s.distinct ≡ true = sym c.distinct.ensures ∙ c.if-not-distinct.false in
    let count = c.requires.count in
    let are : AreAttributes s false e.keyword count.0 = subst (λ n. AreAttributes s false n count.0) c.requires.named count.1.0 in
    let S = HasEntity s (set.Simple id) in
    let there = simple_set s name at e id c.requires.entity c.requires.named in
    let a = c.in-Some.attr in
    let found = subst (λ (l : List Param). IsFirstRepeating s S count.0 (plain_all l) (Some a)) c.as_slice.ensures (c.in-Some.ensures count.0 count.1.0) in
    record {
      rec_ = 0;
      attr = a;
      is = refl;
      repeated = repeated_at s c.fits.ensures i 0 e refl count.0 are ruled a (repeating_along s S (IsInSet s i) count.0 e.params a there found.0);
      records = λ q b h. absurd (omega arith);
      attributes = λ b h bad. found.1 b h (repeating_along s (IsInSet s i) S count.0 e.params b (λ n. ((there n).1, (there n).0)) (repeating_at s c.fits.ensures i 0 e refl count.0 are b bad));
    }

pub returns-in-None : goal.returns-in-None
returns-in-None c = λ name at.
    let s = c.args.schema.now in
    let e = plain_record c.args.entry.now in
    let i = simple_instance name at e in
    let id = c.args.entity in
    let count = c.requires.count in
    let are : AreAttributes s false e.keyword count.0 = subst (λ n. AreAttributes s false n count.0) c.requires.named count.1.0 in
    let S = HasEntity s (set.Simple id) in
    let there = simple_set s name at e id c.requires.entity c.requires.named in
    let none = subst (λ (l : List Param). IsFirstRepeating s S count.0 (plain_all l) None) c.as_slice.ensures (c.in-None.ensures count.0 count.1.0) in
    simple_distinct s name at e (λ b bad. none b (repeating_along s (IsInSet s i) S count.0 e.params b (λ n. ((there n).1, (there n).0)) (repeating_at s c.fits.ensures i 0 e refl count.0 are b bad)))
