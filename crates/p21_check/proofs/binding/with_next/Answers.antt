use Rattle.std.proofs.Common.{◌++◌, ◌∷◌, [], sym, subst, ◌∙◌}
use Rattle.std.proofs.lemmas.Bool.{false≢true}
use Rattle.p21_schema.specs.declared.declarations.Form.{Form as Coded}
use Rattle.p21_schema.specs.Declaration.{IsResolvedForm}
use Rattle.p21_check.specs.declared.binding.Binding.{Binding}
use Rattle.p21_check.specs.Bound.{IsBound}
use Rattle.p21_check.specs.Sets.{HasEntity}
use Rattle.p21_check.proofs.SlotLemmas.{derived_form}
use Rattle.p21_check.proofs.BoundLemmas.{ancestor_there, explicit_there, first, higher, lower, new, none_derived, passed_over, still_derived}
use Rattle.p21_check.proofs.binding.with_next.Goals as goal

pub returns-then-not-is_in_set : goal.returns-then-not-is_in_set
returns-then-not-is_in_set c ds d so_far r =
    let s = c.args.schema.now in
    let set = HasEntity s c.args.set.now in
    passed_over s set ds d (λ by. false≢true (sym c.if-not-is_in_set.true ∙ c.is_in_set.ensures.1 (subst set (sym r.entity) by))) c.args.so_far so_far

pub returns-in-Derived : goal.returns-in-Derived
returns-in-Derived c ds d so_far r =
    let s = c.args.schema.now in
    let set = HasEntity s c.args.set.now in
    let form = derived_form s d.form (subst (λ (f : Coded). IsResolvedForm s f d.form) c.in-Derived.is r.form) in
    (d, new s set ds d, (subst set r.entity (c.is_in_set.ensures.0 c.if-not-is_in_set.false), form))

pub returns-in-Free : goal.returns-in-Free
returns-in-Free c ds d so_far r =
    let s = c.args.schema.now in
    let set = HasEntity s c.args.set.now in
    let by = subst set r.entity (c.is_in_set.ensures.0 c.if-not-is_in_set.false) in
    let explicit = explicit_there s c.args.next.now.form d.form r.form c.in_default.not-Derived in
    (d, (r, first s set ds d by explicit (subst (λ (b : Binding). IsBound s set ds b) c.in-Free.is so_far)))

pub returns-then-is_below : goal.returns-then-is_below
returns-then-is_below c ds d so_far r =
    let s = c.args.schema.now in
    let set = HasEntity s c.args.set.now in
    let by = subst set r.entity (c.is_in_set.ensures.0 c.if-not-is_in_set.false) in
    let explicit = explicit_there s c.args.next.now.form d.form r.form c.in_default.not-Derived in
    let l = subst (λ (b : Binding). IsBound s set ds b) c.in-By.is so_far in
    (d, (r, lower s set ds d by explicit l.0 l.1.1 (ancestor_there s c.args.next.now c.in-By.lowest.now d l.0 r l.1.0 (c.is_below.ensures.0 c.if-is_below.true))))

pub returns-then-is_below-2 : goal.returns-then-is_below-2
returns-then-is_below-2 c ds d so_far r =
    let s = c.args.schema.now in
    let set = HasEntity s c.args.set.now in
    let by = subst set r.entity (c.is_in_set.ensures.0 c.if-not-is_in_set.false) in
    let explicit = explicit_there s c.args.next.now.form d.form r.form c.in_default.not-Derived in
    let l = subst (λ (b : Binding). IsBound s set ds b) c.in-By.is so_far in
    subst (λ (b : Binding). IsBound s set (ds ++ d ∷ []) b) (sym c.in-By.is)
    (l.0, (l.1.0, higher s set ds d by explicit l.0 l.1.1 (ancestor_there s c.in-By.lowest.now c.args.next.now l.0 d l.1.0 r (c.is_below-else-is_below.ensures.0 c.if-is_below-2.true))))

pub returns-else-is_below-2 : goal.returns-else-is_below-2
returns-else-is_below-2 c ds d so_far r =
    let s = c.args.schema.now in
    let set = HasEntity s c.args.set.now in
    let explicit = explicit_there s c.args.next.now.form d.form r.form c.in_default.not-Derived in
    let l = subst (λ (b : Binding). IsBound s set ds b) c.in-By.is so_far in
    none_derived s set ds d l.1.1.explicit (λ k. explicit k.1)

pub returns-in-Derived-so_far : goal.returns-in-Derived-so_far
returns-in-Derived-so_far c ds d so_far r =
    let s = c.args.schema.now in
    let set = HasEntity s c.args.set.now in
    still_derived s set ds d (subst (λ (b : Binding). IsBound s set ds b) c.in-Derived-so_far.is so_far)

pub returns-in-Unsaid : goal.returns-in-Unsaid
returns-in-Unsaid c ds d so_far r =
    let s = c.args.schema.now in
    let set = HasEntity s c.args.set.now in
    let explicit = explicit_there s c.args.next.now.form d.form r.form c.in_default.not-Derived in
    none_derived s set ds d (subst (λ (b : Binding). IsBound s set ds b) c.in-Unsaid.is so_far) (λ k. explicit k.1)
