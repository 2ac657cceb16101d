use Rattle.std.proofs.Common.{◌≡◌, ◌<◌, ◌≤◌, ◌+◌, ◌++◌, ◌∷◌, [], ℕ, List, length, get_or, take, sym, ap, subst, ◌∙◌, arith}
use Rattle.std.specs.Prelude.{Vec}
use Rattle.std.proofs.lemmas.List.{length-map, get_or-map, length-append}
use Rattle.std.specs.Cmp.Lexicographic.{bytes_decides}
use Rattle.std.proofs.lemmas.Bool.{false≢true}
use Rattle.p21_express.specs.Schema.{Attribute}
use Rattle.p21_express.specs.Plain.{plain_entity, plain_attribute}
use Rattle.p21_express.specs.WellFormed.{IsIn, new_explicit}
use Rattle.p21_schema.proofs.RowLemmas.{new_place, new_more, new_same, is_new, is_again}
use Rattle.p21_schema.proofs.DeclarationLemmas.{not_last}
use Rattle.p21_schema.proofs.declarations.own_position.Goals as goal
use Rattle.p21_schema.proofs.declarations.own_position.Goals.{then-is_none+else-eq, else-is_none}

pub returns-then-eq : goal.returns-then-eq
returns-then-eq c =
    let items = c.args.entity.now.attributes.items in
    let xs = (plain_entity c.args.entity.now).attributes in
    let k = c.loop-attribute.attribute-index in
    let item = c.attribute-item.result in
    let less : k < length items = rw (← c.deref-attribute-items.ensures.value) c.loop-attribute-test.true in
    let less' : k < length xs = rw (length-map items plain_attribute) less in
    let is : item ≡ get_or items k item = rw (← c.deref-attribute-items.ensures.value) c.attribute-item.is in
    let at : get_or xs k (plain_attribute item) ≡ plain_attribute item = get_or-map plain_attribute items k item (plain_attribute item) less ∙ ap plain_attribute (sym is) in
    let p = new_place xs k (plain_attribute item) less' (ap (λ (a : Attribute). a.of) at ∙ is_new (λ (n : Vec ℕ _). n.items) item.of c.is_none.result c.is_none.ensures c.if-is_none.true) in
    let same : item.name.items ≡ c.args.name.now = sym c.as_slice.ensures.value ∙ (bytes_decides c.as_slice.result.now c.args.name.now).0 (sym c.eq.ensures ∙ c.if-eq.true) in
    (subst (λ u. u < length (new_explicit xs)) (sym c.loop-attribute.invariant.position) p.0, ap (λ (u : ℕ). get_or (new_explicit xs) u []) c.loop-attribute.invariant.position ∙ p.1 ∙ ap (λ (a : Attribute). a.name) at ∙ same)

pub loop-attribute-preserved : goal.loop-attribute-preserved
loop-attribute-preserved c =
    let items = c.args.entity.now.attributes.items in
    let xs = (plain_entity c.args.entity.now).attributes in
    let k = c.loop-attribute.attribute-index in
    let item = c.attribute-item.result in
    let less : k < length items = rw (← c.deref-attribute-items.ensures.value) c.loop-attribute-test.true in
    let less' : k < length xs = rw (length-map items plain_attribute) less in
    let is : item ≡ get_or items k item = rw (← c.deref-attribute-items.ensures.value) c.attribute-item.is in
    let at : get_or xs k (plain_attribute item) ≡ plain_attribute item = get_or-map plain_attribute items k item (plain_attribute item) less ∙ ap plain_attribute (sym is) in
    let inv = c.loop-attribute.invariant in
    elim c.if-is_none.branch [
      | then-is_none+else-eq w ↦
          let new : (get_or xs k (plain_attribute item)).of ≡ _ = ap (λ (a : Attribute). a.of) at ∙ is_new (λ (n : Vec ℕ _). n.items) item.of c.is_none.result c.is_none.ensures w.if-is_none.true in
          let more = new_more xs k (plain_attribute item) less' new ∙ ap (λ (a : Attribute). new_explicit (take k xs) ++ a.name ∷ []) at in
          let other : ¬ (item.name.items ≡ c.args.name.now) = λ e. false≢true (sym (sym w.eq.ensures ∙ w.if-eq.false) ∙ (bytes_decides w.as_slice.result.now c.args.name.now).1 (w.as_slice.ensures.value ∙ e)) in
          record {
            position = w.position-is ∙ ap (λ (n : ℕ). n + 1) inv.position ∙ sym (ap length more ∙ length-append (new_explicit (take k xs)) (item.name.items ∷ []));
            few = subst (λ (u : ℕ). u ≤ k + 1) (sym w.position-is) (omega (arith, inv.few));
            absent = subst (λ (u : List (List ℕ)). ¬ (IsIn u c.args.name.now)) (sym more) (not_last (new_explicit (take k xs)) item.name.items c.args.name.now inv.absent other);
          }
      | else-is_none w ↦
          let some = is_again (λ (n : Vec ℕ _). n.items) item.of c.is_none.result c.is_none.ensures w.if-is_none.false in
          let same = new_same xs k (plain_attribute item) some.0 less' (ap (λ (a : Attribute). a.of) at ∙ some.1) in
          record {
            position = w.position-is ∙ inv.position ∙ ap length (sym same);
            few = subst (λ (u : ℕ). u ≤ k + 1) (sym w.position-is) (omega (arith, inv.few));
            absent = subst (λ (u : List (List ℕ)). ¬ (IsIn u c.args.name.now)) (sym same) inv.absent;
          }
    ]
