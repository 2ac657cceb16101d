use Rattle.std.proofs.Common.{◌≡◌, ◌<◌, ◌++◌, ◌∷◌, [], List, ℕ, length, get_or, sym, ap, ◌∙◌}
use Rattle.std.specs.Prelude.{Vec}
use Rattle.std.proofs.lemmas.List.{length-map, get_or-map}
use Rattle.p21_express.specs.Schema.{Attribute}
use Rattle.p21_express.specs.Plain.{plain_entity, plain_attribute}
use Rattle.p21_graph.specs.Graph.{rows_of}
use Rattle.p21_graph.specs.GraphLaws.{rows_push}
use Rattle.p21_schema.specs.declared.declarations.Declaration.{Declaration}
use Rattle.p21_schema.proofs.RowLemmas.{lists_more, lists_same, is_new, is_again}
use Rattle.p21_schema.proofs.rows.push_lists.Goals as goal
use Rattle.p21_schema.proofs.rows.push_lists.Goals.{then-is_none+in_ok-push, else-is_none}

pub loop-attribute-preserved : goal.loop-attribute-preserved
loop-attribute-preserved c =
    let items = c.args.entity.now.attributes.items in
    let xs = (plain_entity c.args.entity.now).attributes in
    let k = c.loop-attribute.attribute-index in
    let item = c.attribute-item.result in
    let less : k < length items = rw (← c.deref-attribute-items.ensures.value) c.loop-attribute-test.true in
    let less' : k < length xs = rw (length-map items plain_attribute) less in
    let is : item ≡ get_or items k item = rw (← c.deref-attribute-items.ensures.value) c.attribute-item.is in
    let at : get_or xs k (plain_attribute item) ≡ plain_attribute item = get_or-map plain_attribute items k item (plain_attribute item) less ∙ ap plain_attribute (sym is) in
    elim c.if-is_none.branch [
      | then-is_none+in_ok-push w ↦
          let at_new : _ = ap (λ (a : Attribute). a.of) at ∙ is_new (λ (n : Vec ℕ _). n.items) item.of c.is_none.result c.is_none.ensures w.if-is_none.true in
          rw w.lists-is (rows_push c.loop-attribute.lists w.push.new.self w.new.result w.in_ok-push.ensures.items ∙ ap (λ (u : List Declaration). rows_of c.loop-attribute.lists ++ u ∷ []) w.new.ensures.items ∙ lists_more xs k (plain_attribute item) (rows_of c.args.lists.now) (rows_of c.loop-attribute.lists) less' c.loop-attribute.invariant at_new)
      | else-is_none w ↦
          let some = is_again (λ (n : Vec ℕ _). n.items) item.of c.is_none.result c.is_none.ensures w.if-is_none.false in
          rw w.lists-is (lists_same xs k (plain_attribute item) some.0 (rows_of c.args.lists.now) (rows_of c.loop-attribute.lists) less' c.loop-attribute.invariant (ap (λ (a : Attribute). a.of) at ∙ some.1))
    ]
